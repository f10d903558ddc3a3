-- What a tick leaves of a receiver, once the view that it lent is gone, and what its event shows.
use mathlib.Core.Option.{none}
use Rattle.std.specs.Prelude.{◌≡◌, ◌≤◌, Bool, length, Option, Some, None, ⊤}
use Rattle.std.specs.Borrow.{MutBor, Fml, follows_so}
use Rattle.t1s_symbols.specs.declared.Heard.{Heard}
use Rattle.t1s_pcs_rx.specs.declared.receiver.RxEvent.{RxEvent}
use Rattle.t1s_pcs_rx.specs.declared.receiver.RxEvent.TheVariants.{Nothing, Piece}
use Rattle.t1s_pcs_rx.specs.contracts.receiver.PcsRx.{the_row}
use Rattle.t1s_pcs_rx.specs.Receiver.{Receiver}
use Rattle.t1s_pcs_rx.specs.ReceiveTable.{receive_step}
use Rattle.t1s_pcs_rx.specs.Views.{View, view_shown}

-- what an event shows
abbrev pub event_shown : RxEvent → Option View
event_shown Nothing = None
event_shown (Piece view) = Some (view_shown view)

-- the frame that an event lends is none of more than 1522 octets
abbrev pub EventFits : RxEvent → Type 0
EventFits Nothing = ⊤
EventFits (Piece view) = length view.frame.now ≤ 1522

abbrev pub LeavesReceiver : MutBor Receiver → Heard → Bool → Fml
LeavesReceiver r h own = follows_so the_row the_row r.ghost_name none (λ _ _. ⊤) (λ n. n ≡ receive_step r.now h own)
