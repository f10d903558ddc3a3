-- The ticks of a symbol, while a burst is read.
use Rattle.std.proofs.Common.{◌≡◌, refl, ℕ, Bool, false, List, [], ◌∷◌, ◌++◌, sym, ap, ◌∙◌, append_assoc}
use Rattle.std.specs.Prelude.{Option, Some, None, Ok}
use Rattle.t1s_symbols.specs.declared.Quarter.{Quarter}
use Rattle.t1s_symbols.specs.declared.Class.{Class}
use Rattle.t1s_symbols.specs.declared.Heard.{Heard}
use Rattle.t1s_symbols.specs.declared.Heard.TheVariants.{One}
use Rattle.t1s_symbols.specs.declared.Symbol.{Symbol}
use Rattle.t1s_symbols.proofs.Quarters.{same_symbol-refl}
use Rattle.t1s_grammar.specs.declared.place.Phase.{Phase}
use Rattle.t1s_grammar.specs.PlaceTable.{place_step, lead_at, nibbles_at}
use Rattle.t1s_pcs_rx.specs.declared.reader.Burst.TheVariants.{Reading}
use Rattle.t1s_pcs_rx.specs.declared.reader.PieceEnd.{PieceEnd}
use Rattle.t1s_pcs_rx.specs.Receiver.{Receiver}
use Rattle.t1s_pcs_rx.specs.PieceReading.{history_after, nibbles_after}
use Rattle.t1s_pcs_rx.specs.ReceiveTable.{class_after, closed_by, closing_in, receive_step, view_closed}
use Rattle.t1s_pcs_rx.specs.Views.{View}
use Rattle.t1s_pcs_rx.specs.Laws.{events_heard, quarters}

abbrev pub quarter : Symbol → ℕ → Quarter
quarter s part = record { sym = s; part = part }

-- the last quarter of the last symbol, if there was one
abbrev pub last_of : Option Symbol → Option Quarter
last_of None = None
last_of (Some s) = Some (quarter s 3)

abbrev pub reading : Class → Option Quarter → Bool → Phase → List Bool → List ℕ → Receiver
reading class last fresh place past heard = record {
  class = class;
  burst = Reading last fresh place;
  history = past;
  nibbles = heard;
}

-- a receiver at the end of a symbol, or at the beginning of a burst
pub record At (r : Receiver) (place : Phase) (past : List Bool) (heard : List ℕ) : Type 0 where
  pub class : Class
  pub last : Option Symbol
  pub fresh : Bool
  pub is : r ≡ reading class (last_of last) fresh place past heard

pub tick : (r next : Receiver) (h : Heard) (end : Option PieceEnd) (hs : List Heard)
    → closing_in r h false ≡ end → receive_step r h false ≡ next
    → events_heard r (h ∷ hs) ≡ view_closed r.nibbles end ∷ events_heard next hs
tick r next h end hs e f = rw (e, f) refl

module _ (class : Class) (fresh : Bool) (place : Phase) (past : List Bool) (heard : List ℕ) (s : Symbol) where
  pub step-0 : (last : Option Symbol)
      → receive_step (reading class (last_of last) fresh place past heard) (One (quarter s 0)) false
      ≡ reading class (Some (quarter s 0)) fresh place past heard
  unfolding receive_step
  step-0 None = refl
  step-0 (Some t) = refl

  pub none-0 : (last : Option Symbol)
      → closing_in (reading class (last_of last) fresh place past heard) (One (quarter s 0)) false ≡ None
  unfolding closing_in
  none-0 None = refl
  none-0 (Some t) = refl

  pub step-1 : receive_step (reading class (Some (quarter s 0)) fresh place past heard) (One (quarter s 1)) false
      ≡ reading class (Some (quarter s 1)) fresh place past heard
  unfolding receive_step
  step-1 = rw (same_symbol-refl s) refl

  pub none-1 : closing_in (reading class (Some (quarter s 0)) fresh place past heard) (One (quarter s 1)) false ≡ None
  unfolding closing_in
  none-1 = rw (same_symbol-refl s) refl

  pub step-2 : receive_step (reading class (Some (quarter s 1)) fresh place past heard) (One (quarter s 2)) false
      ≡ reading class (Some (quarter s 2)) fresh place past heard
  unfolding receive_step
  step-2 = rw (same_symbol-refl s) refl

  pub none-2 : closing_in (reading class (Some (quarter s 1)) fresh place past heard) (One (quarter s 2)) false ≡ None
  unfolding closing_in
  none-2 = rw (same_symbol-refl s) refl

  pub step-3 : (next : Phase) → place_step place s ≡ Ok next
      → receive_step (reading class (Some (quarter s 2)) fresh place past heard) (One (quarter s 3)) false
      ≡ reading (class_after class fresh s) (Some (quarter s 3)) false next (history_after past s) (nibbles_after (nibbles_at place) past heard s)
  unfolding receive_step
  step-3 next e = rw (same_symbol-refl s, e) refl

  pub end-3 : (next : Phase) → place_step place s ≡ Ok next
      → closing_in (reading class (Some (quarter s 2)) fresh place past heard) (One (quarter s 3)) false
      ≡ closed_by (lead_at place) (nibbles_at place) s
  unfolding closing_in
  end-3 next e = rw (same_symbol-refl s, e) refl

-- what is heard leads from one place to another, with these events
pub record Goes (r : Receiver) (hs : List Heard) (events : List (Option View)) (place : Phase) (past : List Bool) (heard : List ℕ) : Type 0 where
  pub next : Receiver
  pub at_place : At next place past heard
  pub told : (rest : List Heard) → events_heard r (hs ++ rest) ≡ events ++ events_heard next rest

-- the events of a symbol
abbrev pub symbol_events : Phase → List ℕ → Symbol → List (Option View)
symbol_events place heard s = None ∷ None ∷ None ∷ view_closed heard (closed_by (lead_at place) (nibbles_at place) s) ∷ []

goes-read : (class : Class) (last : Option Symbol) (fresh : Bool) (place next : Phase) (past : List Bool) (heard : List ℕ) (s : Symbol)
    → place_step place s ≡ Ok next
    → Goes (reading class (last_of last) fresh place past heard) (quarters s) (symbol_events place heard s) next
    (history_after past s) (nibbles_after (nibbles_at place) past heard s)
goes-read class last fresh place next past heard s e =
    let r0 : Receiver = reading class (last_of last) fresh place past heard in
    let r1 : Receiver = reading class (Some (quarter s 0)) fresh place past heard in
    let r2 : Receiver = reading class (Some (quarter s 1)) fresh place past heard in
    let r3 : Receiver = reading class (Some (quarter s 2)) fresh place past heard in
    let r4 : Receiver = reading (class_after class fresh s) (Some (quarter s 3)) false next (history_after past s) (nibbles_after (nibbles_at place) past heard s) in
    let q0 : Heard = One (quarter s 0) in
    let q1 : Heard = One (quarter s 1) in
    let q2 : Heard = One (quarter s 2) in
    let q3 : Heard = One (quarter s 3) in
    record {
      next = r4;
      at_place = record { class = class_after class fresh s; last = Some s; fresh = false; is = refl };
      told = λ rest.
          tick r0 r1 q0 None (q1 ∷ q2 ∷ q3 ∷ rest) (none-0 class fresh place past heard s last) (step-0 class fresh place past heard s last)
          ∙ ap (λ es. None ∷ es) (tick r1 r2 q1 None (q2 ∷ q3 ∷ rest) (none-1 class fresh place past heard s) (step-1 class fresh place past heard s))
          ∙ ap (λ es. None ∷ None ∷ es) (tick r2 r3 q2 None (q3 ∷ rest) (none-2 class fresh place past heard s) (step-2 class fresh place past heard s))
          ∙ ap (λ es. None ∷ None ∷ None ∷ es) (tick r3 r4 q3 (closed_by (lead_at place) (nibbles_at place) s) rest (end-3 class fresh place past heard s next e) (step-3 class fresh place past heard s next e));
    }

pub goes-symbol : (r : Receiver) (place next : Phase) (past : List Bool) (heard : List ℕ) (s : Symbol)
    → At r place past heard → place_step place s ≡ Ok next
    → Goes r (quarters s) (symbol_events place heard s) next (history_after past s) (nibbles_after (nibbles_at place) past heard s)
goes-symbol r place next past heard s at e =
    rw (at.is) (goes-read at.class at.last at.fresh place next past heard s e)

-- one thing after the other
pub goes-then : (r : Receiver) (a b : List Heard) (ea eb : List (Option View)) (p q : Phase) (past after : List Bool) (heard new : List ℕ)
    → Goes r a ea p past heard
    → ((n : Receiver) → At n p past heard → Goes n b eb q after new)
    → Goes r (a ++ b) (ea ++ eb) q after new
goes-then r a b ea eb p q past after heard new g f =
    let h : Goes g.next b eb q after new = f g.next g.at_place in
    record {
      next = h.next;
      at_place = h.at_place;
      told = λ rest.
          ap (events_heard r) (append_assoc a b rest)
          ∙ g.told (b ++ rest)
          ∙ ap (λ es. ea ++ es) (h.told rest)
          ∙ sym (append_assoc ea eb (events_heard h.next rest));
    }
