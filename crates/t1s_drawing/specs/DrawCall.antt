-- The words that the program takes, and what a call has done.
use Rattle.std.specs.Prelude.{◌≡◌, ◌≢◌, ℕ, ◌&&◌, Bool, List, [], ◌∷◌, ◌++◌, map, nat_lt, nat_le, codes, Option, Some, None, IfSome, if◌then◌else◌}
use Rattle.std.specs.Str.{bytes_eq}
use Rattle.std.specs.String.{string_bytes}
use Rattle.std.specs.declared.string.String.{String}
use Rattle.std.proofs.Common.{Global}
use Rattle.t1s_base.specs.Octets.{Gives, GrowsByPrefix}
use Rattle.t1s_drawing.specs.Calls.{HasFaultCause}
use Rattle.t1s_drawing.specs.Drawn.{DrawEnd}
use Rattle.t1s_drawing.specs.Written.{drawing_of}
use Rattle.t1s_drawing.specs.ReadLines.{small_number}
use Rattle.t1s_drawing.specs.declared.status.Status.{Status}
use Rattle.t1s_drawing.specs.declared.status.Status.TheVariants.{Done, ReadFault}
use Rattle.t1s_drawing.specs.declared.window.Form.{Form}
use Rattle.t1s_drawing.specs.declared.window.Form.TheVariants.{Picture, Waveform}
use Rattle.t1s_drawing.specs.declared.window.Window.{Window}

-- a window has a tick, and 1 to 32 nodes
abbrev pub window_of : Form → Option ℕ → Option ℕ → Option ℕ → Option Window
window_of form (Some from) (Some until) (Some nodes) =
    if nat_lt from until && nat_lt 0 nodes && nat_le nodes 32 then Some (record { form = form; from = from; until = until; nodes = nodes; heard = None }) else None
window_of form _ _ _ = None

abbrev pub picture_window : List ℕ → List ℕ → List ℕ → List ℕ → Option Window
picture_window word from until nodes =
    if bytes_eq word (codes "picture") then window_of Picture (small_number from) (small_number until) (small_number nodes) else None

abbrev pub dump_window : List ℕ → List ℕ → List ℕ → Option Window
dump_window word until nodes = if bytes_eq word (codes "wave") then window_of Waveform (Some 0) (small_number until) (small_number nodes) else None

-- the window that also shows what a node hears, one of its nodes
abbrev pub hearing : Option Window → Option ℕ → Option Window
hearing (Some w) (Some node) =
    if nat_lt node w.nodes then Some (record { form = w.form; from = w.from; until = w.until; nodes = w.nodes; heard = Some node }) else None
hearing _ _ = None

abbrev pub heard_window : List ℕ → List ℕ → List ℕ → List ℕ → Option Window
heard_window word until nodes node = hearing (dump_window word until nodes) (small_number node)

-- the window that words name: `picture`, the first tick, the tick after the last one, and how many nodes there are; or
-- `wave`, the tick after the last one, how many nodes there are, and then nothing or the node of which it shows what it hears
abbrev pub window_in : List (List ℕ) → Option Window
window_in (word ∷ first ∷ second ∷ third ∷ []) = if bytes_eq word (codes "picture") then picture_window word first second third else heard_window word first second third
window_in (word ∷ until ∷ nodes ∷ []) = dump_window word until nodes
window_in _ = None

abbrev pub word_octets : List (String Global) → List (List ℕ)
word_octets words = map string_bytes words

abbrev pub AreWords : List (String Global) → Window → Type 0
AreWords words w = window_in (word_octets words) ≡ Some w

-- It took some octets, where `left` tells what the source has left, and has others left. Only a failed read ends it
-- before the drawing has ended; what stands written then begins what is written for what was taken, whatever follows it.
pub record DrawCall {S K : Type 0} (left : S → Option (List ℕ)) (read_faults : S → ℕ) (written : K → Option (List ℕ)) (write_faults : K → ℕ) (finished : K → Bool) (w : Window) (source source' : S) (sink sink' : K) (status : Status) : Type 0 where
  pub cause : HasFaultCause (read_faults source) (read_faults source') ReadFault status
  pub taken : List ℕ
  pub beyond : List ℕ
  pub gives : Gives (left source) (left source') taken
  pub rest : IfSome (left source') (λ octets. beyond ≡ octets)
  pub failed : status ≡ ReadFault → (write_faults sink' ≡ write_faults sink) × ((more : List ℕ) → GrowsByPrefix (written sink) (written sink') (drawing_of w (taken ++ more)).text)
  pub ended : status ≢ ReadFault → DrawEnd written write_faults finished w (taken ++ beyond) sink sink' status
  pub whole : status ≡ Done → beyond ≡ []
