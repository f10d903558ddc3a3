-- How far the drawing of an input has come, and how it ends.
use Rattle.std.specs.Prelude.{◌≡◌, ◌≢◌, ◌⊎◌, ℕ, ◌==◌, Bool, true, not, List, ◌++◌, Option, if◌then◌else◌}
use Rattle.std.specs.List.{list_all}
use Rattle.t1s_base.specs.Octets.{Grows, GrowsByPrefix}
use Rattle.t1s_drawing.specs.Calls.{HasFaultCause}
use Rattle.t1s_drawing.specs.Lines.{parts_of}
use Rattle.t1s_drawing.specs.Written.{Outcome, after, drawn, drawing_of}
use Rattle.t1s_drawing.specs.declared.drawing.Drawing.{Drawing}
use Rattle.t1s_drawing.specs.declared.status.Status.{Status}
use Rattle.t1s_drawing.specs.declared.status.Status.TheVariants.{Done, Refused, WriteFault}
use Rattle.t1s_drawing.specs.declared.window.Window.{Window}

-- no line feed is among the octets
abbrev pub is_in_line : List ℕ → Bool
is_in_line octets = list_all (λ octet. not (octet == 10)) octets

-- What the octets so far give was written, and what is written for them and more is that, and then what the drawing gives
-- for the line that has begun and more.
pub record Drawn {K : Type 0} (written : K → Option (List ℕ)) (faults : K → ℕ) (w : Window) (octets : List ℕ) (drawing : Drawing) (first now : K) : Type 0 where
  pub text : List ℕ
  pub grows : Grows (written first) (written now) text
  pub kept : faults now ≡ faults first
  pub in_line : is_in_line drawing.line ≡ true
  pub goes_on : (more : List ℕ) → drawing_of w (octets ++ more) ≡ after text (drawn w (parts_of (drawing.line ++ more)) drawing.progress drawing.number)

-- the answer where the whole text was written
abbrev pub status_of : Outcome → Status
status_of outcome = if outcome.refused then Refused else Done

-- The drawing of these octets, the whole input, has ended: all is written and the sink is finished, or the sink failed.
pub record DrawEnd {K : Type 0} (written : K → Option (List ℕ)) (faults : K → ℕ) (finished : K → Bool) (w : Window) (octets : List ℕ) (first now : K) (status : Status) : Type 0 where
  pub answer : (status ≡ status_of (drawing_of w octets)) ⊎ (status ≡ WriteFault)
  pub whole : status ≢ WriteFault → Grows (written first) (written now) (drawing_of w octets).text
  pub finish : status ≢ WriteFault → finished now ≡ true
  pub prefix : status ≡ WriteFault → GrowsByPrefix (written first) (written now) (drawing_of w octets).text
  pub cause : HasFaultCause (faults first) (faults now) WriteFault status

-- the drawing has ended within these octets, whatever follows them
pub record DrawStop {K : Type 0} (written : K → Option (List ℕ)) (faults : K → ℕ) (finished : K → Bool) (w : Window) (octets : List ℕ) (first now : K) (status : Status) : Type 0 where
  pub early : status ≢ Done
  pub ends : (more : List ℕ) → DrawEnd written faults finished w (octets ++ more) first now status
