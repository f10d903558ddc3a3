-- What contracts see of the sources and sinks in memory and of those over a reader or a writer.
use Rattle.std.specs.Prelude.{ℕ, ◌+◌, Bool, not, ◌&&◌, ◌==◌, List, length, nat_le, Option}
use Rattle.std.specs.List.{list_any}
use Rattle.t1s_base.specs.Causes.{count_after_fault}

-- The calls of an object whose faults are planned: the numbers of those that fail, counted from 1,
-- how many calls were made, and how many of them failed.
pub record CallsState : Type 0 where
  pub fails : List ℕ
  pub made : ℕ
  pub failed : ℕ

-- no call was made yet
abbrev pub no_calls : List ℕ → CallsState
no_calls fails = record { fails = fails; made = 0; failed = 0 }

-- the number of the next call is one of those that fail
abbrev pub is_next_listed : CallsState → Bool
is_next_listed calls = list_any (λ number. number == count_after_fault calls.made) calls.fails

-- after one more call that did not fail
abbrev pub after_call : CallsState → CallsState
after_call calls = record calls { made = count_after_fault calls.made }

-- after one more call that failed
abbrev pub after_fault : CallsState → CallsState
after_fault calls = record calls { made = count_after_fault calls.made; failed = count_after_fault calls.failed }

-- a source in memory: the octets that are left, and its calls
pub record SourceState : Type 0 where
  pub left : List ℕ
  pub calls : CallsState

-- a sink in memory: the octets that were written, how many fit, its calls, and whether it is finished
pub record SinkState : Type 0 where
  pub octets : List ℕ
  pub room : ℕ
  pub calls : CallsState
  pub finished : Bool

-- the next write is not one of those that fail, and its piece fits
abbrev pub is_taken : SinkState → List ℕ → Bool
is_taken sink piece = not (is_next_listed sink.calls) && nat_le (length sink.octets + length piece) sink.room

-- a source over a reader: what the reader has left, where it tells it, and the count of faults
pub record ReaderState : Type 0 where
  pub remaining : Option (List ℕ)
  pub faults : ℕ

-- a sink over a writer: what the writer holds, where it tells it, the count of faults, and whether it is finished
pub record WriterState : Type 0 where
  pub contents : Option (List ℕ)
  pub faults : ℕ
  pub finished : Bool
