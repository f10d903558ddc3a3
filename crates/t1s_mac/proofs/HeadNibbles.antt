-- The nibbles of a queue's first frame.
use Rattle.std.proofs.Common.{◌≡◌, ℕ, ◌<◌, List, length, Some, slice_get, slice_index, unwrap_or, ap, sym, ◌∙◌, subst, arith}
use Rattle.std.proofs.lemmas.Option.{unwrap_or-slice_get}
use Rattle.t1s_frame.specs.Frame.{nibble_list}
use Rattle.t1s_ring.specs.Queue.{Queue}
use Rattle.t1s_ring.specs.declared.queued.Queued.{Queued}
use Rattle.t1s_mac.specs.State.{head_nibbles, nibbles_in}

-- every frame has nibbles
pub nibbles_some : (octets : List ℕ) → 0 < length (nibble_list octets)
unfolding nibble_list
nibbles_some octets = omega arith

pub head_nibbles_is : (q : Queue) (head : Queued) → slice_get q.frames 0 ≡ Some head → head_nibbles q ≡ nibble_list head.frame
head_nibbles_is q head e = ap nibbles_in e

pub head_nibbles_some : (q : Queue) (head : Queued) → slice_get q.frames 0 ≡ Some head → 0 < length (head_nibbles q)
head_nibbles_some q head e =
    let Some_of : List ℕ → Type 0 = λ xs. 0 < length xs in
    subst Some_of (sym (head_nibbles_is q head e)) (nibbles_some head.frame)

-- a nibble that is read with 0 past the end
pub head_nibble : (q : Queue) (head : Queued) (place : ℕ) → slice_get q.frames 0 ≡ Some head → unwrap_or (slice_get (nibble_list head.frame) place) 0 ≡ slice_index (head_nibbles q) place
head_nibble q head place e =
    unwrap_or-slice_get (nibble_list head.frame) place 0 ∙ ap (λ xs. slice_index xs place) (sym (head_nibbles_is q head e))
