-- The frame of an offer is a frame.
use Rattle.std.proofs.Common.{◌≡◌, ℕ, ◌+◌, ◌-◌, ◌/◌, ◌%◌, ◌<◌, ◌≤◌, List, [], ◌∷◌, ◌++◌, length, replicate, ap, sym, ◌∙◌, arith, length-append}
use Rattle.std.specs.List.{All}
use Rattle.std.proofs.lemmas.List.{length-replicate, take_at, drop_at}
use Rattle.std.proofs.lemmas.List.Elements.{All-nil, All-cons, All-append, All-replicate}
use Rattle.t1s_frame.specs.Frame.{EndsWithCheck, IsFrame, frame_of, padded}
use Rattle.t1s_frame.specs.FrameCheck.{check_octets, frame_check}

abbrev IsOctet : ℕ → Type 0
IsOctet x = x < 256

check_octets-octets : (check : ℕ) → All IsOctet (check_octets check)
check_octets-octets check =
    let a = check % 256 in
    let b = check / 256 % 256 in
    let c = check / 65536 % 256 in
    let d = check / 16777216 % 256 in
    All-cons IsOctet a (b ∷ c ∷ d ∷ []) (omega arith)
    (All-cons IsOctet b (c ∷ d ∷ []) (omega arith)
    (All-cons IsOctet c (d ∷ []) (omega arith) (All-cons IsOctet d [] (omega arith) (All-nil IsOctet))))

-- octets, and after them their check sequence
EndsWithCheck-append : (xs : List ℕ) → EndsWithCheck (xs ++ check_octets (frame_check xs))
EndsWithCheck-append xs =
    let ys = check_octets (frame_check xs) in
    let at : length xs ≡ length (xs ++ ys) - 4 = omega (arith, length-append xs ys) in
    drop_at xs ys (length (xs ++ ys) - 4) at
    ∙ ap (λ zs. check_octets (frame_check zs)) (sym (take_at xs ys (length (xs ++ ys) - 4) at))

length-padded : (xs : List ℕ) → length (padded xs) ≡ length xs + (60 - length xs)
length-padded xs =
    length-append xs (replicate (60 - length xs) 0) ∙ ap (λ n. length xs + n) (length-replicate (60 - length xs) 0)

pub length-frame_of : (xs : List ℕ) → length (frame_of xs) ≡ length xs + (60 - length xs) + 4
unfolding frame_of
length-frame_of xs =
    length-append (padded xs) (check_octets (frame_check (padded xs))) ∙ ap (λ n. n + 4) (length-padded xs)

pub IsFrame-frame_of : (xs : List ℕ) → length xs ≤ 1518 → All (λ x. x < 256) xs → IsFrame (frame_of xs)
unfolding frame_of
IsFrame-frame_of xs fits octets =
    let long = length-frame_of xs in
    record {
      shortest = omega arith;
      longest = omega arith;
      ranges =
          All-append IsOctet (padded xs) (check_octets (frame_check (padded xs)))
          (All-append IsOctet xs (replicate (60 - length xs) 0) octets (All-replicate IsOctet (60 - length xs) 0 (omega arith)))
          (check_octets-octets (frame_check (padded xs)));
      checked = EndsWithCheck-append (padded xs);
    }
