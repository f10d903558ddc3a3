-- What the lines of a generated text say.
use Rattle.std.proofs.Common.{◌≡◌, ℕ, ◌+◌, ◌^◌, ◌<◌, ◌≤◌, true, cond, [], ◌∷◌, length, replicate, Some, Ok, Err, refl, ap, ◌∙◌, arith}
use Rattle.std.specs.Prelude.{codes, decimal}
use Rattle.std.specs.Cmp.Derive.{both_true}
use Rattle.std.proofs.lemmas.List.{length-replicate}
use borrow.Author.Tests.{le-leb}
use Rattle.hex.specs.Hex.{encode_lower}
use Rattle.hex.proofs.HexLemmas.{decode_of-encode_lower}
use Rattle.t1s_base.specs.Limits.{early_last_node, early_most_ticks}
use Rattle.t1s_base.specs.Numbers.{number_of}
use Rattle.t1s_base.proofs.Digits.{number_of-decimal}
use Rattle.t1s_frame.specs.Frame.{frame_of}
use Rattle.t1s_script.specs.Settings.{setting_range}
use Rattle.t1s_script.specs.FrameTexts.{fill_frame, frame_filled, sole_octet}
use Rattle.t1s_script.specs.ParsedLine.{up_to, is_within, one_within, three_within, says, fills}
use Rattle.t1s_script.specs.declared.refusals.ScriptReason.TheVariants.{OutOfRange, FrameSize}
use Rattle.t1s_script.specs.declared.words.Range.{Range}
use Rattle.t1s_script.specs.declared.words.Setting.TheVariants.{Count}
use Rattle.t1s_script.specs.declared.words.ScriptLine.TheVariants.{Set, Seed, Node, Offer, End}
use Rattle.t1s_generator.specs.Generated.{line, node_line, place_of, fill_line, number_of_frame, length_of_frame, octet_of_frame, tick_after, end_line, end_of_run}
use Rattle.t1s_generator.proofs.LineFields.{decimal_field, hex_field, one_byte}
use Rattle.t1s_generator.proofs.ReadLines.{IsRead, line_read}
use Rattle.t1s_generator.proofs.Words.{tick_high}

-- ---- numbers

in_range : (range : Range) (n : ℕ) → range.least ≤ n → n ≤ range.greatest → is_within range n ≡ true
in_range range n low high = both_true (le-leb range.least n low) (le-leb n range.greatest high)

one_said : (range : Range) (n : ℕ) → range.least ≤ n → n ≤ range.greatest → n < 10 ^ 10 → one_within range (number_of (decimal n)) ≡ Ok n
one_said range n low high small =
    ap (one_within range) (number_of-decimal n small) ∙ ap (λ b. cond b (Ok n) (Err OutOfRange)) (in_range range n low high)

three_said : (first second third a b c : ℕ) → a ≤ first → b ≤ second → c ≤ third → a < 10 ^ 10 → b < 10 ^ 10 → c < 10 ^ 10
    → three_within (up_to first) (up_to second) (up_to third) (number_of (decimal a)) (number_of (decimal b)) (number_of (decimal c)) ≡ Ok (a, b, c)
three_said first second third a b c ah bh ch al bl cl =
    ap (λ o. three_within (up_to first) (up_to second) (up_to third) o (number_of (decimal b)) (number_of (decimal c))) (number_of-decimal a al)
    ∙ ap (λ o. three_within (up_to first) (up_to second) (up_to third) (Some a) o (number_of (decimal c))) (number_of-decimal b bl)
    ∙ ap (λ o. three_within (up_to first) (up_to second) (up_to third) (Some a) (Some b) o) (number_of-decimal c cl)
    ∙ ap (λ x. cond x (Ok (a, b, c)) (Err OutOfRange))
    (both_true (both_true (in_range (up_to first) a (omega arith) ah) (in_range (up_to second) b (omega arith) bh)) (in_range (up_to third) c (omega arith) ch))

-- an octet that is written as two digits, as often as a frame may have octets
frame_said : (count octet : ℕ) → 14 ≤ count → count ≤ 1518 → octet < 256 → fill_frame count (encode_lower (octet ∷ [])) ≡ Ok (frame_of (replicate count octet))
frame_said count octet low high small =
    let size = length-replicate count octet in
    ap (λ r. frame_filled count (sole_octet r)) (decode_of-encode_lower (octet ∷ []) (one_byte octet small))
    ∙ ap (λ b. cond b (Ok (frame_of (replicate count octet))) (Err FrameSize))
    (both_true (le-leb 14 (length (replicate count octet)) (omega arith)) (le-leb (length (replicate count octet)) 1518 (omega arith)))

-- ---- lines

pub count_read : (n : ℕ) → 1 ≤ n → n ≤ 16 → IsRead (line (codes "count" ∷ decimal n ∷ [])) (Ok (Set Count n))
count_read n low high =
    line_read (codes "count") (decimal n ∷ []) _ (record { octets = refl; short = omega arith }, (decimal_field n (omega arith), tt)) (omega arith) refl
    (ap (says (λ k. Set Count k)) (one_said (setting_range Count) n low (omega arith) (omega arith)))

pub seed_read : (n : ℕ) → n ≤ 4294967295 → IsRead (line (codes "seed" ∷ decimal n ∷ [])) (Ok (Seed n))
seed_read n high =
    line_read (codes "seed") (decimal n ∷ []) _ (record { octets = refl; short = omega arith }, (decimal_field n (omega arith), tt)) (omega arith) refl
    (ap (says (λ k. Seed k)) (one_said (up_to 4294967295) n (omega arith) high (omega arith)))

pub node_read : (seed k : ℕ) → k < 16 → IsRead (node_line seed k) (Ok (Node k k (place_of seed k)))
node_read seed k high =
    let place : place_of seed k ≤ 12 = omega arith in
    line_read (codes "node") (decimal k ∷ decimal k ∷ decimal (place_of seed k) ∷ []) _
    (record { octets = refl; short = omega arith }, (decimal_field k (omega arith), (decimal_field k (omega arith), (decimal_field (place_of seed k) (omega arith), tt)))) (omega arith) refl
    (ap (says (λ n. Node n.0 n.1 n.2)) (three_said early_last_node 255 255 k k (place_of seed k) (omega arith) (omega arith) (omega arith) (omega arith) (omega arith) (omega arith)))

-- a frame with these numbers
fill_read : (tick number count octet : ℕ) → tick ≤ early_most_ticks → number ≤ early_last_node → 14 ≤ count → count ≤ 1518 → octet < 256
    → IsRead (line (codes "fill" ∷ decimal tick ∷ decimal number ∷ decimal count ∷ encode_lower (octet ∷ []) ∷ [])) (Ok (Offer tick number (frame_of (replicate count octet))))
fill_read tick number count octet in_run is_node low high small =
    line_read (codes "fill") (decimal tick ∷ decimal number ∷ decimal count ∷ encode_lower (octet ∷ []) ∷ []) _
    (record { octets = refl; short = omega arith }, (decimal_field tick (omega arith), (decimal_field number (omega arith), (decimal_field count (omega arith), (hex_field octet small, tt))))) (omega arith) refl
    (ap (λ r. fills r (encode_lower (octet ∷ []))) (three_said early_most_ticks early_last_node 9999999999 tick number count in_run is_node (omega arith) (omega arith) (omega arith) (omega arith))
    ∙ ap (says (λ octets. Offer tick number octets)) (frame_said count octet low high small))

pub frame_read : (seed nodes k : ℕ) → 1 ≤ nodes → nodes ≤ 16 → k < 400
    → IsRead (fill_line seed nodes k) (Ok (Offer (tick_after seed nodes (k + 1)) (number_of_frame seed nodes k) (frame_of (replicate (length_of_frame seed nodes k) (octet_of_frame seed nodes k)))))
frame_read seed nodes k some few below =
    fill_read (tick_after seed nodes (k + 1)) (number_of_frame seed nodes k) (length_of_frame seed nodes k) (octet_of_frame seed nodes k)
    (omega (arith, tick_high seed nodes (k + 1))) (omega arith) (omega arith) (omega arith) (omega arith)

pub end_read : (seed nodes frames : ℕ) → frames ≤ 400 → IsRead (end_line seed nodes frames) (Ok (End (end_of_run seed nodes frames)))
end_read seed nodes frames few =
    let high = tick_high seed nodes frames in
    line_read (codes "end") (decimal (end_of_run seed nodes frames) ∷ []) _ (record { octets = refl; short = omega arith }, (decimal_field (end_of_run seed nodes frames) (omega arith), tt)) (omega arith) refl
    (ap (says (λ k. End k)) (one_said (record { least = 1; greatest = early_most_ticks }) (end_of_run seed nodes frames) (omega arith) (omega arith) (omega arith)))
