-- Texts of hex digits that are decoded into room of a fixed size.
use Rattle.std.proofs.Common.{◌≡◌, ℕ, ◌*◌, ◌/◌, ◌%◌, ◌<◌, Bool, true, false, cond, leb, List, [], ◌∷◌, length, replicate, get_or, Some, None, Result, Ok, Err, refl, sym, ◌∙◌, ap, arith}
use Rattle.std.specs.Prelude.{◌&&◌, MatchResult}
use Rattle.std.specs.List.{list_all}
use Rattle.std.proofs.lemmas.Bool.Decides.{nat_tests}
use Rattle.std.proofs.lemmas.List.{length-replicate}
use Rattle.std.proofs.lemmas.List.Sums.{AllPass-from_list_all, list_all-from_AllPass}
use Rattle.hex.specs.Hex.{decode_of, decode_sized, is_hex_digit}
use Rattle.hex.specs.declared.error.FromHexError.{FromHexError}
use Rattle.hex.proofs.HexLemmas.{decode_of-digits, decode_of-odd, decode_of-ok, decode_sized-ok, decode_sized-twice}
use Rattle.t1s_frame.specs.Frame.{frame_of}
use Rattle.t1s_script.specs.FrameTexts.{frame_within, frame_decoded, hex_frame, sole_octet}
use Rattle.t1s_script.specs.declared.refusals.ScriptReason.TheVariants.{Hex, FrameSize}

-- ---- more octets than a frame has

pub too_long : (octets : List ℕ) → 1518 < length octets → frame_within octets ≡ Err FrameSize
too_long octets h = go (leb 14 (length octets)) (leb (length octets) 1518) refl
  where
    go : (a b : Bool) → leb (length octets) 1518 ≡ b → cond (a && b) (Ok (frame_of octets)) (Err FrameSize) ≡ Err FrameSize
    go true true e = absurd (grind (arith, nat_tests))
    go true false e = refl
    go false b e = refl

pub long_digits : (text : List ℕ) → 1518 < length text / 2 → length text % 2 ≡ 0 → list_all is_hex_digit text ≡ true → hex_frame text ≡ Err FrameSize
long_digits text long even digits =
    let read = decode_of-digits text even (AllPass-from_list_all is_hex_digit text digits) in
    let parts = decode_of-ok text read.0 read.1 in
    ap frame_decoded read.1 ∙ too_long read.0 (omega (arith, parts.2))

pub odd_text : (text : List ℕ) → length text % 2 ≡ 1 → hex_frame text ≡ Err Hex
odd_text text odd = ap frame_decoded (decode_of-odd text odd)

pub other_text : (text : List ℕ) → list_all is_hex_digit text ≡ false → hex_frame text ≡ Err Hex
other_text text other = go (decode_of text) refl
  where
    go : (r : Result (List ℕ) FromHexError) → decode_of text ≡ r → frame_decoded r ≡ Err Hex
    go (Err error) e = refl
    go (Ok octets) e = absurd (cc (sym (list_all-from_AllPass is_hex_digit text (decode_of-ok text octets e).1) ∙ other))

-- ---- one octet

pub one_octet : (text octets : List ℕ) → decode_sized text 1 ≡ Ok octets → sole_octet (decode_of text) ≡ Some (get_or octets 0 0)
one_octet text octets e =
    let two : length text ≡ 2 * 1 = decode_sized-ok text 1 octets e in
    let read : decode_of text ≡ Ok octets = sym (decode_sized-twice text 1 two) ∙ e in
    let size : length text ≡ 2 * length octets = (decode_of-ok text octets read).2 in
    ap sole_octet read ∙ go octets (omega arith)
  where
    go : (xs : List ℕ) → length xs ≡ 1 → sole_octet (Ok xs) ≡ Some (get_or xs 0 0)
    go [] one = absurd (omega arith)
    go (x ∷ []) one = refl
    go (x ∷ y ∷ ys) one = absurd (omega arith)

pub no_octet : (text : List ℕ) (error : FromHexError) → decode_sized text 1 ≡ Err error → sole_octet (decode_of text) ≡ None
no_octet text error e = go (decode_of text) refl
  where
    go : (r : Result (List ℕ) FromHexError) → decode_of text ≡ r → sole_octet r ≡ None
    go (Err other) read = refl
    go (Ok []) read = refl
    go (Ok (x ∷ [])) read =
        let size : length text ≡ 2 * 1 = (decode_of-ok text (x ∷ []) read).2 in
        absurd (cc (sym e ∙ decode_sized-twice text 1 size ∙ read))
    go (Ok (x ∷ y ∷ ys)) read = refl

-- ---- one octet that stands often

pub too_often : (count octet : ℕ) → 1518 < count → frame_within (replicate count octet) ≡ Err FrameSize
too_often count octet h = too_long (replicate count octet) (omega (arith, length-replicate count octet))

-- what decoding into room for one octet answers
pub no_octet_read : (text room : List ℕ) (r : Result (Unit {0}) FromHexError) (error : FromHexError)
    → MatchResult (decode_sized text 1) (λ octets. (r ≡ Ok tt) × (room ≡ octets)) (λ e. r ≡ Err e) → r ≡ Err error → sole_octet (decode_of text) ≡ None
no_octet_read text room r error answer is = go (decode_sized text 1) refl answer
  where
    go : (sized : Result (List ℕ) FromHexError) → decode_sized text 1 ≡ sized → MatchResult sized (λ octets. (r ≡ Ok tt) × (room ≡ octets)) (λ e. r ≡ Err e) → sole_octet (decode_of text) ≡ None
    go (Ok octets) here written = absurd (cc (sym written.0 ∙ is))
    go (Err e) here written = no_octet text e here
