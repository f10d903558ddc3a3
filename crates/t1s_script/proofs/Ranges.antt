-- The numbers that a line gives lie in their ranges.
use Rattle.std.proofs.Common.{◌≡◌, ℕ, ◌<◌, ◌≤◌, Bool, true, false, cond, leb, ltb, List, [], ◌∷◌, length, replicate, Option, Some, None, Result, Ok, Err, refl, subst, arith, All}
use Rattle.std.specs.Prelude.{◌&&◌}
use Rattle.std.proofs.lemmas.Bool.Decides.{nat_tests}
use Rattle.std.proofs.lemmas.List.{get_or_default}
use Rattle.std.proofs.lemmas.List.Elements.{All-replicate}
use Rattle.hex.specs.Hex.{decode_of, IsBytes}
use Rattle.hex.specs.declared.error.FromHexError.{FromHexError}
use Rattle.hex.proofs.HexLemmas.{decode_of-ok}
use Rattle.t1s_frame.specs.Frame.{IsFrame, frame_of}
use Rattle.t1s_frame.proofs.Whole.{IsFrame-frame_of}
use Rattle.t1s_base.specs.Numbers.{number_of}
use Rattle.t1s_base.specs.Limits.{last_node, most_ticks}
use Rattle.t1s_script.specs.Lines.{fields_of}
use Rattle.t1s_script.specs.Settings.{lowest, highest, setting_range}
use Rattle.t1s_script.specs.Limits.{last_draw, last_further_id, longest_stub}
use Rattle.t1s_script.specs.FrameTexts.{frame_within, frame_decoded, hex_frame, sole_octet, frame_filled, fill_frame}
use Rattle.t1s_script.specs.Versions.{last_node_of, most_ticks_of}
use Rattle.t1s_script.specs.ParsedLine.{word_in, up_to, is_within, one_within, two_within, three_within, one_number, two_numbers, three_numbers, says, offers, offer_in, fills, fill_in, lasts, line_by_word, line_in, is_skipped, parsed_line}
use Rattle.t1s_script.specs.declared.refusals.ScriptReason.{ScriptReason}
use Rattle.t1s_script.specs.declared.refusals.ScriptReason.TheVariants.{OutOfRange, FrameSize}
use Rattle.t1s_script.specs.declared.versions.Version.{Version}
use Rattle.t1s_script.specs.declared.versions.Version.TheVariants.{V1, V2, V3}
use Rattle.t1s_script.specs.declared.words.Range.{Range}
use Rattle.t1s_script.specs.declared.words.Setting.TheVariants.{To}
use Rattle.t1s_script.specs.declared.words.Word.{Word}
use Rattle.t1s_script.specs.declared.words.Word.TheVariants.{Set as SetWord, Seed as SeedWord, Node as NodeWord, Also as AlsoWord, Stub as StubWord, Late as LateWord, ToNode as ToNodeWord, Draw as DrawWord, Offer as OfferWord, Fill as FillWord, Noise as NoiseWord, End as EndWord}
use Rattle.t1s_script.specs.declared.words.ScriptLine.{ScriptLine}
use Rattle.t1s_script.specs.declared.words.ScriptLine.TheVariants.{Skipped, Set, Seed, Node, Also, Stub, Late, ToNode, Draw, Offer, Noise, End}

-- the numbers of a line are in their ranges
abbrev pub InRange : ScriptLine → Type 0
InRange Skipped = Unit {0}
InRange (Set w n) = (lowest w ≤ n) × (n ≤ highest w)
InRange (Seed n) = n ≤ 4294967295
InRange (Node number id place) = (number ≤ last_node) × (id ≤ 255) × (place ≤ 255)
InRange (Also number id) = (number ≤ last_node) × (id ≤ last_further_id)
InRange (Stub number stub) = (number ≤ last_node) × (stub ≤ longest_stub)
InRange (Late number start) = (number ≤ last_node) × (start ≤ most_ticks)
InRange (ToNode number to) = (number ≤ last_node) × (16 ≤ to) × (to ≤ 255)
InRange (Draw number draw) = (number ≤ last_node) × (draw ≤ last_draw)
InRange (Offer tick number frame) = (tick ≤ most_ticks) × (number ≤ last_node) × IsFrame frame
InRange (Noise tick until) = (tick < until) × (until ≤ most_ticks)
InRange (End last) = (1 ≤ last) × (last ≤ most_ticks)

-- ---- numbers

-- a number in its range
abbrev In : Range → ℕ → Type 0
In range n = (range.least ≤ n) × (n ≤ range.greatest)

within : (range : Range) (n : ℕ) → is_within range n ≡ true → In range n
within range n h = grind (arith, nat_tests)

one_in : (range : Range) (o : Option ℕ) (n : ℕ) → one_within range o ≡ Ok n → In range n
one_in range None n e = cc
one_in range (Some a) n e = go (is_within range a) refl e
  where
    go : (x : Bool) → is_within range a ≡ x → cond x (Ok a) (Err OutOfRange) ≡ Ok n → In range n
    go true here e = let same : a ≡ n = cc in subst (In range) same (within range a here)
    go false here e = cc

two_in : (first second : Range) (o p : Option ℕ) (ns : ℕ × ℕ) → two_within first second o p ≡ Ok ns → In first ns.0 × In second ns.1
two_in first second None p ns e = cc
two_in first second (Some a) None ns e = cc
two_in first second (Some a) (Some b) ns e = go (is_within first a) (is_within second b) refl refl e
  where
    go : (x y : Bool) → is_within first a ≡ x → is_within second b ≡ y → cond (x && y) (Ok (a, b)) (Err OutOfRange) ≡ Ok ns → In first ns.0 × In second ns.1
    go true true here there e =
        let same : (a, b) ≡ ns = cc in
        subst (λ k. In first k.0 × In second k.1) same (within first a here, within second b there)
    go true false here there e = cc
    go false y here there e = cc

three_in : (first second third : Range) (o p q : Option ℕ) (ns : ℕ × ℕ × ℕ) → three_within first second third o p q ≡ Ok ns → In first ns.0 × In second ns.1 × In third ns.2
three_in first second third None p q ns e = cc
three_in first second third (Some a) None q ns e = cc
three_in first second third (Some a) (Some b) None ns e = cc
three_in first second third (Some a) (Some b) (Some c) ns e = go (is_within first a) (is_within second b) (is_within third c) refl refl refl e
  where
    go : (x y z : Bool) → is_within first a ≡ x → is_within second b ≡ y → is_within third c ≡ z → cond (x && y && z) (Ok (a, b, c)) (Err OutOfRange) ≡ Ok ns → In first ns.0 × In second ns.1 × In third ns.2
    go true true true here there last e =
        let same : (a, b, c) ≡ ns = cc in
        subst (λ k. In first k.0 × In second k.1 × In third k.2) same (within first a here, within second b there, within third c last)
    go true true false here there last e = cc
    go true false z here there last e = cc
    go false y z here there last e = cc

-- the fields of a line, as many as its numbers
one_of : (range : Range) (fields : List (List ℕ)) (n : ℕ) → one_number range fields ≡ Ok n → In range n
one_of range [] n e = cc
one_of range (a ∷ []) n e = one_in range (number_of a) n e
one_of range (a ∷ b ∷ fs) n e = cc

two_of : (first second : Range) (fields : List (List ℕ)) (ns : ℕ × ℕ) → two_numbers first second fields ≡ Ok ns → In first ns.0 × In second ns.1
two_of first second [] ns e = cc
two_of first second (a ∷ []) ns e = cc
two_of first second (a ∷ b ∷ []) ns e = two_in first second (number_of a) (number_of b) ns e
two_of first second (a ∷ b ∷ c ∷ fs) ns e = cc

three_of : (first second third : Range) (fields : List (List ℕ)) (ns : ℕ × ℕ × ℕ) → three_numbers first second third fields ≡ Ok ns → In first ns.0 × In second ns.1 × In third ns.2
three_of first second third [] ns e = cc
three_of first second third (a ∷ []) ns e = cc
three_of first second third (a ∷ b ∷ []) ns e = cc
three_of first second third (a ∷ b ∷ c ∷ []) ns e = three_in first second third (number_of a) (number_of b) (number_of c) ns e
three_of first second third (a ∷ b ∷ c ∷ d ∷ fs) ns e = cc

-- what is said with numbers that are in range
says_range : {X : Type 0} (line : X → ScriptLine) (r : Result X ScriptReason) (l : ScriptLine) → ((x : X) → r ≡ Ok x → InRange (line x)) → says line r ≡ Ok l → InRange l
says_range line (Ok x) l range e = let same : line x ≡ l = cc in subst InRange same (range x refl)
says_range line (Err reason) l range e = cc

-- ---- frames

octets_all : (octets : List ℕ) → IsBytes octets → All (λ x. x < 256) octets
octets_all octets h k d below = subst (λ x. x < 256) (get_or_default octets k 0 d below) (h k)

frame_range : (octets f : List ℕ) → All (λ x. x < 256) octets → frame_within octets ≡ Ok f → IsFrame f
frame_range octets f h e = go (leb 14 (length octets)) (leb (length octets) 1518) refl e
  where
    go : (a b : Bool) → leb (length octets) 1518 ≡ b → cond (a && b) (Ok (frame_of octets)) (Err FrameSize) ≡ Ok f → IsFrame f
    go true true fits e = let same : frame_of octets ≡ f = cc in subst IsFrame same (IsFrame-frame_of octets (let test = fits in grind (arith, nat_tests)) h)
    go true false fits e = cc
    go false b fits e = cc

hex_range : (text f : List ℕ) → hex_frame text ≡ Ok f → IsFrame f
hex_range text f e = go (decode_of text) refl e
  where
    go : (r : Result (List ℕ) FromHexError) → decode_of text ≡ r → frame_decoded r ≡ Ok f → IsFrame f
    go (Ok octets) read e = frame_range octets f (octets_all octets (decode_of-ok text octets read).3) e
    go (Err error) read e = cc

fill_range : (count : ℕ) (text f : List ℕ) → fill_frame count text ≡ Ok f → IsFrame f
fill_range count text f e = go (decode_of text) refl e
  where
    go : (r : Result (List ℕ) FromHexError) → decode_of text ≡ r → frame_filled count (sole_octet r) ≡ Ok f → IsFrame f
    go (Ok []) read e = cc
    go (Ok (x ∷ [])) read e = frame_range (replicate count x) f (All-replicate (λ y. y < 256) count x ((decode_of-ok text (x ∷ []) read).3 0)) e
    go (Ok (x ∷ y ∷ ys)) read e = cc
    go (Err error) read e = cc

-- ---- the limits of a version

few_nodes : (version : Version) (n : ℕ) → n ≤ last_node_of version → n ≤ last_node
few_nodes V1 n low = omega arith
few_nodes V2 n low = omega arith
few_nodes V3 n low = low

few_ticks : (version : Version) (n : ℕ) → n ≤ most_ticks_of version → n ≤ most_ticks
few_ticks V1 n low = omega arith
few_ticks V2 n low = omega arith
few_ticks V3 n low = low

-- ---- lines

module _ (version : Version) where
  abbrev ticks : Range
  ticks = up_to (most_ticks_of version)

  abbrev nodes : Range
  nodes = up_to (last_node_of version)

  offers_range : (target : Result (ℕ × ℕ) ScriptReason) (frame : Result (List ℕ) ScriptReason) (l : ScriptLine)
      → ((t : ℕ × ℕ) → target ≡ Ok t → In ticks t.0 × In nodes t.1) → ((f : List ℕ) → frame ≡ Ok f → IsFrame f) → offers target frame ≡ Ok l → InRange l
  offers_range (Ok t) frame l near whole e =
      let range = near t refl in
      says_range (λ octets. Offer t.0 t.1 octets) frame l (λ f made. (few_ticks version t.0 range.0.1, few_nodes version t.1 range.1.1, whole f made)) e
  offers_range (Err reason) frame l near whole e = cc

  fills_range : (numbers : Result (ℕ × ℕ × ℕ) ScriptReason) (text : List ℕ) (l : ScriptLine)
      → ((ns : ℕ × ℕ × ℕ) → numbers ≡ Ok ns → In ticks ns.0 × In nodes ns.1 × In (up_to 9999999999) ns.2) → fills numbers text ≡ Ok l → InRange l
  fills_range (Ok ns) text l near e =
      let range = near ns refl in
      let here : In ticks ns.0 = range.0 in
      let there : In nodes ns.1 = range.1 in
      says_range (λ octets. Offer ns.0 ns.1 octets) (fill_frame ns.2 text) l (λ f made. (few_ticks version ns.0 here.1, few_nodes version ns.1 there.1, fill_range ns.2 text f made)) e
  fills_range (Err reason) text l near e = cc

  offer_range : (fields : List (List ℕ)) (l : ScriptLine) → offer_in version fields ≡ Ok l → InRange l
  offer_range [] l e = cc
  offer_range (f ∷ []) l e = cc
  offer_range (f ∷ g ∷ []) l e = cc
  offer_range (f ∷ g ∷ h ∷ []) l e =
      offers_range (two_within ticks nodes (number_of f) (number_of g)) (hex_frame h) l
      (λ t made. two_in ticks nodes (number_of f) (number_of g) t made) (hex_range h) e
  offer_range (f ∷ g ∷ h ∷ i ∷ fs) l e = cc

  fill_line_range : (fields : List (List ℕ)) (l : ScriptLine) → fill_in version fields ≡ Ok l → InRange l
  fill_line_range [] l e = cc
  fill_line_range (f ∷ []) l e = cc
  fill_line_range (f ∷ g ∷ []) l e = cc
  fill_line_range (f ∷ g ∷ h ∷ []) l e = cc
  fill_line_range (f ∷ g ∷ h ∷ i ∷ []) l e =
      fills_range (three_within ticks nodes (up_to 9999999999) (number_of f) (number_of g) (number_of h)) i l
      (λ ns made. three_in ticks nodes (up_to 9999999999) (number_of f) (number_of g) (number_of h) ns made) e
  fill_line_range (f ∷ g ∷ h ∷ i ∷ j ∷ fs) l e = cc

  lasts_range : (both : Result (ℕ × ℕ) ScriptReason) (l : ScriptLine) → ((ns : ℕ × ℕ) → both ≡ Ok ns → In ticks ns.0 × In ticks ns.1) → lasts both ≡ Ok l → InRange l
  lasts_range (Err reason) l near e = cc
  lasts_range (Ok ns) l near e = go (ltb ns.0 ns.1) refl e
    where
      go : (b : Bool) → ltb ns.0 ns.1 ≡ b → cond b (Ok (Noise ns.0 ns.1)) (Err OutOfRange) ≡ Ok l → InRange l
      go true test e =
          let same : Noise ns.0 ns.1 ≡ l = cc in
          let there : In ticks ns.1 = (near ns refl).1 in
          subst InRange same ((let later = test in grind (arith, nat_tests)), few_ticks version ns.1 there.1)
      go false test e = cc

  line_by_word_range : (w : Option Word) (fields : List (List ℕ)) (l : ScriptLine) → line_by_word version w fields ≡ Ok l → InRange l
  line_by_word_range None fields l e = cc
  line_by_word_range (Some (SetWord w)) fields l e = says_range (λ n. Set w n) (one_number (setting_range w) fields) l (one_of (setting_range w) fields) e
  line_by_word_range (Some SeedWord) fields l e = says_range (λ n. Seed n) (one_number (up_to 4294967295) fields) l (λ n made. (one_of (up_to 4294967295) fields n made).1) e
  line_by_word_range (Some NodeWord) fields l e =
      says_range (λ n. Node n.0 n.1 n.2) (three_numbers nodes (up_to 255) (up_to 255) fields) l
      (λ ns made. (let r = three_of nodes (up_to 255) (up_to 255) fields ns made in (few_nodes version ns.0 r.0.1, r.1.1, r.2.1))) e
  line_by_word_range (Some AlsoWord) fields l e =
      says_range (λ n. Also n.0 n.1) (two_numbers nodes (up_to last_further_id) fields) l
      (λ ns made. (let r = two_of nodes (up_to last_further_id) fields ns made in (few_nodes version ns.0 r.0.1, r.1.1))) e
  line_by_word_range (Some StubWord) fields l e =
      says_range (λ n. Stub n.0 n.1) (two_numbers nodes (up_to longest_stub) fields) l
      (λ ns made. (let r = two_of nodes (up_to longest_stub) fields ns made in (few_nodes version ns.0 r.0.1, r.1.1))) e
  line_by_word_range (Some LateWord) fields l e =
      says_range (λ n. Late n.0 n.1) (two_numbers nodes ticks fields) l
      (λ ns made. (let r = two_of nodes ticks fields ns made in (few_nodes version ns.0 r.0.1, few_ticks version ns.1 r.1.1))) e
  line_by_word_range (Some ToNodeWord) fields l e =
      says_range (λ n. ToNode n.0 n.1) (two_numbers nodes (setting_range To) fields) l
      (λ ns made. (let r = two_of nodes (setting_range To) fields ns made in (few_nodes version ns.0 r.0.1, r.1.0, r.1.1))) e
  line_by_word_range (Some DrawWord) fields l e =
      says_range (λ n. Draw n.0 n.1) (two_numbers nodes (up_to last_draw) fields) l
      (λ ns made. (let r = two_of nodes (up_to last_draw) fields ns made in (few_nodes version ns.0 r.0.1, r.1.1))) e
  line_by_word_range (Some OfferWord) fields l e = offer_range fields l e
  line_by_word_range (Some FillWord) fields l e = fill_line_range fields l e
  line_by_word_range (Some NoiseWord) fields l e = lasts_range (two_numbers ticks ticks fields) l (two_of ticks ticks fields) e
  line_by_word_range (Some EndWord) fields l e =
      let ends : Range = record { least = 1; greatest = most_ticks_of version } in
      says_range (λ n. End n) (one_number ends fields) l (λ n made. (let r = one_of ends fields n made in (r.0, few_ticks version n r.1))) e

  line_in_range : (fields : List (List ℕ)) (l : ScriptLine) → line_in version fields ≡ Ok l → InRange l
  line_in_range [] l e = cc
  line_in_range (f ∷ fs) l e = line_by_word_range (word_in version f) fs l e

  pub parsed_line_range : (line : List ℕ) (l : ScriptLine) → parsed_line version line ≡ Ok l → InRange l
  parsed_line_range line l e = go (is_skipped line) e
    where
      go : (b : Bool) → cond b (Ok Skipped) (line_in version (fields_of line)) ≡ Ok l → InRange l
      go true e = let same : Skipped ≡ l = cc in subst InRange same tt
      go false e = line_in_range (fields_of line) l e
