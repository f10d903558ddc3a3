-- What octets that begin a capture go on to.
use Rattle.std.proofs.Common.{◌≡◌, ◌≢◌, ℕ, zero, suc, ◌<◌, Bool, true, false, List, [], ◌∷◌, ◌++◌, refl, sym, ap, subst, ◌∙◌, arith, append_assoc, if◌then◌else◌}
use Rattle.std.specs.Prelude.{◌==◌, ◌&&◌}
use Rattle.std.proofs.lemmas.Bool.{ne_eqb}
use Rattle.std.proofs.lemmas.List.{append-nil}
use Rattle.t1s_grammar.specs.Prefixes.{Beginning}
use Rattle.t1s_capture.specs.declared.items.Why.{Why}
use Rattle.t1s_capture.specs.declared.items.Why.TheVariants.{CountZero, AfterEnd}
use Rattle.t1s_capture.specs.declared.stage.CountSoFar.{CountSoFar}
use Rattle.t1s_capture.specs.declared.stage.CountSoFar.TheVariants.{Nothing, One, Two, Three}
use Rattle.t1s_capture.specs.Captures.{CaptureItem, Gap, Torn, no_symbols, capture_text, IsCaptureOf, IsCapturePrefix, OneReading, EndsItself}
use Rattle.t1s_capture.specs.PrefixParts.{Tail, in_gap, in_burst, in_blur, after_torn, ended, PrefixParts, in_magic, at_version, at_node, with_items, ArePartsInRange, parts_octets, AreMadeOf}
use Rattle.t1s_capture.specs.DecoderTable.{count_of}
use Rattle.t1s_capture.specs.Stands.{needs_blur}
use Rattle.t1s_capture.proofs.NextParts.{next_is, fails, next_parts}
use Rattle.t1s_capture.proofs.Sound.{sound, same_parts, no_parts}
use Rattle.t1s_capture.proofs.ReadBack.{reads, reads_from, step_on, reads-append, reads-err, reads-parts}
use Rattle.t1s_capture.proofs.FirstOffences.{shorter}

-- ---- one thing alone

pub reads-made : (octets : List ℕ) (f : PrefixParts) → AreMadeOf octets f → reads octets ≡ next_is f
reads-made octets f m = ap (λ (o : List ℕ). reads o) m.text ∙ reads-parts f m.in_range

pub made_once : (octets : List ℕ) (f g : PrefixParts) → AreMadeOf octets f → AreMadeOf octets g → f ≡ g
made_once octets f g m n = same_parts f g (sym (reads-made octets f m) ∙ reads-made octets g n)

pub made_more : (octets : List ℕ) (o : ℕ) (f g : PrefixParts) → o < 256 → AreMadeOf octets f → next_parts f o ≡ next_is g → AreMadeOf (octets ++ o ∷ []) g
made_more octets o f g lt m e =
    let s = sound f g o lt m.in_range e in
    record { in_range = s.in_range; text = ap (λ (xs : List ℕ). xs ++ o ∷ []) m.text ∙ sym s.text }

-- what octets with one more are made of is what those before grow to
pub next_from : (octets : List ℕ) (o : ℕ) (f g : PrefixParts) → AreMadeOf octets f → AreMadeOf (octets ++ o ∷ []) g → next_parts f o ≡ next_is g
next_from octets o f g m n =
    sym (reads-append (next_is (in_magic 0)) octets (o ∷ []) ∙ ap (λ r. step_on r o) (reads-made octets f m)) ∙ reads-made (octets ++ o ∷ []) g n

-- ---- captures

pub capture_made : (octets : List ℕ) (node : ℕ) (items : List CaptureItem) → IsCaptureOf octets node items → AreMadeOf octets (with_items node items ended)
capture_made octets node items h = record { in_range = (h.node_in_range, h.valid); text = h.text }

pub made_capture : (octets : List ℕ) (node : ℕ) (items : List CaptureItem) → AreMadeOf octets (with_items node items ended) → IsCaptureOf octets node items
made_capture octets node items m = record { node_in_range = m.in_range.0; valid = m.in_range.1; text = m.text }

-- the same end
pub same_items : (node node' : ℕ) (items items' : List CaptureItem) (tail tail' : Tail) → with_items node items tail ≡ with_items node' items' tail' →
    (node ≡ node') × (items ≡ items') × (tail ≡ tail')
same_items node node' items items' tail tail' e = (cc, cc, cc)

pub readings_agree : OneReading
readings_agree octets node node' items items' h k =
    let e = same_items node node' items items' ended ended
    (made_once octets (with_items node items ended) (with_items node' items' ended) (capture_made octets node items h) (capture_made octets node' items' k)) in
    (e.0, e.1)

-- after the end nothing is taken
pub ended_fails : (octets : List ℕ) (node : ℕ) (items : List CaptureItem) (o : ℕ) (more : List ℕ) (g : PrefixParts) → AreMadeOf octets (with_items node items ended) →
    reads (octets ++ o ∷ more) ≡ next_is g → ⊥
ended_fails octets node items o more g m e =
    let k : reads (octets ++ o ∷ more) ≡ fails AfterEnd =
    reads-append (next_is (in_magic 0)) octets (o ∷ more)
    ∙ ap (λ r. reads_from r (o ∷ more)) (reads-made octets (with_items node items ended) m)
    ∙ reads-err AfterEnd more in
    no_parts AfterEnd g (sym k ∙ e)

pub nothing_more : EndsItself
nothing_more octets [] h k = refl
nothing_more octets (o ∷ more) h k =
    absurd (ended_fails octets h.0 h.1 o more (with_items k.0 k.1 ended) (capture_made octets h.0 h.1 h.2)
    (reads-made (octets ++ o ∷ more) (with_items k.0 k.1 ended) (capture_made (octets ++ o ∷ more) k.0 k.1 k.2)))

-- where an octet is refused, no capture begins so
pub refused_stops : (octets : List ℕ) (o : ℕ) (f : PrefixParts) (why : Why) → AreMadeOf octets f → next_parts f o ≡ fails why → IsCapturePrefix (octets ++ o ∷ []) → ⊥
refused_stops octets o f why m e h =
    let all : reads ((octets ++ o ∷ []) ++ h.0) ≡ next_is (with_items h.1.0 h.1.1 ended) =
    reads-made ((octets ++ o ∷ []) ++ h.0) (with_items h.1.0 h.1.1 ended) (capture_made ((octets ++ o ∷ []) ++ h.0) h.1.0 h.1.1 h.1.2) in
    let stop : reads ((octets ++ o ∷ []) ++ h.0) ≡ fails why =
    ap (λ (xs : List ℕ). reads xs) (append_assoc octets (o ∷ []) h.0)
    ∙ reads-append (next_is (in_magic 0)) octets (o ∷ h.0)
    ∙ ap (λ r. reads_from r (o ∷ h.0)) (reads-made octets f m)
    ∙ ap (λ r. reads_from r h.0) e
    ∙ reads-err why h.0 in
    no_parts why (with_items h.1.0 h.1.1 ended) (sym stop ∙ all)

-- ---- a capture may follow whatever octets are made of

Begins : PrefixParts → Type 0
Begins f = IsCapturePrefix (parts_octets f)

-- it may, where one may follow with one octet more
by_one : (f g : PrefixParts) (o : ℕ) → o < 256 → ArePartsInRange f → next_parts f o ≡ next_is g → (ArePartsInRange g → Begins g) → Begins f
unfolding Begins
by_one f g o lt h e k =
    let s = sound f g o lt h e in
    shorter (parts_octets f) (o ∷ []) (subst (λ (xs : List ℕ). IsCapturePrefix xs) s.text (k s.in_range))

ended_begins : (node : ℕ) (items : List CaptureItem) → ArePartsInRange (with_items node items ended) → Begins (with_items node items ended)
unfolding Begins
ended_begins node items h =
    ([], (node, items, record { node_in_range = h.0; valid = h.1; text = append-nil (capture_text node items) }))

torn_begins : (node : ℕ) (items : List CaptureItem) → ArePartsInRange (with_items node items after_torn) → Begins (with_items node items after_torn)
torn_begins node items h =
    by_one (with_items node items after_torn) (with_items node items ended) 0x21 (omega arith) h refl (ended_begins node items)

some_count : (a b c : ℕ) → count_of a b c 1 ≢ 0
some_count a b c e = omega arith

blur_step : (node : ℕ) (items : List CaptureItem) (s : Beginning) (a b c : ℕ) →
    next_parts (with_items node items (in_blur s (Three a b c))) 1 ≡ next_is (with_items node (items ++ Torn s (count_of a b c 1) ∷ []) after_torn)
blur_step node items s a b c = by_need (needs_blur s) (count_of a b c 1 == 0) (ne_eqb (count_of a b c 1) 0 (some_count a b c))
  where
    by_need : (p q : Bool) → q ≡ false →
        (if p && q then fails CountZero else next_is (with_items node (items ++ Torn s (count_of a b c 1) ∷ []) after_torn)) ≡ next_is (with_items node (items ++ Torn s (count_of a b c 1) ∷ []) after_torn)
    by_need true true e = cc
    by_need true false e = refl
    by_need false q e = refl

blur_begins : (node : ℕ) (items : List CaptureItem) (s : Beginning) (count : CountSoFar) → ArePartsInRange (with_items node items (in_blur s count)) →
    Begins (with_items node items (in_blur s count))
blur_begins node items s (Three a b c) h =
    by_one (with_items node items (in_blur s (Three a b c))) (with_items node (items ++ Torn s (count_of a b c 1) ∷ []) after_torn) 1 (omega arith) h
    (blur_step node items s a b c) (torn_begins node (items ++ Torn s (count_of a b c 1) ∷ []))
blur_begins node items s (Two a b) h =
    by_one (with_items node items (in_blur s (Two a b))) (with_items node items (in_blur s (Three a b 1))) 1 (omega arith) h refl
    (λ k. by_one (with_items node items (in_blur s (Three a b 1))) (with_items node (items ++ Torn s (count_of a b 1 1) ∷ []) after_torn) 1 (omega arith) k
    (blur_step node items s a b 1) (torn_begins node (items ++ Torn s (count_of a b 1 1) ∷ [])))
blur_begins node items s (One a) h =
    by_one (with_items node items (in_blur s (One a))) (with_items node items (in_blur s (Two a 1))) 1 (omega arith) h refl
    (λ k. by_one (with_items node items (in_blur s (Two a 1))) (with_items node items (in_blur s (Three a 1 1))) 1 (omega arith) k refl
    (λ j. by_one (with_items node items (in_blur s (Three a 1 1))) (with_items node (items ++ Torn s (count_of a 1 1 1) ∷ []) after_torn) 1 (omega arith) j
    (blur_step node items s a 1 1) (torn_begins node (items ++ Torn s (count_of a 1 1 1) ∷ []))))
blur_begins node items s Nothing h =
    by_one (with_items node items (in_blur s Nothing)) (with_items node items (in_blur s (One 1))) 1 (omega arith) h refl
    (λ i. by_one (with_items node items (in_blur s (One 1))) (with_items node items (in_blur s (Two 1 1))) 1 (omega arith) i refl
    (λ k. by_one (with_items node items (in_blur s (Two 1 1))) (with_items node items (in_blur s (Three 1 1 1))) 1 (omega arith) k refl
    (λ j. by_one (with_items node items (in_blur s (Three 1 1 1))) (with_items node (items ++ Torn s (count_of 1 1 1 1) ∷ []) after_torn) 1 (omega arith) j
    (blur_step node items s 1 1 1) (torn_begins node (items ++ Torn s (count_of 1 1 1 1) ∷ [])))))

burst_begins : (node : ℕ) (items : List CaptureItem) (s : Beginning) → ArePartsInRange (with_items node items (in_burst s)) → Begins (with_items node items (in_burst s))
burst_begins node items s h =
    by_one (with_items node items (in_burst s)) (with_items node items (in_blur s Nothing)) 0x22 (omega arith) h refl (blur_begins node items s Nothing)

gap_step : (node : ℕ) (items : List CaptureItem) (a b c : ℕ) →
    next_parts (with_items node items (in_gap (Three a b c))) 1 ≡ next_is (with_items node (items ++ Gap (count_of a b c 1) ∷ []) (in_burst no_symbols))
gap_step node items a b c =
    ap (λ (t : Bool). if t then fails CountZero else next_is (with_items node (items ++ Gap (count_of a b c 1) ∷ []) (in_burst no_symbols)))
    (ne_eqb (count_of a b c 1) 0 (some_count a b c))

three_begins : (node : ℕ) (items : List CaptureItem) (a b c : ℕ) → ArePartsInRange (with_items node items (in_gap (Three a b c))) → Begins (with_items node items (in_gap (Three a b c)))
three_begins node items a b c h =
    by_one (with_items node items (in_gap (Three a b c))) (with_items node (items ++ Gap (count_of a b c 1) ∷ []) (in_burst no_symbols)) 1 (omega arith) h
    (gap_step node items a b c) (burst_begins node (items ++ Gap (count_of a b c 1) ∷ []) no_symbols)

two_begins : (node : ℕ) (items : List CaptureItem) (a b : ℕ) → ArePartsInRange (with_items node items (in_gap (Two a b))) → Begins (with_items node items (in_gap (Two a b)))
two_begins node items a b h =
    by_one (with_items node items (in_gap (Two a b))) (with_items node items (in_gap (Three a b 1))) 1 (omega arith) h refl (three_begins node items a b 1)

one_begins : (node : ℕ) (items : List CaptureItem) (a : ℕ) → ArePartsInRange (with_items node items (in_gap (One a))) → Begins (with_items node items (in_gap (One a)))
one_begins node items a h =
    by_one (with_items node items (in_gap (One a))) (with_items node items (in_gap (Two a 1))) 1 (omega arith) h refl (two_begins node items a 1)

gap_begins : (node : ℕ) (items : List CaptureItem) (count : CountSoFar) → ArePartsInRange (with_items node items (in_gap count)) → Begins (with_items node items (in_gap count))
gap_begins node items Nothing h =
    by_one (with_items node items (in_gap Nothing)) (with_items node items (in_gap (One 1))) 1 (omega arith) h refl (one_begins node items 1)
gap_begins node items (One a) h = one_begins node items a h
gap_begins node items (Two a b) h = two_begins node items a b h
gap_begins node items (Three a b c) h = three_begins node items a b c h

node_begins : ArePartsInRange at_node → Begins at_node
node_begins h = by_one at_node (with_items 1 [] (in_burst no_symbols)) 1 (omega arith) h refl (burst_begins 1 [] no_symbols)

version_begins : ArePartsInRange at_version → Begins at_version
version_begins h = by_one at_version at_node 1 (omega arith) h refl node_begins

magic_begins : (n : ℕ) → n < 4 → Begins (in_magic n)
magic_begins zero h =
    by_one (in_magic 0) (in_magic 1) 0x54 (omega arith) h refl
    (λ i. by_one (in_magic 1) (in_magic 2) 0x31 (omega arith) i refl
    (λ j. by_one (in_magic 2) (in_magic 3) 0x53 (omega arith) j refl
    (λ k. by_one (in_magic 3) at_version 0x43 (omega arith) k refl version_begins)))
magic_begins (suc zero) h =
    by_one (in_magic 1) (in_magic 2) 0x31 (omega arith) h refl
    (λ j. by_one (in_magic 2) (in_magic 3) 0x53 (omega arith) j refl
    (λ k. by_one (in_magic 3) at_version 0x43 (omega arith) k refl version_begins))
magic_begins (suc (suc zero)) h =
    by_one (in_magic 2) (in_magic 3) 0x53 (omega arith) h refl
    (λ k. by_one (in_magic 3) at_version 0x43 (omega arith) k refl version_begins)
magic_begins (suc (suc (suc zero))) h = by_one (in_magic 3) at_version 0x43 (omega arith) h refl version_begins
magic_begins (suc (suc (suc (suc n)))) h = absurd (omega arith)

parts_go_on : (f : PrefixParts) → ArePartsInRange f → Begins f
parts_go_on (in_magic n) h = magic_begins n h
parts_go_on at_version h = version_begins h
parts_go_on at_node h = node_begins h
parts_go_on (with_items node items (in_gap count)) h = gap_begins node items count h
parts_go_on (with_items node items (in_burst b)) h = burst_begins node items b h
parts_go_on (with_items node items (in_blur b count)) h = blur_begins node items b count h
parts_go_on (with_items node items after_torn) h = torn_begins node items h
parts_go_on (with_items node items ended) h = ended_begins node items h

pub made_begins : (octets : List ℕ) (f : PrefixParts) → AreMadeOf octets f → IsCapturePrefix octets
unfolding Begins
made_begins octets f m = subst (λ (o : List ℕ). IsCapturePrefix o) (sym m.text) (parts_go_on f m.in_range)
