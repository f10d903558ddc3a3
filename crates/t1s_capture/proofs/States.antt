-- What a decoder keeps follows what its octets are made of, octet by octet.
use Rattle.std.proofs.Common.{◌≡◌, ℕ, zero, suc, ◌+◌, ◌*◌, Bool, true, false, List, [], ◌∷◌, ◌++◌, length, drop, Result, Ok, Err, Option, None, Some, refl, sym, ap, ◌∙◌, arith, append_assoc, length-append, nat_lt, if◌then◌else◌}
use Rattle.std.specs.Prelude.{◌==◌, ◌&&◌, slice_index, count_by}
use Rattle.std.proofs.lemmas.Bool.{eqb-true, ne_eqb}
use Rattle.std.proofs.lemmas.List.{append-nil}
use Rattle.t1s_base.specs.Limits.{most_nodes}
use Rattle.t1s_symbols.specs.declared.Symbol.{Symbol}
use Rattle.t1s_symbols.specs.declared.Symbol.TheVariants.{Nibble, J, K, T, R, H, N, S}
use Rattle.t1s_scramble.specs.Scrambled.{start_history, descrambled_nibble, descrambled_nibbles, descrambler_after}
use Rattle.t1s_scramble.proofs.Nibbles.{descrambler_after-append}
use Rattle.t1s_grammar.specs.Burst.{Piece, pieces_symbols}
use Rattle.t1s_grammar.specs.Prefixes.{Beginning, beginning_symbols, phase_of, whole_pieces, last_nibbles, beacon, between, opened, within, ended as ended_piece}
use Rattle.t1s_grammar.specs.PlaceTable.{place_step, pieces_at, lead_at, nibbles_at, ends_burst}
use Rattle.t1s_grammar.specs.declared.place.Phase.{Phase}
use Rattle.t1s_grammar.specs.declared.place.PlaceFault.{PlaceFault}
use Rattle.t1s_grammar.specs.declared.place.PlaceFault.TheVariants.{NotHere, TooLong as OneTooMany}
use Rattle.t1s_grammar.proofs.Judgements.{taken as place_taken, refused as place_refused}
use Rattle.t1s_grammar.proofs.Longer.{refused-taken}
use Rattle.t1s_pcs_rx.specs.Views.{View, view_of}
use Rattle.t1s_capture.specs.declared.items.Why.TheVariants.{Magic as BadMagic, Version as BadVersion, NodeByte, CountZero, GapTwice, Place}
use Rattle.t1s_capture.specs.declared.items.Counts.{Counts}
use Rattle.t1s_capture.specs.declared.stage.CountSoFar.{CountSoFar}
use Rattle.t1s_capture.specs.declared.stage.CountSoFar.TheVariants.{Nothing, One, Two, Three}
use Rattle.t1s_capture.specs.declared.stage.Stage.{Stage}
use Rattle.t1s_capture.specs.declared.stage.Stage.TheVariants.{Magic, Version, Node, InGap, InBurst, AfterTorn, Ended}
use Rattle.t1s_capture.specs.declared.stage.OctetKind.{OctetKind}
use Rattle.t1s_capture.specs.declared.stage.OctetKind.TheVariants.{Gap as GapOctet, End, Torn as TornOctet, Known, Unknown}
use Rattle.t1s_capture.specs.declared.progress.Progress.{Progress}
use Rattle.t1s_capture.specs.declared.decoder.Next.{Next}
use Rattle.t1s_capture.specs.declared.decoder.Next.TheVariants.{More, Held, Refused}
use Rattle.t1s_capture.specs.Captures.{CaptureItem, Gap, Burst, Torn, magic, no_symbols, symbol_count, ticks_of}
use Rattle.t1s_capture.specs.Pieces.{pieces_nibbles, nibbles_in, items_history, piece_views, views_of, is_good, is_beacon, is_run, is_bare, is_torn, counts_with}
use Rattle.t1s_capture.specs.PrefixParts.{Tail, in_gap, in_burst, in_blur, after_torn, ended, PrefixParts, in_magic, at_version, at_node, with_items, ArePartsInRange}
use Rattle.t1s_capture.specs.State.{DecoderState}
use Rattle.t1s_capture.specs.DecodedItems.{DecodedItem, BeaconItem, RunItem, BareItem, TornItem, burst_item}
use Rattle.t1s_capture.specs.DecoderTable.{octet_kind, count_of, progress_of, refuses, goes, yields, after_octet, no_burst, with_ticks, with_torn, with_piece, with_beacon, with_bare, with_run, with_whole, whole_item, magic_step, version_step, node_step, gap_step, gap_ends, blur_step, blur_ends, burst_step_by, gap_here, end_here, burst_ends, symbol_step, symbol_taken, piece_ends, longer, torn_step_by, stage_step}
use Rattle.t1s_capture.specs.Stands.{ends_with_gap, needs_blur, burst_stage, tail_stage, tail_symbols, piece_nibbles, tail_nibbles, views_at, counts_at, reader_at, header_state, state_of}
use Rattle.t1s_grammar.proofs.Longer.{TakesSymbol, more, none_before}
use Rattle.t1s_grammar.specs.Longer.{with_symbol, piece_of}
use Rattle.t1s_capture.proofs.Texts.{ends_with_gap-last}
use Rattle.t1s_capture.proofs.Counted.{history_push, history_none, history_rests, pieces_nibbles-push, history_more, no_nibbles, nibbles_more, piece_views-push, views_none, views_after, count_push, counts_push}
use Rattle.t1s_capture.proofs.NextParts.{NextParts, next_is, fails, next_parts, next_in_magic, next_at_version, next_at_node, next_in_gap, next_in_blur, next_in_burst, next_by_symbol, next_after_torn, end_gap, end_blur, item_at, piece_item, closer_item, symbol_item, burst_item_at, whole_burst_item, blur_item_at, torn_item}
use Rattle.t1s_capture.proofs.Sound.{begun, none_begun}

-- the answer that what has grown and the item there call for
abbrev pub answer : ℕ → NextParts → Option DecodedItem → Next
answer taken (Err why) item = Refused (record { offset = taken; why = why })
answer taken (Ok g) None = More (state_of (taken + 1) g)
answer taken (Ok g) (Some item) = Held (record { item = item; decoder = state_of (taken + 1) g })

-- ---- states

abbrev pub state : ℕ → Counts → List Bool → List ℕ → Stage → DecoderState
state taken counts history nibbles stage = record { taken = taken; counts = counts; reader = record { history = history; nibbles = nibbles }; stage = stage }

same_state : (taken : ℕ) (c c' : Counts) (h h' : List Bool) (k k' : List ℕ) (s s' : Stage) → c ≡ c' → h ≡ h' → k ≡ k' → s ≡ s' →
    state taken c h k s ≡ state taken c' h' k' s'
same_state taken c c' h h' k k' s s' ec eh ek es = cc

goes_to : (d e : DecoderState) → d ≡ e → More d ≡ More e
goes_to d e h = ap More h

same_yield : (i j : DecodedItem) (d e : DecoderState) → i ≡ j → d ≡ e → Held (record { item = i; decoder = d }) ≡ Held (record { item = j; decoder = e })
same_yield i j d e h k = cc

-- what a decoder keeps beside its stage, after these items
abbrev pub progress_at : ℕ → List CaptureItem → Tail → Progress
progress_at taken items tail = record { taken = taken; counts = counts_at items tail; reader = reader_at items tail }

-- ---- the header

magic_answered : (taken n o : ℕ) →
    magic_step (progress_of (header_state taken (Magic n))) n o ≡ answer taken (next_in_magic n o) None
magic_answered taken n o = by_test (o == slice_index magic n) (n == 3)
  where
    by_test : (p q : Bool) →
        (if p then (if q then goes (progress_of (header_state taken (Magic n))) Version else goes (progress_of (header_state taken (Magic n))) (Magic (n + 1)))
        else refuses (progress_of (header_state taken (Magic n))) BadMagic)
        ≡ answer taken (if p then (if q then next_is at_version else next_is (in_magic (n + 1))) else fails BadMagic) None
    by_test true true = refl
    by_test true false = refl
    by_test false q = refl

version_answered : (taken o : ℕ) → version_step (progress_of (header_state taken Version)) o ≡ answer taken (next_at_version o) None
version_answered taken o = by_test (o == 1)
  where
    by_test : (p : Bool) →
        (if p then goes (progress_of (header_state taken Version)) Node else refuses (progress_of (header_state taken Version)) BadVersion)
        ≡ answer taken (if p then next_is at_node else fails BadVersion) None
    by_test true = refl
    by_test false = refl

node_answered : (taken o : ℕ) → node_step (progress_of (header_state taken Node)) o ≡ answer taken (next_at_node o) None
node_answered taken o = by_test (nat_lt o most_nodes)
  where
    first : state (taken + 1) (counts_with [] []) start_history [] (InBurst (no_burst false)) ≡ state_of (taken + 1) (with_items o [] (in_burst no_symbols))
    first =
        same_state (taken + 1) (counts_with [] []) (counts_at [] (in_burst no_symbols)) start_history (descrambler_after (items_history []) (nibbles_in no_symbols))
        [] (piece_nibbles (items_history []) no_symbols) (InBurst (no_burst false)) (InBurst (burst_stage [] no_symbols))
        (ap (λ (vs : List View). counts_with [] vs) (sym views_none))
        (sym (history_rests (items_history []) ∙ history_none))
        (sym (no_nibbles (items_history []) no_symbols refl))
        refl

    by_test : (p : Bool) →
        (if p then goes (progress_of (header_state taken Node)) (InBurst (no_burst false)) else refuses (progress_of (header_state taken Node)) NodeByte)
        ≡ answer taken (if p then next_is (with_items o [] (in_burst no_symbols)) else fails NodeByte) None
    by_test true = ap More first
    by_test false = refl

-- ---- gaps

gap_state : (taken : ℕ) (items : List CaptureItem) (node n : ℕ) (count : CountSoFar) →
    after_octet (progress_at taken items (in_gap count)) (with_ticks (counts_at items (in_gap count)) n) (reader_at items (in_gap count)) (InBurst (no_burst true))
    ≡ state_of (taken + 1) (with_items node (items ++ Gap n ∷ []) (in_burst no_symbols))
gap_state taken items node n count =
    let next : List CaptureItem = items ++ Gap n ∷ [] in
    same_state (taken + 1)
    (with_ticks (counts_at items (in_gap count)) n) (counts_at (items ++ Gap n ∷ []) (in_burst no_symbols))
    (descrambler_after (items_history items) (nibbles_in no_symbols)) (descrambler_after (items_history (items ++ Gap n ∷ [])) (nibbles_in no_symbols))
    [] (piece_nibbles (items_history (items ++ Gap n ∷ [])) no_symbols)
    (InBurst (no_burst true)) (InBurst (burst_stage (items ++ Gap n ∷ []) no_symbols))
    (counted (views_at items no_symbols) (views_at (items ++ Gap n ∷ []) no_symbols) (sym (views_after items (Gap n))))
    (sym (history_push items (Gap n)) ∙ sym (history_rests (items_history (items ++ Gap n ∷ []))))
    (sym (no_nibbles (items_history (items ++ Gap n ∷ [])) no_symbols refl))
    (ap (λ (t : Bool). InBurst (no_burst t)) (sym (ends_with_gap-last items (Gap n))))
  where
    counted : (vs ws : List View) → vs ≡ ws → with_ticks (counts_with items vs) n ≡ counts_with (items ++ Gap n ∷ []) ws
    counted vs ws e =
        let k = counts_push items (Gap n) ws in
        let a : count_by is_beacon items + 0 ≡ count_by is_beacon items = omega arith in
        let b : count_by is_run items + 0 ≡ count_by is_run items = omega arith in
        let c : count_by is_bare items + 0 ≡ count_by is_bare items = omega arith in
        let d : count_by is_torn items + 0 ≡ count_by is_torn items = omega arith in
        sym (k ∙ rw (a, b, c, d) (ap (λ (xs : List View). with_ticks (counts_with items xs) n) (sym e)))

gap_ended : (taken : ℕ) (items : List CaptureItem) (node n : ℕ) (count : CountSoFar) →
    gap_ends (progress_at taken items (in_gap count)) n ≡ answer taken (end_gap node items n) None
gap_ended taken items node n count = by_test (n == 0)
  where
    by_test : (p : Bool) →
        (if p then refuses (progress_at taken items (in_gap count)) CountZero
        else More (after_octet (progress_at taken items (in_gap count)) (with_ticks (counts_at items (in_gap count)) n) (reader_at items (in_gap count)) (InBurst (no_burst true))))
        ≡ answer taken (if p then fails CountZero else next_is (with_items node (items ++ Gap n ∷ []) (in_burst no_symbols))) None
    by_test true = refl
    by_test false = ap More (gap_state taken items node n count)

gap_answered : (taken : ℕ) (items : List CaptureItem) (node o : ℕ) (count : CountSoFar) →
    gap_step (progress_at taken items (in_gap count)) count o ≡ answer taken (next_in_gap node items count o) None
gap_answered taken items node o Nothing = refl
gap_answered taken items node o (One a) = refl
gap_answered taken items node o (Two a b) = refl
gap_answered taken items node o (Three a b c) = gap_ended taken items node (count_of a b c o) (Three a b c)

-- ---- blurs

blur_state : (taken : ℕ) (items : List CaptureItem) (node n : ℕ) (b : Beginning) (count : CountSoFar) →
    after_octet (progress_at taken items (in_blur b count)) (with_torn (with_ticks (counts_at items (in_blur b count)) (4 * symbol_count b + n))) (reader_at items (in_blur b count)) AfterTorn
    ≡ state_of (taken + 1) (with_items node (items ++ Torn b n ∷ []) after_torn)
blur_state taken items node n b count =
    same_state (taken + 1)
    (with_torn (with_ticks (counts_at items (in_blur b count)) (4 * symbol_count b + n))) (counts_at (items ++ Torn b n ∷ []) after_torn)
    (descrambler_after (items_history items) (nibbles_in b)) (descrambler_after (items_history (items ++ Torn b n ∷ [])) (nibbles_in no_symbols))
    [] [] AfterTorn AfterTorn
    (counted (views_at items b) (views_at (items ++ Torn b n ∷ []) no_symbols) (sym (views_after items (Torn b n))))
    (sym (history_push items (Torn b n)) ∙ sym (history_rests (items_history (items ++ Torn b n ∷ []))))
    refl refl
  where
    counted : (vs ws : List View) → vs ≡ ws → with_torn (with_ticks (counts_with items vs) (4 * symbol_count b + n)) ≡ counts_with (items ++ Torn b n ∷ []) ws
    counted vs ws e =
        let k = counts_push items (Torn b n) ws in
        let a : count_by is_beacon items + 0 ≡ count_by is_beacon items = omega arith in
        let c : count_by is_run items + 0 ≡ count_by is_run items = omega arith in
        let d : count_by is_bare items + 0 ≡ count_by is_bare items = omega arith in
        sym (k ∙ rw (a, c, d) (ap (λ (xs : List View). with_torn (with_ticks (counts_with items xs) (4 * symbol_count b + n))) (sym e)))

blur_ended : (taken : ℕ) (items : List CaptureItem) (node n : ℕ) (b : Beginning) (count : CountSoFar) →
    blur_ends (progress_at taken items (in_blur b count)) (record { needed = needs_blur b; symbols = symbol_count b; count = count }) n
    ≡ answer taken (end_blur node items b n) (torn_item items b n)
blur_ended taken items node n b count = by_test (needs_blur b && (n == 0))
  where
    by_test : (p : Bool) →
        (if p then refuses (progress_at taken items (in_blur b count)) CountZero
        else yields (TornItem (ticks_of items) (ticks_of items + (4 * symbol_count b + n)) (symbol_count b) n) (progress_at taken items (in_blur b count))
        (with_torn (with_ticks (counts_at items (in_blur b count)) (4 * symbol_count b + n))) AfterTorn)
        ≡ answer taken (if p then fails CountZero else next_is (with_items node (items ++ Torn b n ∷ []) after_torn))
        (if p then None else Some (TornItem (ticks_of items) (ticks_of items + (4 * symbol_count b + n)) (symbol_count b) n))
    by_test true = refl
    by_test false = same_yield _ _ _ _ refl (blur_state taken items node n b count)

blur_answered : (taken : ℕ) (items : List CaptureItem) (node o : ℕ) (b : Beginning) (count : CountSoFar) →
    blur_step (progress_at taken items (in_blur b count)) (record { needed = needs_blur b; symbols = symbol_count b; count = count }) o
    ≡ answer taken (next_in_blur node items b count o) (blur_item_at count items b o)
blur_answered taken items node o b Nothing = refl
blur_answered taken items node o b (One a) = refl
blur_answered taken items node o b (Two a c) = refl
blur_answered taken items node o b (Three a c d) = blur_ended taken items node (count_of a c d o) b (Three a c d)

-- ---- the end of a burst

nothing_last : (b : Beginning) → ends_burst (phase_of b) ≡ true → last_nibbles b ≡ []
nothing_last (beacon n) e = refl
nothing_last (between ps lead) e = refl
nothing_last (opened ps lead) e = cc
nothing_last (within ps lead ns) e = cc
nothing_last (ended_piece ps lead ns) e = cc

not_zero : (n : ℕ) → (suc n == 0) ≡ false
not_zero n = ne_eqb (suc n) 0 (λ e. omega arith)

some_lead : (lead : ℕ) → ends_burst (phase_of (between [] lead)) ≡ true → (lead == 0) ≡ false
some_lead zero e = cc
some_lead (suc n) e = not_zero n

burst_item_is : (b : Beginning) (start : ℕ) → ends_burst (phase_of b) ≡ true →
    whole_item (pieces_at (phase_of b)) (lead_at (phase_of b)) start (start + 4 * symbol_count b) ≡ burst_item start b
burst_item_is (beacon n) start e = refl
burst_item_is (between [] lead) start e = rw (some_lead lead e) refl
burst_item_is (between (p ∷ ps) lead) start e =
    ap (λ (t : Bool). if t then (if lead == 0 then BeaconItem start else BareItem start (start + 4 * symbol_count (between (p ∷ ps) lead)))
    else RunItem start (start + 4 * symbol_count (between (p ∷ ps) lead)) (length (p ∷ ps))) (not_zero (length ps))
burst_item_is (opened ps lead) start e = cc
burst_item_is (within ps lead ns) start e = cc
burst_item_is (ended_piece ps lead ns) start e = cc

burst_counted : (b : Beginning) (items : List CaptureItem) (vs : List View) → ends_burst (phase_of b) ≡ true →
    with_whole (pieces_at (phase_of b)) (lead_at (phase_of b)) (with_ticks (counts_with items vs) (4 * symbol_count b)) ≡ counts_with (items ++ Burst b ∷ []) vs
burst_counted (beacon n) items vs e =
    let k = counts_push items (Burst (beacon n)) vs in
    let b : count_by is_run items + 0 ≡ count_by is_run items = omega arith in
    let c : count_by is_bare items + 0 ≡ count_by is_bare items = omega arith in
    let d : count_by is_torn items + 0 ≡ count_by is_torn items = omega arith in
    sym (k ∙ rw (b, c, d) refl)
burst_counted (between [] lead) items vs e =
    let k = counts_push items (Burst (between [] lead)) vs in
    let a : count_by is_beacon items + 0 ≡ count_by is_beacon items = omega arith in
    let b : count_by is_run items + 0 ≡ count_by is_run items = omega arith in
    let d : count_by is_torn items + 0 ≡ count_by is_torn items = omega arith in
    rw (some_lead lead e) (sym (k ∙ rw (a, b, d) refl))
burst_counted (between (p ∷ ps) lead) items vs e =
    let k = counts_push items (Burst (between (p ∷ ps) lead)) vs in
    let a : count_by is_beacon items + 0 ≡ count_by is_beacon items = omega arith in
    let c : count_by is_bare items + 0 ≡ count_by is_bare items = omega arith in
    let d : count_by is_torn items + 0 ≡ count_by is_torn items = omega arith in
    let counts : Counts = with_ticks (counts_with items vs) (4 * symbol_count (between (p ∷ ps) lead)) in
    ap (λ (t : Bool). if t then (if lead == 0 then with_beacon (with_ticks (counts_with items vs) (4 * symbol_count (between (p ∷ ps) lead)))
    else with_bare (with_ticks (counts_with items vs) (4 * symbol_count (between (p ∷ ps) lead))))
    else with_run (with_ticks (counts_with items vs) (4 * symbol_count (between (p ∷ ps) lead)))) (not_zero (length ps))
    ∙ sym (k ∙ rw (a, c, d) refl)
burst_counted (opened ps lead) items vs e = cc
burst_counted (within ps lead ns) items vs e = cc
burst_counted (ended_piece ps lead ns) items vs e = cc

-- a burst that ends, after which a tail without symbols begins
burst_ended : (taken : ℕ) (items : List CaptureItem) (node : ℕ) (b : Beginning) (tail : Tail) (stage : Stage) → ends_burst (phase_of b) ≡ true →
    tail_symbols tail ≡ no_symbols → tail_nibbles (items_history (items ++ Burst b ∷ [])) tail ≡ [] → tail_stage (items ++ Burst b ∷ []) tail ≡ stage →
    burst_ends (progress_at taken items (in_burst b)) (burst_stage items b) stage
    ≡ answer taken (next_is (with_items node (items ++ Burst b ∷ []) tail)) (Some (burst_item (ticks_of items) b))
burst_ended taken items node b tail stage e none nibbles is =
    same_yield _ _ _ _ (burst_item_is b (ticks_of items) e)
    (same_state (taken + 1)
    (with_whole (pieces_at (phase_of b)) (lead_at (phase_of b)) (with_ticks (counts_at items (in_burst b)) (4 * symbol_count b))) (counts_at (items ++ Burst b ∷ []) tail)
    (descrambler_after (items_history items) (nibbles_in b)) (descrambler_after (items_history (items ++ Burst b ∷ [])) (nibbles_in (tail_symbols tail)))
    [] (tail_nibbles (items_history (items ++ Burst b ∷ [])) tail)
    stage (tail_stage (items ++ Burst b ∷ []) tail)
    (burst_counted b items (views_at items b) e
    ∙ ap (λ (vs : List View). counts_with (items ++ Burst b ∷ []) vs) (sym (ap (λ (c : Beginning). views_at (items ++ Burst b ∷ []) c) none ∙ views_after items (Burst b))))
    (sym (history_push items (Burst b))
    ∙ sym (ap (λ (c : Beginning). descrambler_after (items_history (items ++ Burst b ∷ [])) (nibbles_in c)) none ∙ history_rests (items_history (items ++ Burst b ∷ []))))
    (sym nibbles)
    (sym is))

-- no symbols have come, and a tail without symbols begins
nothing_ended : (taken : ℕ) (items : List CaptureItem) (node : ℕ) (b : Beginning) (tail : Tail) (stage : Stage) → b ≡ no_symbols →
    tail_symbols tail ≡ no_symbols → tail_nibbles (items_history items) tail ≡ [] → tail_stage items tail ≡ stage →
    goes (progress_at taken items (in_burst b)) stage ≡ answer taken (next_is (with_items node items tail)) None
nothing_ended taken items node b tail stage empty_b none nibbles is =
    ap More
    (same_state (taken + 1)
    (counts_at items (in_burst b)) (counts_at items tail)
    (descrambler_after (items_history items) (nibbles_in b)) (descrambler_after (items_history items) (nibbles_in (tail_symbols tail)))
    (piece_nibbles (items_history items) b) (tail_nibbles (items_history items) tail)
    stage (tail_stage items tail)
    (ap (λ (c : Beginning). counts_with items (views_at items c)) (empty_b ∙ sym none))
    (ap (λ (c : Beginning). descrambler_after (items_history items) (nibbles_in c)) (empty_b ∙ sym none))
    (no_nibbles (items_history items) b (ap last_nibbles empty_b) ∙ sym nibbles)
    (sym is))

gap_octet_answered : (taken : ℕ) (items : List CaptureItem) (node : ℕ) (b : Beginning) → ArePartsInRange (with_items node items (in_burst b)) →
    gap_here (progress_at taken items (in_burst b)) (burst_stage items b) ≡ answer taken (next_in_burst GapOctet node items b) (whole_burst_item items b)
gap_octet_answered taken items node b h = by_burst (ends_burst (phase_of b)) refl
  where
    P : Progress
    P = progress_at taken items (in_burst b)

    by_gap : symbol_count b ≡ 0 → (p : Bool) →
        (if p then refuses (progress_at taken items (in_burst b)) GapTwice else goes (progress_at taken items (in_burst b)) (InGap Nothing))
        ≡ answer taken (if p then fails GapTwice else next_is (with_items node items (in_gap Nothing))) None
    by_gap none true = refl
    by_gap none false = nothing_ended taken items node b (in_gap Nothing) (InGap Nothing) (none_begun b (begun items b h.1) none) refl refl refl

    by_count : (p : Bool) → (symbol_count b == 0) ≡ p →
        (if p then (if ends_with_gap items then refuses (progress_at taken items (in_burst b)) GapTwice else goes (progress_at taken items (in_burst b)) (InGap Nothing))
        else refuses (progress_at taken items (in_burst b)) Place)
        ≡ answer taken (if p then (if ends_with_gap items then fails GapTwice else next_is (with_items node items (in_gap Nothing))) else fails Place) None
    by_count true c = by_gap (eqb-true (symbol_count b) 0 c) (ends_with_gap items)
    by_count false c = refl

    by_burst : (p : Bool) → ends_burst (phase_of b) ≡ p →
        (if p then burst_ends (progress_at taken items (in_burst b)) (burst_stage items b) (InGap Nothing)
        else (if symbol_count b == 0 then (if ends_with_gap items then refuses (progress_at taken items (in_burst b)) GapTwice else goes (progress_at taken items (in_burst b)) (InGap Nothing))
        else refuses (progress_at taken items (in_burst b)) Place))
        ≡ answer taken (if p then next_is (with_items node (items ++ Burst b ∷ []) (in_gap Nothing))
        else (if symbol_count b == 0 then (if ends_with_gap items then fails GapTwice else next_is (with_items node items (in_gap Nothing))) else fails Place))
        (if p then Some (burst_item (ticks_of items) b) else None)
    by_burst true e = burst_ended taken items node b (in_gap Nothing) (InGap Nothing) e refl refl refl
    by_burst false e = by_count (symbol_count b == 0) refl

end_octet_answered : (taken : ℕ) (items : List CaptureItem) (node : ℕ) (b : Beginning) → ArePartsInRange (with_items node items (in_burst b)) →
    end_here (progress_at taken items (in_burst b)) (burst_stage items b) ≡ answer taken (next_in_burst End node items b) (whole_burst_item items b)
end_octet_answered taken items node b h = by_burst (ends_burst (phase_of b)) refl
  where
    by_count : (p : Bool) → (symbol_count b == 0) ≡ p →
        (if p then goes (progress_at taken items (in_burst b)) Ended else refuses (progress_at taken items (in_burst b)) Place)
        ≡ answer taken (if p then next_is (with_items node items ended) else fails Place) None
    by_count true c = nothing_ended taken items node b ended Ended (none_begun b (begun items b h.1) (eqb-true (symbol_count b) 0 c)) refl refl refl
    by_count false c = refl

    by_burst : (p : Bool) → ends_burst (phase_of b) ≡ p →
        (if p then burst_ends (progress_at taken items (in_burst b)) (burst_stage items b) Ended
        else (if symbol_count b == 0 then goes (progress_at taken items (in_burst b)) Ended else refuses (progress_at taken items (in_burst b)) Place))
        ≡ answer taken (if p then next_is (with_items node (items ++ Burst b ∷ []) ended) else (if symbol_count b == 0 then next_is (with_items node items ended) else fails Place))
        (if p then Some (burst_item (ticks_of items) b) else None)
    by_burst true e = burst_ended taken items node b ended Ended e refl refl refl
    by_burst false e = by_count (symbol_count b == 0) refl

-- ---- symbols

counted_symbols : (b : Beginning) (s : Symbol) (q : Phase) → TakesSymbol b s q → symbol_count b + 1 ≡ symbol_count (with_symbol b s)
counted_symbols b s q t =
    let e = ap length t.symbols in omega (arith, length-append (beginning_symbols b) (s ∷ []))

-- a symbol that neither is a nibble nor closes a piece: pieces and nibbles stay the same
pub record StaysSame (b c : Beginning) : Type 0 where
  pub pieces : whole_pieces c ≡ whole_pieces b
  pub nibbles : last_nibbles c ≡ last_nibbles b

same_burst : (items : List CaptureItem) (b : Beginning) (s : Symbol) (q : Phase) (closed : ℕ) → TakesSymbol b s q → closed ≡ length (pieces_symbols (whole_pieces (with_symbol b s))) →
    InBurst (record { place = q; symbols = symbol_count b + 1; closed = closed; after_gap = ends_with_gap items }) ≡ InBurst (burst_stage items (with_symbol b s))
same_burst items b s q closed t c =
    let e = counted_symbols b s q t in
    let p = t.phase in
    cc

stays_state : (taken : ℕ) (items : List CaptureItem) (node : ℕ) (b : Beginning) (s : Symbol) (q : Phase) → TakesSymbol b s q → StaysSame b (with_symbol b s) →
    goes (progress_at taken items (in_burst b)) (InBurst (longer (burst_stage items b) q)) ≡ answer taken (next_is (with_items node items (in_burst (with_symbol b s)))) None
stays_state taken items node b s q t same =
    ap More
    (same_state (taken + 1)
    (counts_at items (in_burst b)) (counts_at items (in_burst (with_symbol b s)))
    (descrambler_after (items_history items) (nibbles_in b)) (descrambler_after (items_history items) (nibbles_in (with_symbol b s)))
    (piece_nibbles (items_history items) b) (piece_nibbles (items_history items) (with_symbol b s))
    (InBurst (longer (burst_stage items b) q)) (InBurst (burst_stage items (with_symbol b s)))
    (ap (λ (ps : List Piece). counts_with items (views_of items ++ piece_views (items_history items) ps)) (sym same.pieces))
    (both (λ ps ns. descrambler_after (items_history items) (pieces_nibbles ps ++ ns)))
    (both (λ ps ns. drop 9 (descrambled_nibbles (descrambler_after (items_history items) (pieces_nibbles ps)) ns)))
    (same_burst items b s q (length (pieces_symbols (whole_pieces b))) t (ap (λ (ps : List Piece). length (pieces_symbols ps)) (sym same.pieces))))
  where
    both : {X : Type 0} (f : List Piece → List ℕ → X) → f (whole_pieces b) (last_nibbles b) ≡ f (whole_pieces (with_symbol b s)) (last_nibbles (with_symbol b s))
    both f = let a = same.pieces in let c = same.nibbles in cc

nibble_state : (taken : ℕ) (items : List CaptureItem) (node : ℕ) (ps : List Piece) (lead : ℕ) (ns : List ℕ) (n : ℕ) (q : Phase) → TakesSymbol (within ps lead ns) (Nibble n) q →
    symbol_taken (progress_at taken items (in_burst (within ps lead ns))) lead (length ns) (Nibble n) (longer (burst_stage items (within ps lead ns)) q)
    ≡ answer taken (next_is (with_items node items (in_burst (within ps lead (ns ++ n ∷ []))))) None
nibble_state taken items node ps lead ns n q t =
    ap More
    (same_state (taken + 1)
    (counts_at items (in_burst (within ps lead ns))) (counts_at items (in_burst (within ps lead (ns ++ n ∷ []))))
    (descrambler_after (descrambler_after (items_history items) (pieces_nibbles ps ++ ns)) (n ∷ [])) (descrambler_after (items_history items) (pieces_nibbles ps ++ (ns ++ n ∷ [])))
    (if nat_lt (length ns) 9 then piece_nibbles (items_history items) (within ps lead ns)
    else piece_nibbles (items_history items) (within ps lead ns) ++ descrambled_nibble (descrambler_after (items_history items) (pieces_nibbles ps ++ ns)) n ∷ [])
    (piece_nibbles (items_history items) (within ps lead (ns ++ n ∷ [])))
    (InBurst (longer (burst_stage items (within ps lead ns)) q)) (InBurst (burst_stage items (within ps lead (ns ++ n ∷ []))))
    refl
    (history_more (items_history items) (pieces_nibbles ps) ns n)
    (ap (λ (h : List Bool). if nat_lt (length ns) 9 then piece_nibbles (items_history items) (within ps lead ns)
    else piece_nibbles (items_history items) (within ps lead ns) ++ descrambled_nibble h n ∷ [])
    (descrambler_after-append (items_history items) (pieces_nibbles ps) ns)
    ∙ sym (nibbles_more (descrambler_after (items_history items) (pieces_nibbles ps)) ns n))
    (same_burst items (within ps lead ns) (Nibble n) q (length (pieces_symbols ps)) t refl))

closed_counts : (items : List CaptureItem) (ps : List Piece) (p : Piece) →
    with_piece (counts_with items (views_of items ++ piece_views (items_history items) ps)) (is_good (view_of (descrambler_after (items_history items) (pieces_nibbles ps)) p))
    ≡ counts_with items (views_of items ++ piece_views (items_history items) (ps ++ p ∷ []))
closed_counts items ps p =
    let v : View = view_of (descrambler_after (items_history items) (pieces_nibbles ps)) p in
    let vs : List View = views_of items ++ piece_views (items_history items) ps in
    let e : views_of items ++ piece_views (items_history items) (ps ++ p ∷ []) ≡ (views_of items ++ piece_views (items_history items) ps) ++ view_of (descrambler_after (items_history items) (pieces_nibbles ps)) p ∷ [] =
    ap (λ (ws : List View). views_of items ++ ws) (piece_views-push ps (items_history items) p)
    ∙ sym (append_assoc (views_of items) (piece_views (items_history items) ps) (view_of (descrambler_after (items_history items) (pieces_nibbles ps)) p ∷ [])) in
    pushed (views_of items ++ piece_views (items_history items) ps) (view_of (descrambler_after (items_history items) (pieces_nibbles ps)) p)
    ∙ ap (λ (ws : List View). counts_with items ws) (sym e)
  where
    pushed : (vs : List View) (v : View) → with_piece (counts_with items vs) (is_good v) ≡ counts_with items (vs ++ v ∷ [])
    pushed vs v =
        let a = length-append vs (v ∷ []) in
        let b = count_push is_good vs v in
        cc

closer_state : (taken : ℕ) (items : List CaptureItem) (node : ℕ) (ps : List Piece) (lead : ℕ) (ns : List ℕ) (s : Symbol) (q : Phase) → TakesSymbol (ended_piece ps lead ns) s q →
    piece_ends (progress_at taken items (in_burst (ended_piece ps lead ns))) lead (length ns) s (longer (burst_stage items (ended_piece ps lead ns)) q)
    ≡ answer taken (next_is (with_items node items (in_burst (between (ps ++ piece_of lead ns s ∷ []) 0)))) (Some (piece_item items (ended_piece ps lead ns) s))
closer_state taken items node ps lead ns s q t =
    same_yield _ _ _ _ refl
    (same_state (taken + 1)
    (with_piece (counts_at items (in_burst (ended_piece ps lead ns))) (is_good (view_of (descrambler_after (items_history items) (pieces_nibbles ps)) (piece_of lead ns s))))
    (counts_at items (in_burst (between (ps ++ piece_of lead ns s ∷ []) 0)))
    (descrambler_after (items_history items) (pieces_nibbles ps ++ ns)) (descrambler_after (items_history items) (pieces_nibbles (ps ++ piece_of lead ns s ∷ []) ++ []))
    [] (piece_nibbles (items_history items) (between (ps ++ piece_of lead ns s ∷ []) 0))
    _ (InBurst (burst_stage items (between (ps ++ piece_of lead ns s ∷ []) 0)))
    (closed_counts items ps (piece_of lead ns s))
    (ap (λ (xs : List ℕ). descrambler_after (items_history items) xs)
    (sym (append-nil (pieces_nibbles (ps ++ piece_of lead ns s ∷ [])) ∙ pieces_nibbles-push ps (piece_of lead ns s))))
    (sym (no_nibbles (items_history items) (between (ps ++ piece_of lead ns s ∷ []) 0) refl))
    (same_burst items (ended_piece ps lead ns) s q (symbol_count (ended_piece ps lead ns) + 1) t
    (counted_symbols (ended_piece ps lead ns) s q t ∙ ap length (append-nil (pieces_symbols (ps ++ piece_of lead ns s ∷ []))))))

-- a symbol that is taken
SymbolAnswered : ℕ → List CaptureItem → ℕ → Beginning → Symbol → Phase → Type 0
SymbolAnswered taken items node b s q =
    symbol_taken (progress_at taken items (in_burst b)) (lead_at (phase_of b)) (nibbles_at (phase_of b)) s (longer (burst_stage items b) q)
    ≡ answer taken (next_is (with_items node items (in_burst (with_symbol b s)))) (closer_item items b s)

pub not_taken : (q : Phase) → place_refused NotHere ≡ place_taken q → ⊥
not_taken q e = refused-taken NotHere q e

nibble_taken : (taken : ℕ) (items : List CaptureItem) (node : ℕ) (b : Beginning) (n : ℕ) (q : Phase) → place_step (phase_of b) (Nibble n) ≡ place_taken q → SymbolAnswered taken items node b (Nibble n) q
unfolding SymbolAnswered
nibble_taken taken items node (beacon k) n q e = absurd (not_taken q e)
nibble_taken taken items node (between ps lead) n q e = absurd (not_taken q e)
nibble_taken taken items node (opened ps lead) n q e = absurd (not_taken q e)
nibble_taken taken items node (within ps lead ns) n q e = nibble_state taken items node ps lead ns n q (more (within ps lead ns) (Nibble n) q e)
nibble_taken taken items node (ended_piece ps lead ns) n q e = absurd (not_taken q e)

r_taken : (taken : ℕ) (items : List CaptureItem) (node : ℕ) (b : Beginning) (q : Phase) → place_step (phase_of b) R ≡ place_taken q → SymbolAnswered taken items node b R q
unfolding SymbolAnswered
r_taken taken items node (beacon k) q e = absurd (not_taken q e)
r_taken taken items node (between ps lead) q e = absurd (not_taken q e)
r_taken taken items node (opened ps lead) q e = absurd (not_taken q e)
r_taken taken items node (within ps lead ns) q e = absurd (not_taken q e)
r_taken taken items node (ended_piece ps lead ns) q e = closer_state taken items node ps lead ns R q (more (ended_piece ps lead ns) R q e)

k_taken : (taken : ℕ) (items : List CaptureItem) (node : ℕ) (b : Beginning) (q : Phase) → place_step (phase_of b) K ≡ place_taken q → SymbolAnswered taken items node b K q
unfolding SymbolAnswered
k_taken taken items node (beacon k) q e = absurd (not_taken q e)
k_taken taken items node (between ps lead) q e = absurd (not_taken q e)
k_taken taken items node (opened ps lead) q e = absurd (not_taken q e)
k_taken taken items node (within ps lead ns) q e = absurd (not_taken q e)
k_taken taken items node (ended_piece ps lead ns) q e = closer_state taken items node ps lead ns K q (more (ended_piece ps lead ns) K q e)

s_taken : (taken : ℕ) (items : List CaptureItem) (node : ℕ) (b : Beginning) (q : Phase) → place_step (phase_of b) S ≡ place_taken q → SymbolAnswered taken items node b S q
unfolding SymbolAnswered
s_taken taken items node (beacon k) q e = absurd (not_taken q e)
s_taken taken items node (between ps lead) q e = absurd (not_taken q e)
s_taken taken items node (opened ps lead) q e = absurd (not_taken q e)
s_taken taken items node (within ps lead ns) q e = absurd (not_taken q e)
s_taken taken items node (ended_piece ps lead ns) q e = closer_state taken items node ps lead ns S q (more (ended_piece ps lead ns) S q e)

j_stays : (b : Beginning) (q : Phase) → place_step (phase_of b) J ≡ place_taken q → StaysSame b (with_symbol b J)
j_stays (beacon k) q e = absurd (not_taken q e)
j_stays (between ps lead) q e = record { pieces = refl; nibbles = refl }
j_stays (opened ps lead) q e = absurd (not_taken q e)
j_stays (within ps lead ns) q e = absurd (not_taken q e)
j_stays (ended_piece ps lead ns) q e = absurd (not_taken q e)

h_stays : (b : Beginning) (q : Phase) → place_step (phase_of b) H ≡ place_taken q → StaysSame b (with_symbol b H)
h_stays (beacon k) q e = absurd (not_taken q e)
h_stays (between ps lead) q e = record { pieces = refl; nibbles = refl }
h_stays (opened ps lead) q e = record { pieces = refl; nibbles = refl }
h_stays (within ps lead ns) q e = absurd (not_taken q e)
h_stays (ended_piece ps lead ns) q e = absurd (not_taken q e)

t_stays : (b : Beginning) (q : Phase) → place_step (phase_of b) T ≡ place_taken q → StaysSame b (with_symbol b T)
t_stays (beacon k) q e = absurd (not_taken q e)
t_stays (between ps lead) q e = absurd (not_taken q e)
t_stays (opened ps lead) q e = absurd (not_taken q e)
t_stays (within ps lead ns) q e = record { pieces = refl; nibbles = refl }
t_stays (ended_piece ps lead ns) q e = absurd (not_taken q e)

n_stays : (b : Beginning) (q : Phase) → place_step (phase_of b) N ≡ place_taken q → StaysSame b (with_symbol b N)
n_stays (beacon k) q e = record { pieces = refl; nibbles = refl }
n_stays (between [] lead) q e = record { pieces = refl; nibbles = refl }
n_stays (between (p ∷ ps) lead) q e = let k = (none_before (p ∷ ps) lead q e).0 in cc
n_stays (opened ps lead) q e = absurd (not_taken q e)
n_stays (within ps lead ns) q e = absurd (not_taken q e)
n_stays (ended_piece ps lead ns) q e = absurd (not_taken q e)

symbol_answered : (s : Symbol) (taken : ℕ) (items : List CaptureItem) (node : ℕ) (b : Beginning) (q : Phase) → place_step (phase_of b) s ≡ place_taken q → SymbolAnswered taken items node b s q
unfolding SymbolAnswered
symbol_answered (Nibble n) taken items node b q e = nibble_taken taken items node b n q e
symbol_answered J taken items node b q e = stays_state taken items node b J q (more b J q e) (j_stays b q e)
symbol_answered K taken items node b q e = k_taken taken items node b q e
symbol_answered T taken items node b q e = stays_state taken items node b T q (more b T q e) (t_stays b q e)
symbol_answered R taken items node b q e = r_taken taken items node b q e
symbol_answered H taken items node b q e = stays_state taken items node b H q (more b H q e) (h_stays b q e)
symbol_answered N taken items node b q e = stays_state taken items node b N q (more b N q e) (n_stays b q e)
symbol_answered S taken items node b q e = s_taken taken items node b q e

known_answered : (taken : ℕ) (items : List CaptureItem) (node : ℕ) (b : Beginning) (s : Symbol) (r : Result Phase PlaceFault) → place_step (phase_of b) s ≡ r →
    symbol_step (progress_at taken items (in_burst b)) (burst_stage items b) s r ≡ answer taken (next_by_symbol node items b s r) (symbol_item items b s r)
unfolding SymbolAnswered
known_answered taken items node b s (Ok q) e = symbol_answered s taken items node b q e
known_answered taken items node b s (Err OneTooMany) e = refl
known_answered taken items node b s (Err NotHere) e = refl

burst_answered : (k : OctetKind) (taken : ℕ) (items : List CaptureItem) (node : ℕ) (b : Beginning) → ArePartsInRange (with_items node items (in_burst b)) →
    burst_step_by k (progress_at taken items (in_burst b)) (burst_stage items b) ≡ answer taken (next_in_burst k node items b) (burst_item_at k items b)
burst_answered GapOctet taken items node b h = gap_octet_answered taken items node b h
burst_answered End taken items node b h = end_octet_answered taken items node b h
burst_answered TornOctet taken items node b h = refl
burst_answered (Known s) taken items node b h = known_answered taken items node b s (place_step (phase_of b) s) refl
burst_answered Unknown taken items node b h = refl

torn_answered : (k : OctetKind) (taken : ℕ) (items : List CaptureItem) (node : ℕ) →
    torn_step_by k (progress_at taken items after_torn) ≡ answer taken (next_after_torn k node items) None
torn_answered GapOctet taken items node = refl
torn_answered End taken items node = refl
torn_answered TornOctet taken items node = refl
torn_answered (Known s) taken items node = refl
torn_answered Unknown taken items node = refl

-- each answer is right, short of the limit
pub answered : (f : PrefixParts) (taken o : ℕ) → ArePartsInRange f →
    stage_step (state_of taken f).stage (progress_of (state_of taken f)) o ≡ answer taken (next_parts f o) (item_at f o)
answered (in_magic n) taken o h = magic_answered taken n o
answered at_version taken o h = version_answered taken o
answered at_node taken o h = node_answered taken o
answered (with_items node items (in_gap count)) taken o h = gap_answered taken items node o count
answered (with_items node items (in_burst b)) taken o h = burst_answered (octet_kind o) taken items node b h
answered (with_items node items (in_blur b count)) taken o h = blur_answered taken items node o b count
answered (with_items node items after_torn) taken o h = torn_answered (octet_kind o) taken items node
answered (with_items node items ended) taken o h = refl
