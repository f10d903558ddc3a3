-- A symbol is refused as too long exactly at the three counts.
use Rattle.std.proofs.Common.{◌≡◌, refl, ℕ, zero, suc, ◌+◌, ◌≤◌, ◌==◌, ◌&&◌, Bool, true, false, List, [], ◌∷◌, ◌++◌, length, map, replicate, Ok, Err, nat_lt, if◌then◌else◌, sym, ap, ◌∙◌, arith, append_assoc}
use Rattle.std.specs.Prelude.{All}
use Rattle.std.proofs.lemmas.Bool.{le-ltb, ltb-false}
use Rattle.t1s_symbols.specs.declared.Symbol.{Symbol}
use Rattle.t1s_symbols.specs.declared.Symbol.TheVariants.{Nibble, J, K, T, R, H, N, S}
use Rattle.t1s_grammar.specs.Burst.{Piece, IsPieceInRange, open_symbols, pieces_symbols}
use Rattle.t1s_grammar.specs.Prefixes.{Beginning, beginning_symbols, IsBeginning, ArePieces, AreNibbles, phase_of, Stands, IsTooLong, beacon as in_beacon, between, opened, within, ended}
use Rattle.t1s_grammar.specs.PlaceTable.{start_phase, place_step, between_step, within_step, beacon_step, ended_step, opened_step}
use Rattle.t1s_grammar.proofs.Judgements.{Judgement, taken, refused, after, after-append, after-err, after-run, after-stands}
use Rattle.t1s_grammar.proofs.Longer.{refused-taken}
use Rattle.t1s_grammar.specs.declared.place.Phase.{Phase}
use Rattle.t1s_grammar.specs.declared.place.Phase.TheVariants.{Beacon, Between, Opened, Within, Ended}
use Rattle.t1s_grammar.specs.declared.place.PlaceFault.{PlaceFault}
use Rattle.t1s_grammar.specs.declared.place.PlaceFault.TheVariants.{NotHere, TooLong}

not_here : refused NotHere ≡ refused TooLong → ⊥
not_here h = cc

pub taken-refused : (q : Phase) (e : PlaceFault) → taken q ≡ refused e → ⊥
taken-refused q e h = cc

-- a test whose failure is too long
too_long_by : (b : Bool) (q : Phase) → (if b then taken q else refused TooLong) ≡ refused TooLong → b ≡ false
too_long_by true q h = absurd (taken-refused q TooLong h)
too_long_by false q h = refl

-- a test whose failure is not
after_test : (b : Bool) (r : Judgement) → (if b then refused NotHere else r) ≡ refused TooLong
    → (b ≡ false) × (r ≡ refused TooLong)
after_test true r h = absurd (not_here h)
after_test false r h = (refl, h)

never_by : (b : Bool) (q : Phase) → (if b then taken q else refused NotHere) ≡ refused TooLong → ⊥
never_by true q h = taken-refused q TooLong h
never_by false q h = not_here h

never_after : (b : Bool) (q : Phase) → (if b then refused NotHere else taken q) ≡ refused TooLong → ⊥
never_after true q h = not_here h
never_after false q h = taken-refused q TooLong h

-- ---- what is refused as too long is so

beacon-too_long : (count : ℕ) (s : Symbol) → beacon_step count s ≡ refused TooLong → ⊥
beacon-too_long count N h = never_by (nat_lt count 5) (Beacon (count + 1)) h
beacon-too_long count _ h = not_here h

between-too_long : (ps : List Piece) (lead : ℕ) (s : Symbol) → ArePieces ps 4096 → lead ≤ 4096
    → between_step (length ps) lead s ≡ refused TooLong → IsTooLong (pieces_symbols ps ++ replicate lead J) s
between-too_long ps lead J h l e =
    let most : 4096 ≤ lead = ltb-false lead 4096 (too_long_by (nat_lt lead 4096) (Between (length ps) (lead + 1)) e) in
    (pieces_symbols ps, lead, omega arith, refl)
between-too_long ps lead H h l e =
    let judgement : Judgement = if nat_lt (length ps) 4096 then taken (Opened (length ps) lead) else refused TooLong in
    let enough : (nat_lt lead 2 ≡ false) × (judgement ≡ refused TooLong) = after_test (nat_lt lead 2) judgement e in
    let least : 2 ≤ lead = ltb-false lead 2 enough.0 in
    let many : 4096 ≤ length ps
    = ltb-false (length ps) 4096 (too_long_by (nat_lt (length ps) 4096) (Opened (length ps) lead) enough.1) in
    let few : length ps ≤ 4096 = h.count in
    (ps, lead, omega arith, h.in_range, least, refl)
between-too_long ps lead N h l e = absurd (never_by (length ps == 0 && (lead == 0)) (Beacon 1) e)
between-too_long ps lead _ h l e = absurd (not_here e)

opened-too_long : (closed lead : ℕ) (s : Symbol) → opened_step closed lead s ≡ refused TooLong → ⊥
opened-too_long closed lead H h = taken-refused (Within closed lead 0) TooLong h
opened-too_long closed lead _ h = not_here h

within-too_long : (ps : List Piece) (lead : ℕ) (ns : List ℕ) (s : Symbol) → AreNibbles ns 0
    → within_step (length ps) lead (length ns) s ≡ refused TooLong → IsTooLong (pieces_symbols ps ++ open_symbols lead ns) s
within-too_long ps lead ns (Nibble n) m e =
    let many : 3056 ≤ length ns
    = ltb-false (length ns) 3056 (too_long_by (nat_lt (length ns) 3056) (Within (length ps) lead (length ns + 1)) e) in
    let few : length ns ≤ 3056 = m.most in
    (pieces_symbols ps ++ replicate lead J, ns, omega arith, sym (append_assoc (pieces_symbols ps) (replicate lead J) (H ∷ H ∷ map Nibble ns)))
within-too_long ps lead ns T m e =
    absurd (never_after (nat_lt (length ns) 9) (Ended (length ps) lead (length ns)) e)
within-too_long ps lead ns _ m e = absurd (not_here e)

ended-too_long : (closed : ℕ) (s : Symbol) → ended_step closed s ≡ refused TooLong → ⊥
ended-too_long closed R h = taken-refused (Between (closed + 1) 0) TooLong h
ended-too_long closed K h = taken-refused (Between (closed + 1) 0) TooLong h
ended-too_long closed S h = taken-refused (Between (closed + 1) 0) TooLong h
ended-too_long closed _ h = not_here h

beginning-too_long : (b : Beginning) (s : Symbol) → IsBeginning b → place_step (phase_of b) s ≡ refused TooLong
    → IsTooLong (beginning_symbols b) s
beginning-too_long (in_beacon count) s h e = absurd (beacon-too_long count s e)
beginning-too_long (between ps lead) s h e = between-too_long ps lead s h.0 h.1 e
beginning-too_long (opened ps lead) s h e = absurd (opened-too_long (length ps) lead s e)
beginning-too_long (within ps lead ns) s h e = within-too_long ps lead ns s h.2 e
beginning-too_long (ended ps lead ns) s h e = absurd (ended-too_long (length ps) s e)

pub IsTooLong-stands : (symbols : List Symbol) (p : Phase) (s : Symbol) → Stands symbols p
    → place_step p s ≡ Err TooLong → IsTooLong symbols s
IsTooLong-stands symbols p s h e =
    rw h.spelled (beginning-too_long h.beginning s h.in_range (ap (λ x. place_step x s) (sym h.counted) ∙ e))

-- ---- what is too long is refused as such

-- a list that is taken after a refusal is none
dead : {A : Type 0} (ss : List Symbol) (e : PlaceFault) (q : Phase) → after ss (refused e) ≡ taken q → A
dead ss e q h = absurd (refused-taken e q (sym (after-err ss e) ∙ h))

-- where a list is taken after a test, the test let through
past_test : (ss : List Symbol) (b : Bool) (x q : Phase) (e : PlaceFault)
    → after ss (if b then taken x else refused e) ≡ taken q → after ss (taken x) ≡ taken q
past_test ss true x q e h = h
past_test ss false x q e h = dead ss e q h

past_refusal : (ss : List Symbol) (b : Bool) (r : Judgement) (q : Phase) (e : PlaceFault)
    → after ss (if b then refused e else r) ≡ taken q → after ss r ≡ taken q
past_refusal ss true r q e h = dead ss e q h
past_refusal ss false r q e h = h

same_phase : (x y : Phase) → taken x ≡ taken y → y ≡ x
same_phase x y h = cc

leads-counted : (n closed i : ℕ) (q : Phase) → after (replicate n J) (taken (Between closed i)) ≡ taken q
    → q ≡ Between closed (i + n)
leads-counted zero closed i q h =
    let same : i ≡ i + 0 = omega arith in same_phase (Between closed i) q h ∙ ap (Between closed) same
leads-counted (suc n) closed i q h =
    let same : i + 1 + n ≡ i + suc n = omega arith in
    leads-counted n closed (i + 1) q
    (past_test (replicate n J) (nat_lt i 4096) (Between closed (i + 1)) q TooLong h)
    ∙ ap (Between closed) same

nibbles-counted : (ns : List ℕ) (closed lead i : ℕ) (q : Phase)
    → after (map Nibble ns) (taken (Within closed lead i)) ≡ taken q → q ≡ Within closed lead (i + length ns)
nibbles-counted [] closed lead i q h =
    let same : i ≡ i + 0 = omega arith in same_phase (Within closed lead i) q h ∙ ap (Within closed lead) same
nibbles-counted (n ∷ ns) closed lead i q h =
    let same : i + 1 + length ns ≡ i + length (n ∷ ns) = omega arith in
    nibbles-counted ns closed lead (i + 1) q
    (past_test (map Nibble ns) (nat_lt i 3056) (Within closed lead (i + 1)) q TooLong h)
    ∙ ap (Within closed lead) same

-- after some J more, where they are taken
leads-refused : (r : Judgement) (n : ℕ) (q : Phase) → n ≡ 4096 → after (replicate n J) r ≡ taken q
    → place_step q J ≡ refused TooLong
leads-refused r zero q many h = absurd (omega arith)
leads-refused (Err e) (suc n) q many h = dead (replicate (suc n) J) e q h
leads-refused (Ok (Beacon count)) (suc n) q many h = dead (replicate n J) NotHere q h
leads-refused (Ok (Between closed i)) (suc n) q many h =
    let full : nat_lt (i + suc n) 4096 ≡ false = le-ltb (i + suc n) 4096 (omega arith) in
    rw (leads-counted (suc n) closed i q h, full) refl
leads-refused (Ok (Opened closed lead)) (suc n) q many h = dead (replicate n J) NotHere q h
leads-refused (Ok (Within closed lead count)) (suc n) q many h = dead (replicate n J) NotHere q h
leads-refused (Ok (Ended closed lead count)) (suc n) q many h = dead (replicate n J) NotHere q h

-- after the H of a piece and its nibbles, where they are taken
nibbles-refused : (r : Judgement) (ns : List ℕ) (n : ℕ) (q : Phase) → length ns ≡ 3056
    → after (H ∷ H ∷ map Nibble ns) r ≡ taken q → place_step q (Nibble n) ≡ refused TooLong
nibbles-refused (Err e) ns n q many h = dead (H ∷ H ∷ map Nibble ns) e q h
nibbles-refused (Ok (Beacon count)) ns n q many h = dead (H ∷ map Nibble ns) NotHere q h
nibbles-refused (Ok (Between closed lead)) ns n q many h =
    let ss : List Symbol = H ∷ map Nibble ns in
    let judgement : Judgement = if nat_lt closed 4096 then taken (Opened closed lead) else refused TooLong in
    let opened_at : after ss (taken (Opened closed lead)) ≡ taken q
    = past_test ss (nat_lt closed 4096) (Opened closed lead) q TooLong (past_refusal ss (nat_lt lead 2) judgement q NotHere h) in
    let full : nat_lt (0 + length ns) 3056 ≡ false = le-ltb (0 + length ns) 3056 (omega arith) in
    rw (nibbles-counted ns closed lead 0 q opened_at, full) refl
nibbles-refused (Ok (Opened closed lead)) ns n q many h = dead (map Nibble ns) NotHere q h
nibbles-refused (Ok (Within closed lead count)) ns n q many h = dead (H ∷ map Nibble ns) NotHere q h
nibbles-refused (Ok (Ended closed lead count)) ns n q many h = dead (H ∷ map Nibble ns) NotHere q h

pieces-refused : (ps : List Piece) (lead : ℕ) (q : Phase) → length ps ≡ 4096 → All IsPieceInRange ps → 2 ≤ lead
    → after (pieces_symbols ps ++ replicate lead J) (taken start_phase) ≡ taken q → place_step q H ≡ refused TooLong
pieces-refused ps lead q many h least e =
    let here : q ≡ Between (length ps) (0 + lead)
    = leads-counted lead (length ps) 0 q (sym (after-run ps (replicate lead J) h (omega arith)) ∙ e) in
    let enough : nat_lt (0 + lead) 2 ≡ false = le-ltb (0 + lead) 2 (omega arith) in
    let full : nat_lt (length ps) 4096 ≡ false = le-ltb (length ps) 4096 (omega arith) in
    rw (here, enough, full) refl

-- the end of a list that is taken is taken after the rest
end_taken : (symbols before ss : List Symbol) (q : Phase) → symbols ≡ before ++ ss
    → after symbols (taken start_phase) ≡ taken q → after ss (after before (taken start_phase)) ≡ taken q
end_taken symbols before ss q e h =
    sym (ap (λ xs. after xs (taken start_phase)) e ∙ after-append before ss (taken start_phase)) ∙ h

judgement-too_long : (symbols : List Symbol) (q : Phase) (s : Symbol) → after symbols (taken start_phase) ≡ taken q
    → IsTooLong symbols s → place_step q s ≡ refused TooLong
judgement-too_long symbols q (Nibble n) e h =
    nibbles-refused (after h.0 (taken start_phase)) h.1 n q h.2
    (end_taken symbols h.0 (H ∷ H ∷ map Nibble h.1) q h.3 e)
judgement-too_long symbols q J e h =
    leads-refused (after h.0 (taken start_phase)) h.1 q h.2 (end_taken symbols h.0 (replicate h.1 J) q h.3 e)
judgement-too_long symbols q H e h =
    pieces-refused h.0 h.1 q h.2 h.3 h.4 (sym (ap (λ xs. after xs (taken start_phase)) h.5) ∙ e)
judgement-too_long symbols q _ e h = absurd h

pub stands-too_long : (symbols : List Symbol) (p : Phase) (s : Symbol) → Stands symbols p
    → IsTooLong symbols s → place_step p s ≡ Err TooLong
stands-too_long symbols p s h e = judgement-too_long symbols p s (after-stands symbols p h) e
