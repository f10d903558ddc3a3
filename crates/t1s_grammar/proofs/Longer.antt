-- The beginning of a burst with one symbol more.
use Rattle.std.proofs.Common.{◌≡◌, refl, ℕ, zero, suc, ◌+◌, ◌<◌, ◌≤◌, Bool, true, false, List, [], ◌∷◌, ◌++◌, length, map, replicate, nat_lt, if◌then◌else◌, sym, ap, ◌∙◌, arith, append_assoc, length-append}
use Rattle.std.specs.Prelude.{All}
use Rattle.std.proofs.lemmas.Grind.{common_steps, flat_map-append}
use Rattle.std.proofs.lemmas.Bool.{ltb-true, ltb-false}
use Rattle.std.proofs.lemmas.List.{append-nil, map-append, replicate-append-replicate}
use Rattle.std.proofs.lemmas.List.Elements.{All-append}
use Rattle.t1s_symbols.specs.declared.Symbol.{Symbol}
use Rattle.t1s_symbols.specs.declared.Symbol.TheVariants.{Nibble, J, K, T, R, H, N, S}
use Rattle.t1s_symbols.specs.Ranges.{IsSymbol}
use Rattle.t1s_grammar.specs.Burst.{Piece, IsPieceInRange, IsCloser, open_symbols, piece_symbols, pieces_symbols}
use Rattle.t1s_grammar.specs.Prefixes.{Beginning, beginning_symbols, IsBeginning, ArePieces, phase_of, beacon, between, opened, within, ended}
use Rattle.t1s_grammar.specs.PlaceTable.{place_step, between_step, within_step, beacon_step, ended_step, opened_step}
use Rattle.t1s_grammar.specs.declared.place.Phase.{Phase}
use Rattle.t1s_grammar.specs.declared.place.Phase.TheVariants.{Beacon, Between, Opened, Within, Ended}
use Rattle.t1s_grammar.specs.declared.place.PlaceFault.{PlaceFault}
use Rattle.t1s_grammar.specs.declared.place.PlaceFault.TheVariants.{NotHere, TooLong}
use Rattle.t1s_grammar.proofs.Judgements.{Judgement, taken, refused}
use Rattle.t1s_grammar.specs.Longer.{with_symbol, piece_of}

pub All-nil : {X : Type 0} (P : X → Type 0) → All P []
All-nil P k d l = absurd (omega arith)

All-one : {X : Type 0} (P : X → Type 0) (x : X) → P x → All P (x ∷ [])
All-one P x h zero d l = h
All-one P x h (suc k) d l = absurd (omega arith)

-- ---- whole pieces, and one more

pub more_pieces : (ps : List Piece) (p : Piece) → pieces_symbols (ps ++ p ∷ []) ≡ pieces_symbols ps ++ piece_symbols p
more_pieces ps p =
    flat_map-append piece_symbols ps (p ∷ []) ∙ ap (λ ss. pieces_symbols ps ++ ss) (append-nil (piece_symbols p))

pub ArePieces-push : (ps : List Piece) (p : Piece) → ArePieces ps 4095 → IsPieceInRange p → ArePieces (ps ++ p ∷ []) 4096
ArePieces-push ps p h here =
    let few : length ps ≤ 4095 = h.count in
    record {
      count = omega (arith, length-append ps (p ∷ []));
      in_range = All-append IsPieceInRange ps (p ∷ []) h.in_range (All-one IsPieceInRange p here);
    }

pub open-append : (lead : ℕ) (a b : List ℕ) → open_symbols lead (a ++ b) ≡ open_symbols lead a ++ map Nibble b
open-append lead a b =
    ap (λ ss. replicate lead J ++ H ∷ H ∷ ss) (map-append Nibble a b)
    ∙ sym (append_assoc (replicate lead J) (H ∷ H ∷ map Nibble a) (map Nibble b))

-- ---- a symbol that is taken

pub taken-value : (x q : Phase) → taken x ≡ taken q → x ≡ q
taken-value x q h = cc

pub refused-taken : (e : PlaceFault) (q : Phase) → refused e ≡ taken q → ⊥
refused-taken e q h = cc

-- a test that lets a symbol through
let_through : (b : Bool) (x q : Phase) (e : PlaceFault) → (if b then taken x else refused e) ≡ taken q → (b ≡ true) × (x ≡ q)
let_through true x q e h = (refl, taken-value x q h)
let_through false x q e h = absurd (refused-taken e q h)

-- and one that stops it
stopped : (b : Bool) (r : Judgement) (q : Phase) (e : PlaceFault)
    → (if b then refused e else r) ≡ taken q → (b ≡ false) × (r ≡ taken q)
stopped true r q e h = absurd (refused-taken e q h)
stopped false r q e h = (refl, h)

one_more : {A : Type 0} (n : ℕ) (a : A) → replicate (n + 1) a ≡ replicate n a ++ a ∷ []
one_more n a = sym (replicate-append-replicate n 1 a)

-- what a symbol that is taken leaves
pub record TakesSymbol (b : Beginning) (s : Symbol) (q : Phase) : Type 0 where
  pub phase : phase_of (with_symbol b s) ≡ q
  pub symbols : beginning_symbols (with_symbol b s) ≡ beginning_symbols b ++ s ∷ []
  pub in_range : IsBeginning b → IsSymbol s → IsBeginning (with_symbol b s)

beacon_more : (count : ℕ) (s : Symbol) (q : Phase) → beacon_step count s ≡ taken q → TakesSymbol (beacon count) s q
beacon_more count N q e =
    let t = let_through (nat_lt count 5) (Beacon (count + 1)) q NotHere e in
    let few : count < 5 = ltb-true count 5 t.0 in
    record { phase = t.1; symbols = one_more count N; in_range = λ h k. (omega arith, omega arith) }
beacon_more count _ q e = absurd (refused-taken NotHere q e)

pub none_before : (ps : List Piece) (lead : ℕ) (q : Phase) → between_step (length ps) lead N ≡ taken q
    → (ps ≡ []) × (lead ≡ 0) × (q ≡ Beacon 1)
none_before [] zero q e = (refl, refl, sym (taken-value (Beacon 1) q e))
none_before [] (suc n) q e =
    let none : refused NotHere ≡ taken q = grind (arith, common_steps) in absurd (refused-taken NotHere q none)
none_before (p ∷ ps) lead q e =
    let none : refused NotHere ≡ taken q = grind (arith, common_steps) in absurd (refused-taken NotHere q none)

between_more : (ps : List Piece) (lead : ℕ) (s : Symbol) (q : Phase) → between_step (length ps) lead s ≡ taken q
    → TakesSymbol (between ps lead) s q
between_more ps lead J q e =
    let t = let_through (nat_lt lead 4096) (Between (length ps) (lead + 1)) q TooLong e in
    let few : lead < 4096 = ltb-true lead 4096 t.0 in
    record {
      phase = t.1;
      symbols = ap (λ ss. pieces_symbols ps ++ ss) (one_more lead J) ∙ sym (append_assoc (pieces_symbols ps) (replicate lead J) (J ∷ []));
      in_range = λ h k. (h.0, omega arith);
    }
between_more ps lead H q e =
    let a = stopped (nat_lt lead 2) (if nat_lt (length ps) 4096 then taken (Opened (length ps) lead) else refused TooLong) q NotHere e in
    let t = let_through (nat_lt (length ps) 4096) (Opened (length ps) lead) q TooLong a.1 in
    let two : 2 ≤ lead = ltb-false lead 2 a.0 in
    let few : length ps < 4096 = ltb-true (length ps) 4096 t.0 in
    record {
      phase = t.1;
      symbols = refl;
      in_range = λ h k. (record { count = omega arith; in_range = h.0.in_range }, record { least = two; most = h.1 });
    }
between_more ps lead N q e =
    let t = none_before ps lead q e in
    let nothing : pieces_symbols ps ++ replicate lead J ≡ [] = rw (t.0, t.1) refl in
    record {
      phase = sym t.2;
      symbols = ap (λ ss. ss ++ N ∷ []) (sym nothing);
      in_range = λ h k. (omega arith, omega arith);
    }
between_more ps lead _ q e = absurd (refused-taken NotHere q e)

opened_more : (ps : List Piece) (lead : ℕ) (s : Symbol) (q : Phase) → opened_step (length ps) lead s ≡ taken q
    → TakesSymbol (opened ps lead) s q
opened_more ps lead H q e =
    record {
      phase = taken-value (Within (length ps) lead 0) q e;
      symbols = sym (append_assoc (pieces_symbols ps ++ replicate lead J) (H ∷ []) (H ∷ []) ∙ append_assoc (pieces_symbols ps) (replicate lead J) (H ∷ H ∷ []));
      in_range = λ h k. (h.0, h.1, record { fewest = omega arith; most = omega arith; ranges = All-nil (λ n. n < 16) });
    }
opened_more ps lead _ q e = absurd (refused-taken NotHere q e)

one_below : (n : ℕ) → n < 16 → All (λ m. m < 16) (n ∷ [])
one_below n h zero d l = h
one_below n h (suc k) d l = absurd (omega arith)

within_more : (ps : List Piece) (lead : ℕ) (ns : List ℕ) (s : Symbol) (q : Phase)
    → within_step (length ps) lead (length ns) s ≡ taken q → TakesSymbol (within ps lead ns) s q
within_more ps lead ns (Nibble n) q e =
    let t = let_through (nat_lt (length ns) 3056) (Within (length ps) lead (length ns + 1)) q TooLong e in
    let few : length ns < 3056 = ltb-true (length ns) 3056 t.0 in
    let long : length (ns ++ n ∷ []) ≡ length ns + 1 = length-append ns (n ∷ []) in
    record {
      phase = ap (λ k. Within (length ps) lead k) long ∙ t.1;
      symbols = ap (λ ss. pieces_symbols ps ++ ss) (open-append lead ns (n ∷ []))
          ∙ sym (append_assoc (pieces_symbols ps) (open_symbols lead ns) (Nibble n ∷ []));
      in_range = λ h k. (
        h.0,
        h.1,
        record {
          fewest = omega arith;
          most = omega arith;
          ranges = All-append (λ m. m < 16) ns (n ∷ []) h.2.ranges (one_below n k);
        },
      );
    }
within_more ps lead ns T q e =
    let t = stopped (nat_lt (length ns) 9) (taken (Ended (length ps) lead (length ns))) q NotHere e in
    let nine : 9 ≤ length ns = ltb-false (length ns) 9 t.0 in
    record {
      phase = taken-value (Ended (length ps) lead (length ns)) q t.1;
      symbols = refl;
      in_range = λ h k. (h.0, h.1, record { fewest = nine; most = h.2.most; ranges = h.2.ranges });
    }
within_more ps lead ns _ q e = absurd (refused-taken NotHere q e)

close_symbols : (ps : List Piece) (lead : ℕ) (ns : List ℕ) (s : Symbol)
    → pieces_symbols (ps ++ piece_of lead ns s ∷ []) ++ [] ≡ (pieces_symbols ps ++ open_symbols lead ns ++ T ∷ []) ++ s ∷ []
close_symbols ps lead ns s =
    append-nil (pieces_symbols (ps ++ piece_of lead ns s ∷ []))
    ∙ more_pieces ps (piece_of lead ns s)
    ∙ sym (append_assoc (pieces_symbols ps ++ open_symbols lead ns) (T ∷ []) (s ∷ []) ∙ append_assoc (pieces_symbols ps) (open_symbols lead ns) (T ∷ s ∷ []))

closed : (ps : List Piece) (lead : ℕ) (ns : List ℕ) (s : Symbol) (q : Phase) → IsCloser s
    → taken (Between (length ps + 1) 0) ≡ taken q → TakesSymbol (ended ps lead ns) s q
closed ps lead ns s q c e =
    let long : length (ps ++ piece_of lead ns s ∷ []) ≡ length ps + 1 = length-append ps (piece_of lead ns s ∷ []) in
    record {
      phase = ap (λ k. Between k 0) long ∙ taken-value (Between (length ps + 1) 0) q e;
      symbols = close_symbols ps lead ns s;
      in_range = λ h k. (
        ArePieces-push ps (piece_of lead ns s) h.0 (record {
          least_lead = h.1.least;
          most_lead = h.1.most;
          least_nibbles = h.2.fewest;
          most_nibbles = h.2.most;
          nibbles = h.2.ranges;
          closer = c;
        }),
        omega arith,
      );
    }

ended_more : (ps : List Piece) (lead : ℕ) (ns : List ℕ) (s : Symbol) (q : Phase) → ended_step (length ps) s ≡ taken q
    → TakesSymbol (ended ps lead ns) s q
ended_more ps lead ns R q e = closed ps lead ns R q tt e
ended_more ps lead ns K q e = closed ps lead ns K q tt e
ended_more ps lead ns S q e = closed ps lead ns S q tt e
ended_more ps lead ns _ q e = absurd (refused-taken NotHere q e)

pub more : (b : Beginning) (s : Symbol) (q : Phase) → place_step (phase_of b) s ≡ taken q → TakesSymbol b s q
more (beacon count) s q e = beacon_more count s q e
more (between ps lead) s q e = between_more ps lead s q e
more (opened ps lead) s q e = opened_more ps lead s q e
more (within ps lead ns) s q e = within_more ps lead ns s q e
more (ended ps lead ns) s q e = ended_more ps lead ns s q e
