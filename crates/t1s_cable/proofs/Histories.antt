-- What a cable keeps tells what was put on it as far back as any node is away.
use Rattle.std.proofs.Common.{◌≡◌, ◌∙◌, ℕ, zero, suc, ◌+◌, ◌-◌, ◌<◌, ◌≤◌, inl, inr, List, [], ◌∷◌, ◌++◌, length, get_or, set, drop, replicate, Option, None, refl, sym, ap, arith}
use Rattle.std.specs.Prelude.{IfSome}
use Rattle.std.proofs.lemmas.Bool.{cases_lt}
use Rattle.std.proofs.lemmas.List.{length-replicate, replicate_more}
use Rattle.t1s_symbols.specs.declared.Quarter.{Quarter}
use Rattle.t1s_symbols.specs.Ranges.{IsQuarter}
use Rattle.t1s_harness.specs.Distances.{span}
use Rattle.t1s_harness.proofs.Distances.{between-within}
use Rattle.t1s_world.specs.Hearing.{heard}
use Rattle.t1s_world.specs.World.{at_depth}
use Rattle.t1s_world.proofs.HearingLemmas.{heard_same}
use Rattle.t1s_world.proofs.ListLemmas.{written_more}
use Rattle.circular_buffer.specs.Buffer.{Buffer, buffer}
use Rattle.t1s_cable.specs.declared.changes.Change.{Change}
use Rattle.t1s_cable.specs.Changes.{KeepsRow, SameRings, drove, ring_at}
use Rattle.t1s_cable.specs.Rings.{put_at, AreQuarters, AreRings}
use Rattle.t1s_cable.specs.State.{CableState}
use Rattle.t1s_cable.specs.Taps.{most_span}
use Rattle.t1s_cable.specs.Stands.{Stands, TellsRows, no_puts}
use Rattle.t1s_cable.proofs.ChangeLists.{drove_in_range}

-- the current row and the rings tell what was put as far back as any node is away
pub put_at_is : (room clock : ℕ) (rings : List (Buffer Change)) (rows : List (List (Option Quarter))) → TellsRows room clock rings rows
    → (row : List (Option Quarter)) (i d : ℕ) → i < length rings → d ≤ room → put_at row rings clock i d ≡ at_depth (row ∷ rows) i d
put_at_is room clock rings rows tells row i zero here near = refl
put_at_is room clock rings rows tells row i (suc d) here near = tells i d here (omega (arith, near))

-- so hearing over them is hearing over the whole history
pub heard_is : (c : CableState) → length c.rings ≡ length c.taps → (rows : List (List (Option Quarter))) → Stands rows c
    → (j : ℕ) → j < length c.taps → heard (put_at c.row c.rings c.clock) c.taps j ≡ heard (at_depth rows) c.taps j
heard_is c sizes [] stands j there = absurd stands
heard_is c sizes (row ∷ past) stands j there =
    rw stands.0
    (heard_same (span c.taps) (put_at row c.rings c.clock) (at_depth (row ∷ past)) c.taps j
    (λ i d lt close. put_at_is (span c.taps) c.clock c.rings past stands.1 row i d (omega (arith, sizes, lt)) close)
    (λ k lt other. between-within c.taps j k there lt (λ e. other (sym e))))

-- ---- a tick ends

-- what a node put d ticks ago it put one more tick ago then
abbrev pub Shifts : ℕ → (ℕ → ℕ → Option Quarter) → (ℕ → ℕ → Option Quarter) → Type 0
Shifts reach old new = (i d : ℕ) → d < reach → new i (suc d) ≡ old i d

beyond : {X : Type 0} (xs : List X) (i : ℕ) (x : X) → length xs ≤ i → get_or xs i x ≡ x
beyond [] i x out = refl
beyond (y ∷ xs) zero x out = absurd (omega (arith, out))
beyond (y ∷ xs) (suc i) x out = beyond xs i x (omega (arith, out))

-- there is no ring of a node that isn't there
no_ring : (rings : List (Buffer Change)) (i t : ℕ) → length rings ≤ i → drove (ring_at rings i).items t ≡ None
no_ring rings i t out = let none = beyond rings i (buffer [] 0) out in rw none refl

nothing_put : (row : List (Option Quarter)) (rings : List (Buffer Change)) (clock i d : ℕ) → length rings ≡ length row → length rings ≤ i → put_at row rings clock i d ≡ None
nothing_put row rings clock i zero sizes out = beyond row i None (omega (arith, sizes, out))
nothing_put row rings clock i (suc d) sizes out = no_ring rings i (clock - suc d) out

module _ (reach n m : ℕ) (row : List (Option Quarter)) (old mid new : List (Buffer Change)) (sizes : length old ≡ length row)
    (rings : AreRings reach n old) (same : SameRings n m old mid) (kept : KeepsRow m row mid new) where
  is_here : (i : ℕ) → i < length old → i < length mid
  is_here i here = omega (arith, here, same.sizes)

  shifts_here : (i d : ℕ) → i < length old → d < reach → drove (ring_at new i).items (m + 1 - suc d) ≡ put_at row old n i d
  shifts_here i zero here near =
      let last : m + 1 - 1 ≡ m = omega arith in
      ap (drove (ring_at new i).items) last ∙ (kept.each i (is_here i here)).now
  shifts_here i (suc d) here near =
      let was = same.each i here in
      let room : (ring_at mid i).capacity ≡ reach + 1 = was.room ∙ (rings i here).0 in
      let last : m + 1 - suc (suc d) ≡ m - suc d = omega arith in
      ap (drove (ring_at new i).items) last
      ∙ ((kept.each i (is_here i here)).before (m - suc d) (omega (arith, was.ring.past, room, near)) (omega (arith, was.ring.past, room, near))
      ∙ was.same (suc d) (omega arith) (omega (arith, (rings i here).0, near)))

  pub shifts_turn : (after : List (Option Quarter)) → Shifts reach (put_at row old n) (put_at after new (m + 1))
  shifts_turn after i d near = elim (cases_lt i (length old)) [
    | inl here ↦ shifts_here i d here near
    | inr out ↦
        no_ring new i (m + 1 - suc d) (omega (arith, out, same.sizes, kept.sizes))
        ∙ sym (nothing_put row old n i d sizes out)
  ]

  pub rings_turn : AreRings reach (m + 1) new
  rings_turn i here =
      let was : i < length old = omega (arith, here, same.sizes, kept.sizes) in
      let keeps = kept.each i (is_here i was) in
      (keeps.room ∙ ((same.each i was).room ∙ (rings i was).0), keeps.ring)

-- the next tick begins with a row in which nothing is put
pub stands_next : (c d : CableState) → length d.rings ≡ length c.rings → d.taps ≡ c.taps → d.row ≡ no_puts c.taps
    → Shifts (span c.taps) (put_at c.row c.rings c.clock) (put_at d.row d.rings d.clock)
    → (rows : List (List (Option Quarter))) → Stands rows c → Stands (no_puts c.taps ∷ rows) d
stands_next c d sizes taps row shifts [] stands = absurd stands
stands_next c d sizes taps row shifts (first ∷ past) stands = (row, tells)
  where
    tells : TellsRows (span d.taps) d.clock d.rings (first ∷ past)
    tells i k here near =
        let close : k < span c.taps = rw taps at near in
        let told : put_at c.row c.rings c.clock i k ≡ at_depth (first ∷ past) i k =
        rw (← stands.0) (put_at_is (span c.taps) c.clock c.rings past stands.1 c.row i k (omega (arith, here, sizes)) (omega (arith, close))) in
        shifts i k close ∙ told

-- one more node ends its tick
pub row_more : (row left : List (Option Quarter)) (i : ℕ) → i < length row → left ≡ replicate i None ++ drop i row → set left i None ≡ replicate (i + 1) None ++ drop (i + 1) row
row_more row left i lt written =
    let none : Option Quarter = None in
    rw (← replicate_more i none) (written_more (replicate i none) row left i none none (length-replicate i none) lt written)

-- a row in which nothing is put tells of no node, and an empty ring of no tick
pub none_put : (n i : ℕ) → ◌≡◌ {A = Option Quarter} (get_or (replicate n None) i None) None
none_put zero i = refl
none_put (suc n) zero = refl
none_put (suc n) (suc i) = none_put n i

pub none_kept : (n i t room : ℕ) → drove (ring_at (replicate n (buffer [] room)) i).items t ≡ None
none_kept zero i t room = refl
none_kept (suc n) zero t room = refl
none_kept (suc n) (suc i) t room = none_kept n i t room

-- ---- whatever is kept is in range

pub quarters-new : (n : ℕ) → AreQuarters (replicate n None)
quarters-new n i = let none = none_put n i in rw none tt

pub quarters-put : (row : List (Option Quarter)) (node : ℕ) (q : Option Quarter) → IfSome q IsQuarter → AreQuarters row → AreQuarters (set row node q)
quarters-put [] node q fine all i = all i
quarters-put (p ∷ row) zero q fine all zero = fine
quarters-put (p ∷ row) zero q fine all (suc i) = all (suc i)
quarters-put (p ∷ row) (suc node) q fine all zero = all 0
quarters-put (p ∷ row) (suc node) q fine all (suc i) = quarters-put row node q fine (λ k. all (suc k)) i

pub put_in_range : (reach clock : ℕ) (row : List (Option Quarter)) (rings : List (Buffer Change)) → AreQuarters row → AreRings reach clock rings
    → (i d : ℕ) → IfSome (put_at row rings clock i d) IsQuarter
put_in_range reach clock row rings all are i zero = all i
put_in_range reach clock row rings all are i (suc d) = elim (cases_lt i (length rings)) [
  | inl here ↦ drove_in_range (ring_at rings i).items clock (clock - suc d) (are i here).1.changes
  | inr out ↦ let none = no_ring rings i (clock - suc d) out in rw none tt
]

-- ---- new rings

pub rings-new : (n reach : ℕ) → reach ≤ most_span → AreRings reach reach (replicate n (buffer [] (reach + 1)))
rings-new zero reach short i here = absurd (omega (arith, here))
rings-new (suc n) reach short zero here =
    (refl, record { some = omega arith; short = omega (arith, short); past = omega arith; held = omega arith; changes = tt })
rings-new (suc n) reach short (suc i) here = rings-new n reach short i (omega (arith, here))
