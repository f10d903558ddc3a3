-- The acts of lines, and of one more line.
use Rattle.std.proofs.Common.{◌≡◌, ℕ, suc, ◌+◌, ◌≤◌, List, [], ◌∷◌, ◌++◌, length, take, Option, Some, None, refl, sym, ◌∙◌, ap, arith, length-append}
use Rattle.std.specs.Prelude.{filter_map}
use Rattle.std.specs.List.{enumerate_from, cons_option}
use Rattle.std.proofs.Math.Seq.{take-append_seam}
use Rattle.std.proofs.lemmas.List.{append-nil, take-append-le}
use Rattle.std.proofs.lemmas.List.Elements.{filter_map-append}
use Rattle.t1s_script.specs.ParsedLine.{ParsedLine}
use Rattle.t1s_script.specs.Values.{offer_from, tick_from, greatest, latest_tick}
use Rattle.t1s_script.specs.Script.{offer_number, offers_in}
use Rattle.t1s_script.specs.Reading.{act_below, act_of, acts_of}
use Rattle.t1s_script.specs.declared.script.Act.{Act}
use Rattle.t1s_script.proofs.LineValues.{same_values, one_more}

-- ---- how many offers there are

pub length-filter_map : {X Y : Type 0} (f : X → Option Y) (xs : List X) → length (filter_map f xs) ≤ length xs
length-filter_map f [] = omega arith
length-filter_map {Y = Y} f (x ∷ xs) = go (f x) (length-filter_map f xs)
  where
    go : (o : Option Y) → length (filter_map f xs) ≤ length xs → length (cons_option o (filter_map f xs)) ≤ suc (length xs)
    go None fewer = omega (arith, fewer)
    go (Some y) fewer = omega (arith, fewer)

pub offers_in-append : (acts more : List Act) → offers_in (acts ++ more) ≡ offers_in acts + offers_in more
offers_in-append acts more = ap length (filter_map-append offer_number acts more) ∙ length-append (filter_map offer_number acts) (filter_map offer_number more)

-- ---- one more line

pub enumerate_more : {X : Type 0} (n : ℕ) (xs : List X) (x : X) → enumerate_from n (xs ++ x ∷ []) ≡ enumerate_from n xs ++ (n + length xs, x) ∷ []
enumerate_more n [] x = let here : n ≡ n + 0 = omega arith in ap (λ k. (k, x) ∷ []) here
enumerate_more n (y ∷ xs) x =
    let next : n + 1 + length xs ≡ n + suc (length xs) = omega arith in
    ap (λ later. (n, y) ∷ later) (enumerate_more (n + 1) xs x ∙ ap (λ k. enumerate_from (n + 1) xs ++ (k, x) ∷ []) next)

-- what stands below a line changes nothing of its act
acts_above : (all more : List ParsedLine) (n : ℕ) (rest : List ParsedLine) → n + length rest ≤ length all
    → filter_map (act_of (all ++ more)) (enumerate_from n rest) ≡ filter_map (act_of all) (enumerate_from n rest)
acts_above all more n [] few = refl
acts_above all more n (line ∷ rest) few =
    ap (λ above. cons_option (act_below (length (filter_map offer_from above)) line) (filter_map (act_of (all ++ more)) (enumerate_from (n + 1) rest))) (take-append-le n all more (omega arith))
    ∙ ap (cons_option (act_of all (n, line))) (acts_above all more (n + 1) rest (omega arith))

-- the acts of lines and of one more
pub acts_of-more : (lines : List ParsedLine) (line : ParsedLine) → acts_of (lines ++ line ∷ []) ≡ acts_of lines ++ cons_option (act_below (length (filter_map offer_from lines)) line) []
acts_of-more lines line =
    let whole : List ParsedLine = lines ++ line ∷ [] in
    let place : 0 + length lines ≡ length lines = omega arith in
    let above : take (0 + length lines) whole ≡ lines = ap (λ k. take k whole) place ∙ take-append_seam lines (line ∷ []) in
    ap (filter_map (act_of whole)) (enumerate_more 0 lines line)
    ∙ filter_map-append (act_of whole) (enumerate_from 0 lines) ((0 + length lines, line) ∷ [])
    ∙ ap (λ acts. acts ++ cons_option (act_of whole (0 + length lines, line)) []) (acts_above lines (line ∷ []) 0 lines (omega arith))
    ∙ ap (λ before. acts_of lines ++ cons_option (act_below (length (filter_map offer_from before)) line) []) above

greatest_last : (ns : List ℕ) (n : ℕ) → greatest ns ≤ n → greatest (ns ++ n ∷ []) ≡ n
greatest_last [] n above = omega arith
greatest_last (m ∷ ns) n above =
    let low : m ≤ n = omega arith in
    let later : greatest (ns ++ n ∷ []) ≡ n = greatest_last ns n (omega arith) in
    omega arith

-- ---- what is kept of them

-- what is kept of the acts is that of the timed lines, of which the last has the tick `latest`
pub record HoldsActs (lines : List ParsedLine) (kept_acts : List Act) (kept_tick : ℕ) : Type 0 where
  pub acts : kept_acts ≡ acts_of lines
  pub latest : kept_tick ≡ latest_tick lines
  pub counted : length kept_acts ≡ length (filter_map tick_from lines)
  pub numbered : offers_in kept_acts ≡ length (filter_map offer_from lines)

-- a line that is not timed
pub record IsUntimed (line : ParsedLine) : Type 0 where
  pub act : (offers : ℕ) → act_below offers line ≡ None
  pub offer : offer_from line ≡ None
  pub tick : tick_from line ≡ None

pub same_acts : (lines : List ParsedLine) (line : ParsedLine) (acts : List Act) (latest : ℕ) → HoldsActs lines acts latest → IsUntimed line → HoldsActs (lines ++ line ∷ []) acts latest
same_acts lines line acts latest h untimed =
    let offers = same_values offer_from lines line untimed.offer in
    let ticks = same_values tick_from lines line untimed.tick in
    record {
      acts =
          h.acts ∙ sym (append-nil (acts_of lines))
          ∙ ap (λ here. acts_of lines ++ cons_option here []) (sym (untimed.act (length (filter_map offer_from lines))))
          ∙ sym (acts_of-more lines line);
      latest = h.latest ∙ ap greatest ticks;
      counted = h.counted ∙ ap length ticks;
      numbered = h.numbered ∙ ap length offers;
    }

-- a timed line, with its act, of which the number counts the offers that are kept
pub record HasAct (line : ParsedLine) (above : ℕ) (act : Act) : Type 0 where
  pub gives : act_below above line ≡ Some act
  pub tick : tick_from line ≡ Some act.tick
  pub offers : offers_in (act ∷ []) ≡ length (filter_map offer_from (line ∷ []))

pub more_acts : (lines : List ParsedLine) (line : ParsedLine) (acts : List Act) (latest : ℕ) (act : Act) → HoldsActs lines acts latest → latest ≤ act.tick → HasAct line (offers_in acts) act
    → HoldsActs (lines ++ line ∷ []) (acts ++ act ∷ []) act.tick
more_acts lines line acts latest act h order timed =
    let ticks : filter_map tick_from lines ++ act.tick ∷ [] ≡ filter_map tick_from (lines ++ line ∷ []) = one_more tick_from lines line act.tick timed.tick in
    let low : greatest (filter_map tick_from lines) ≤ act.tick = omega (arith, h.latest) in
    let here : act_below (length (filter_map offer_from lines)) line ≡ Some act = ap (λ k. act_below k line) (sym h.numbered) ∙ timed.gives in
    record {
      acts =
          ap (λ xs. xs ++ act ∷ []) h.acts ∙ ap (λ o. acts_of lines ++ cons_option o []) (sym here) ∙ sym (acts_of-more lines line);
      latest = sym (greatest_last (filter_map tick_from lines) act.tick low) ∙ ap greatest ticks;
      counted =
          length-append acts (act ∷ []) ∙ ap (λ k. k + 1) h.counted
          ∙ sym (length-append (filter_map tick_from lines) (act.tick ∷ [])) ∙ ap length ticks;
      numbered =
          offers_in-append acts (act ∷ []) ∙ ap (λ k. k + offers_in (act ∷ [])) h.numbered ∙ ap (λ k. length (filter_map offer_from lines) + k) timed.offers
          ∙ sym (ap length (filter_map-append offer_from lines (line ∷ [])) ∙ length-append (filter_map offer_from lines) (filter_map offer_from (line ∷ [])));
    }
