use Rattle.std.proofs.Common.{◌≡◌, ℕ, ◌<◌, ◌≤◌, List, [], ◌∷◌, length, get_or, map, codes, decimal, Global, Option, Some, refl, sym, ap, ◌∙◌, arith, rules}
use Rattle.std.specs.Option.{option_map}
use Rattle.std.specs.String.{string_bytes}
use Rattle.std.specs.Prelude.{◌↔◌}
use Rattle.std.specs.declared.string.String.{String}
use Rattle.t1s_cli.specs.Generated.{AreInRange}
use Rattle.t1s_cli.specs.Words.{AreGeneratedTask}
use Rattle.t1s_cli.specs.declared.commands.GeneratedTask.{GeneratedTask}
use Rattle.t1s_cli.specs.declared.commands.GeneratedTask.TheVariants.{Gen, Load}
use Rattle.t1s_cli.specs.declared.commands.ScriptNumbers.{ScriptNumbers}
use Rattle.t1s_cli.proofs.commands.generated_task_of.Goals as goal

four_words : (words : List (String Global)) (a b d f : String Global) → 4 ≤ length words → length words < 5 →
    a ≡ get_or words 0 a → b ≡ get_or words 1 b → d ≡ get_or words 2 d → f ≡ get_or words 3 f →
    map string_bytes words ≡ string_bytes a ∷ string_bytes b ∷ string_bytes d ∷ string_bytes f ∷ []
four_words [] a b d f l h p q r s = absurd (omega arith)
four_words (w ∷ []) a b d f l h p q r s = absurd (omega arith)
four_words (w ∷ v ∷ []) a b d f l h p q r s = absurd (omega arith)
four_words (w ∷ v ∷ u ∷ []) a b d f l h p q r s = absurd (omega arith)
four_words (w ∷ v ∷ u ∷ t ∷ []) a b d f l h p q r s = rw (← p, ← q, ← r, ← s) refl
four_words (w ∷ v ∷ u ∷ t ∷ x ∷ words) a b d f l h p q r s = absurd (omega arith)

-- the numbers that three words write, and no others
abbrev Reads : List ℕ → List ℕ → List ℕ → ScriptNumbers → Type 0
Reads a b d n = (m : ScriptNumbers) → (◌≡◌ {A = Option ScriptNumbers} (Some n) (Some m)) ↔ (AreInRange m × (a ≡ decimal m.seed) × (b ≡ decimal m.nodes) × (d ≡ decimal m.frames))

texts : {word a b d x y z : List ℕ} → a ≡ x → b ≡ y → d ≡ z → word ∷ a ∷ b ∷ d ∷ [] ≡ word ∷ x ∷ y ∷ z ∷ []
texts p q r = cc

first : {word a b d x y z : List ℕ} → word ∷ a ∷ b ∷ d ∷ [] ≡ word ∷ x ∷ y ∷ z ∷ [] → (a ≡ x) × (b ≡ y) × (d ≡ z)
first e = (cc, cc, cc)

-- the row of each task: the words ask for no other
gen_row : (words : List (String Global)) (a b d : List ℕ) (n : ScriptNumbers) → map string_bytes words ≡ codes "gen" ∷ a ∷ b ∷ d ∷ [] → Reads a b d n →
    (task : GeneratedTask) → (◌≡◌ {A = Option GeneratedTask} (Some (Gen n)) (Some task)) ↔ AreGeneratedTask words task
gen_row words a b d n is reads (Gen m) = (
  λ e.
      let same : n ≡ m = cc in
      let (range, x, y, z) = (reads m).0 (ap Some same) in
      (range, is ∙ texts x y z),
  λ h.
      let (x, y, z) = first (sym is ∙ h.1) in
      ap (option_map (λ (k : ScriptNumbers). Gen k)) ((reads m).1 (h.0, x, y, z)),
)
gen_row words a b d n is reads (Load m) = (λ e. absurd cc, λ h. absurd (let z = sym is ∙ h.1 in cc))

load_row : (words : List (String Global)) (a b d : List ℕ) (n : ScriptNumbers) → map string_bytes words ≡ codes "load" ∷ a ∷ b ∷ d ∷ [] → Reads a b d n →
    (task : GeneratedTask) → (◌≡◌ {A = Option GeneratedTask} (Some (Load n)) (Some task)) ↔ AreGeneratedTask words task
load_row words a b d n is reads (Gen m) = (λ e. absurd cc, λ h. absurd (let z = sym is ∙ h.1 in cc))
load_row words a b d n is reads (Load m) = (
  λ e.
      let same : n ≡ m = cc in
      let (range, x, y, z) = (reads m).0 (ap Some same) in
      (range, is ∙ texts x y z),
  λ h.
      let (x, y, z) = first (sym is ∙ h.1) in
      ap (option_map (λ (k : ScriptNumbers). Load k)) ((reads m).1 (h.0, x, y, z)),
)

pub returns-in_ok-numbers-in-len4 : goal.returns-in_ok-numbers-in-len4
returns-in_ok-numbers-in-len4 c =
    let same : string_bytes c.word-item.result ≡ codes "gen" = search rules in
    let words : map string_bytes c.args.words.now ≡ codes "gen" ∷ c.as_bytes-in-len4.result.now ∷ c.as_bytes-in-len4-2.result.now ∷ c.as_bytes-in-len4-3.result.now ∷ [] =
    rw (c.as_bytes-in-len4.ensures.value, c.as_bytes-in-len4-2.ensures.value, c.as_bytes-in-len4-3.ensures.value, ← same)
    (four_words c.args.words.now c.word-item.result c.seed-item.result c.nodes-item.result c.frames-item.result c.in-len4.len_at_least c.in-len4.len_below c.word-item.is c.seed-item.is c.nodes-item.is c.frames-item.is) in
    gen_row c.args.words.now c.as_bytes-in-len4.result.now c.as_bytes-in-len4-2.result.now c.as_bytes-in-len4-3.result.now c.in_ok-numbers-in-len4.numbers words
    (λ n. rw c.in_ok-numbers-in-len4.was at (c.script_numbers.ensures n))

pub returns-in_ok-numbers-in-len4-2 : goal.returns-in_ok-numbers-in-len4-2
returns-in_ok-numbers-in-len4-2 c =
    let same : string_bytes c.word-item-then-words-lt5.result ≡ codes "load" = search rules in
    let words : map string_bytes c.args.words.now ≡ codes "load" ∷ c.as_bytes-in-len4-2-2.result.now ∷ c.as_bytes-in-len4-2-3.result.now ∷ c.as_bytes-in-len4-2-4.result.now ∷ [] =
    rw (c.as_bytes-in-len4-2-2.ensures.value, c.as_bytes-in-len4-2-3.ensures.value, c.as_bytes-in-len4-2-4.ensures.value, ← same)
    (four_words c.args.words.now c.word-item-then-words-lt5.result c.seed-item-then-words-lt5.result c.nodes-item-then-words-lt5.result c.frames-item-then-words-lt5.result
    c.in-len4.len_at_least c.in-len4.len_below c.word-item-then-words-lt5.is c.seed-item-then-words-lt5.is c.nodes-item-then-words-lt5.is c.frames-item-then-words-lt5.is) in
    load_row c.args.words.now c.as_bytes-in-len4-2-2.result.now c.as_bytes-in-len4-2-3.result.now c.as_bytes-in-len4-2-4.result.now c.in_ok-numbers-in-len4-2.numbers words
    (λ n. rw c.in_ok-numbers-in-len4-2.was at (c.script_numbers-in-len4-2.ensures n))
