-- What the lines of a plan leave at its default: all but the count, the seed, the nodes, the frames and the end.
use Rattle.std.proofs.Common.{◌≡◌, ℕ, ◌+◌, false, List, [], ◌∷◌, ◌++◌, length, take, map, get_or, Option, Some, None, Ok, refl, ap, All}
use Rattle.std.specs.Prelude.{filter_map}
use Rattle.std.specs.List.{enumerate_from, range_with_len, cons_option}
use Rattle.std.proofs.lemmas.List.Elements.{All-cons, All-nil, All-append, All-head, All-tail}
use Rattle.t1s_script.specs.ParsedLine.{ParsedLine}
use Rattle.t1s_script.specs.Values.{number_for, also_for, stub_for, timer_for, offer_from, setting_of}
use Rattle.t1s_script.specs.Reading.{node_of_line, act_below, act_of, acts_of}
use Rattle.t1s_script.specs.Fit.{is_noise}
use Rattle.t1s_script.specs.declared.script.Act.{Act}
use Rattle.t1s_script.specs.declared.words.Setting.TheVariants.{Count, To, Rise, Burst}
use Rattle.t1s_script.specs.declared.words.ScriptLine.TheVariants.{Set, Seed, End}
use Rattle.t1s_generator.proofs.Left.{each_counted}
use Rattle.t1s_generator.proofs.Plans.{Plan, said_node, said_offer, said_after, said}
use Rattle.t1s_generator.proofs.SaidValues.{none_said}

-- ---- no noise begins

abbrev Silent : Act → Type 0
Silent a = is_noise a.deed ≡ false

abbrev IsSilent : Option Act → Type 0
IsSilent None = Unit {0}
IsSilent (Some a) = Silent a

-- whatever stands before the line, it gives no noise
abbrev IsQuiet : ParsedLine → Type 0
IsQuiet line = (offers : ℕ) → IsSilent (act_below offers line)

quiet_acts : (all : List ParsedLine) (n : ℕ) (lines : List ParsedLine) → All IsQuiet lines → All Silent (filter_map (act_of all) (enumerate_from n lines))
quiet_acts all n [] h = All-nil Silent
quiet_acts all n (line ∷ lines) h =
    go (act_of all (n, line)) (All-head IsQuiet line lines h (length (filter_map offer_from (take n all)))) (quiet_acts all (n + 1) lines (All-tail IsQuiet line lines h))
  where
    go : (o : Option Act) → IsSilent o → All Silent (filter_map (act_of all) (enumerate_from (n + 1) lines)) → All Silent (cons_option o (filter_map (act_of all) (enumerate_from (n + 1) lines)))
    go None here later = later
    go (Some a) here later = All-cons Silent a (filter_map (act_of all) (enumerate_from (n + 1) lines)) here later

module _ (p : Plan) where
  pub to_default : setting_of To (said p) ≡ 32
  to_default = ap (λ ns. get_or ns 0 32) (none_said p (number_for To) refl refl (λ k. refl) (λ k. refl) refl)

  pub rise_default : setting_of Rise (said p) ≡ 4
  rise_default = ap (λ ns. get_or ns 0 4) (none_said p (number_for Rise) refl refl (λ k. refl) (λ k. refl) refl)

  pub burst_default : setting_of Burst (said p) ≡ 0
  burst_default = ap (λ ns. get_or ns 0 0) (none_said p (number_for Burst) refl refl (λ k. refl) (λ k. refl) refl)

  -- a node has the ID of its `node` line alone
  pub one_id : (number : ℕ) (line : ℕ × ℕ) → (node_of_line (said p) number line).ids ≡ line.0 ∷ []
  one_id number line = ap (λ further. line.0 ∷ further) (none_said p (also_for number) refl refl (λ k. refl) (λ k. refl) refl)

  -- a node has no stub
  pub stub_default : (number : ℕ) (line : ℕ × ℕ) → (node_of_line (said p) number line).stub ≡ 0
  stub_default number line = ap (λ ns. get_or ns 0 0) (none_said p (stub_for number) refl refl (λ k. refl) (λ k. refl) refl)

  -- the timer of a node is that of the script
  pub timer_default : (number : ℕ) (line : ℕ × ℕ) → (node_of_line (said p) number line).to ≡ setting_of To (said p)
  timer_default number line = ap (λ ns. get_or ns 0 (setting_of To (said p))) (none_said p (timer_for number) refl refl (λ k. refl) (λ k. refl) refl)

  quiet_lines : All IsQuiet (said p)
  quiet_lines =
      let nodes = each_counted IsQuiet (said_node p) 0 p.nodes (λ k below offers. tt) in
      let frames = each_counted IsQuiet (said_offer p) 0 p.frames (λ k below offers. refl) in
      let end = All-cons IsQuiet (Ok (End p.last)) [] (λ offers. tt) (All-nil IsQuiet) in
      let after = All-append IsQuiet (map (said_offer p) (range_with_len 0 p.frames)) (Ok (End p.last) ∷ []) frames end in
      let nodes_and_after = All-append IsQuiet (map (said_node p) (range_with_len 0 p.nodes)) (said_after p) nodes after in
      All-cons IsQuiet (Ok (Set Count p.nodes)) (Ok (Seed p.seed) ∷ (map (said_node p) (range_with_len 0 p.nodes) ++ said_after p)) (λ offers. tt)
      (All-cons IsQuiet (Ok (Seed p.seed)) (map (said_node p) (range_with_len 0 p.nodes) ++ said_after p) (λ offers. tt) nodes_and_after)

  pub all_offers : All (λ (a : Act). is_noise a.deed ≡ false) (acts_of (said p))
  all_offers = quiet_acts (said p) 0 (said p) quiet_lines
