use Rattle.std.proofs.Common.{◌≡◌, ◌≤◌, ℕ, Option, Some, decimal, List, subst, refl, arith}
use Rattle.std.specs.Prelude.{◌↔◌}
use Rattle.t1s_cli.specs.declared.commands.ScriptNumbers.{ScriptNumbers}
use Rattle.t1s_cli.specs.Generated.{AreInRange, most_nodes_made}
use Rattle.t1s_cli.proofs.commands.script_numbers.Goals as goal

pub overflow_cast-result : goal.overflow_cast-result
overflow_cast-result c = omega (arith, ((c.number_in-2.ensures c.in_ok-nodes.nodes).0 c.in_ok-nodes.was).1)

pub overflow_cast-result-2 : goal.overflow_cast-result-2
overflow_cast-result-2 c = omega (arith, ((c.number_in-3.ensures c.in_ok-frames.frames).0 c.in_ok-frames.was).1)

-- a word that writes this number in this range, and no other
abbrev Reads : List ℕ → ℕ → ℕ → ℕ → Type 0
Reads word least most found = (n : ℕ) → (◌≡◌ {A = Option ℕ} (Some found) (Some n)) ↔ ((least ≤ n) × (n ≤ most) × (word ≡ decimal n))

numbers_row : (a b d : List ℕ) (seed nodes frames : ℕ) → Reads a 0 4294967295 seed → Reads b 1 most_nodes_made nodes → Reads d 0 400 frames → (n : ScriptNumbers) →
    (◌≡◌ {A = Option ScriptNumbers} (Some record { seed = seed; nodes = nodes; frames = frames }) (Some n)) ↔
    (AreInRange n × (a ≡ decimal n.seed) × (b ≡ decimal n.nodes) × (d ≡ decimal n.frames))
numbers_row a b d seed nodes frames first second third n = (
  λ e.
      let made : ScriptNumbers = record { seed = seed; nodes = nodes; frames = frames } in
      let same : made ≡ n = cc in
      let (_, seed_high, seed_text) = (first seed).0 refl in
      let (some, nodes_high, nodes_text) = (second nodes).0 refl in
      let (_, frames_high, frames_text) = (third frames).0 refl in
      let range : AreInRange made = record { seed = seed_high; some = some; nodes = nodes_high; frames = frames_high } in
      subst (λ (m : ScriptNumbers). AreInRange m × (a ≡ decimal m.seed) × (b ≡ decimal m.nodes) × (d ≡ decimal m.frames)) same (range, seed_text, nodes_text, frames_text),
  λ h.
      let (range, seed_text, nodes_text, frames_text) = h in
      let seed_found = (first n.seed).1 (omega arith, range.seed, seed_text) in
      let nodes_found = (second n.nodes).1 (range.some, range.nodes, nodes_text) in
      let frames_found = (third n.frames).1 (omega arith, range.frames, frames_text) in
      let same_seed : seed ≡ n.seed = cc in
      let same_nodes : nodes ≡ n.nodes = cc in
      let same_frames : frames ≡ n.frames = cc in
      rw (same_seed, same_nodes, same_frames) refl,
)

pub returns : goal.returns
returns c =
    numbers_row c.args.seed.now c.args.nodes.now c.args.frames.now c.in_ok-seed.seed c.in_ok-nodes.nodes c.in_ok-frames.frames
    (λ n. rw c.in_ok-seed.was at (c.number_in.ensures n)) (λ n. rw c.in_ok-nodes.was at (c.number_in-2.ensures n)) (λ n. rw c.in_ok-frames.was at (c.number_in-3.ensures n))
