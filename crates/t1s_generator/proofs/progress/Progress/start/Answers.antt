use Rattle.std.proofs.Common.{refl, arith}
use Rattle.t1s_generator.specs.Generated.{generator_after, tick_after}
use Rattle.t1s_generator.proofs.progress.Progress.start.Goals as goal

pub returns-clause-valid : goal.returns-clause-valid
unfolding generator_after tick_after
returns-clause-valid c = record {
  seed_high = c.requires.seed;
  nodes_low = c.requires.some;
  nodes_high = c.requires.nodes;
  frames_high = c.requires.frames;
  heads_high = omega arith;
  placed_high = omega arith;
  filled_high = omega arith;
  in_order = λ some. refl;
  words = c.new.ensures;
  tick = refl;
}
