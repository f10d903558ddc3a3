use Rattle.std.proofs.Common.{◌<◌, arith, length, rules, set}
use Rattle.t1s_harness.specs.Distances.{span}
use Rattle.t1s_cable.specs.Rings.{put_at}
use Rattle.t1s_cable.proofs.Histories.{quarters-put}
use Rattle.t1s_cable.proofs.Silence.{quiet-busy, quiet_nodes-put}
use Rattle.t1s_cable.proofs.cable.Cable.put.Goals as goal

pub invariant_of-self : goal.invariant_of-self
invariant_of-self c =
    let old = c.self.inside in
    let node = rw (← c.self.view_is) at c.requires.node in
    let there : c.from-node.result < length old.carried.items = omega (arith, node, c.from-node.ensures, c.self.invariant.carried_len) in
    record {
      row_len = search rules;
      rings_len = c.self.invariant.rings_len;
      carried_len = search rules;
      reach = c.self.invariant.reach;
      short = c.self.invariant.short;
      clock = c.self.invariant.clock;
      quarters = quarters-put old.row.items c.from-node.result c.args.q c.requires.quarter c.self.invariant.quarters;
      rings = c.self.invariant.rings;
      quiet_nodes = rw c.self.invariant.reach
          (quiet_nodes-put (span old.taps.items) old.clock old.row.items old.rings.items c.from-node.result old.carried.items c.args.q there c.self.invariant.quiet_nodes);
      quiet = rw c.self.invariant.reach
          (quiet-busy (span old.taps.items) (put_at (set old.row.items c.from-node.result c.args.q) old.rings.items old.clock));
    }
