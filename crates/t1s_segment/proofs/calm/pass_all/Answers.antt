use Rattle.std.proofs.Common.{◌≡◌, ◌<◌, ◌∙◌, ap, arith, false, length, replicate, subst, sym, ℕ}
use Rattle.std.specs.Prelude.{Bool}
use Rattle.std.proofs.lemmas.List.{append-nil, drop_all, take_all}
use Rattle.std.proofs.lemmas.List.Edits.{map_over_more}
use Rattle.t1s_symbols.specs.declared.Heard.{Heard}
use Rattle.t1s_symbols.specs.declared.Heard.TheVariants.{Nothing}
use Rattle.t1s_segment.proofs.NodeStretches.{CalmAlone, filled_more, map_next}
use Rattle.t1s_segment.proofs.calm.pass_all.Goals as goal

pub pass-requires : goal.pass-requires
pass-requires g c =
    let m = g.N.NodeMachine in
    let xs = c.args.nodes.now in
    let x = c.index-nodes-j.result in
    let j = c.loop-j.j in
    let lt = c.loop-j-test.true in
    let is = c.index-nodes-j.is in
    let same = map_next (m.passed c.args.tick c.args.n) xs c.loop-j.nodes j x lt c.loop-j.invariant.nodes is in
    subst (λ y. CalmAlone m.phases m.calm c.args.tick y c.args.n) (sym same ∙ is) (c.requires.calm j x lt)

pub loop-j-preserved : goal.loop-j-preserved
loop-j-preserved g c =
    let m = g.N.NodeMachine in
    let x = c.index-nodes-j.result in
    let j = c.loop-j.j in
    let before = c.loop-j.invariant in
    let is = c.index-nodes-j.is in
    let silence : Heard × Bool = (Nothing, false) in
    let there : j < length c.args.last.now = omega (arith, c.requires.sizes) in
    record {
      nodes = rw (c.pass.ensures, ← is) (map_over_more (m.passed c.args.tick c.args.n) c.args.nodes.now c.loop-j.nodes j x c.loop-j-test.true before.nodes is);
      last = filled_more c.args.last.now c.loop-j.last j silence there before.last;
    }

pub returns : goal.returns
returns g c =
    let j = c.loop-j.j in
    let before = c.loop-j.invariant in
    let all = c.loop-j-test.false in
    let silence : Heard × Bool = (Nothing, false) in
    let size : j ≡ length c.args.last.now = omega (arith, c.requires.sizes) in
    record {
      nodes = rw (take_all j c.args.nodes.now all, drop_all j c.args.nodes.now all, append-nil) at before.nodes;
      last = rw (drop_all j c.args.last.now (omega (arith, size)), append-nil) at before.last ∙ ap (λ (k : ℕ). replicate k silence) size;
    }
