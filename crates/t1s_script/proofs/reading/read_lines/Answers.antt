use Rattle.t1s_script.specs.Lines.{lines_of}
use Rattle.t1s_script.proofs.Drafts.{by_drafts}
use Rattle.t1s_script.proofs.reading.read_lines.Goals as goal

pub loop-line-init : goal.loop-line-init
loop-line-init c = rw (c.requires, c.start-draft.ensures) (by_drafts c.args.version (lines_of c.args.lines.rest.now))
