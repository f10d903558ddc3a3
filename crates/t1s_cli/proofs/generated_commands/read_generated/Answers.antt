use Rattle.std.proofs.Common.{◌≡◌, ap, ◌∙◌}
use Rattle.std.specs.List.{concat}
use Rattle.t1s_cli.specs.Generated.{script_text}
use Rattle.t1s_cli.proofs.GeneratedCalls.{not_refused}
use Rattle.t1s_cli.proofs.generated_commands.read_generated.Goals as goal

pub unreachable-requires : goal.unreachable-requires
unreachable-requires c =
    let octets : c.as_slice.result.now ≡ script_text c.args.numbers = c.as_slice.ensures.value ∙ (c.in_ok-octets.ensures ∙ ap concat c.lines_of.ensures) in
    let refused = rw c.in-Err-Refused.field-0-is at c.in-Err-Refused.ensures.answer in
    not_refused c.args.numbers c.as_slice.result.now c.in-Err-Refused.field-0-0 c.requires octets refused
