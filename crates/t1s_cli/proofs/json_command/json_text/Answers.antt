use Rattle.std.proofs.Common.{◌≡◌, ℕ, false, List, [], ◌∷◌, ◌++◌, ap, ◌∙◌}
use Rattle.serde_json.specs.View.{view}
use Rattle.serde_json.specs.Written.{has_float, compact_text}
use Rattle.t1s_report.specs.JsonSummary.{summary_value, json_object}
use Rattle.t1s_report.proofs.JsonTexts.{no_float}
use Rattle.t1s_cli.proofs.json_command.json_text.Goals as goal

pub returns : goal.returns
returns c =
    let s = c.args.script.now in
    let ended = c.play_unread.ensures s c.in_ok-seg.ensures in
    let value : view c.in_ok-json_of.field-0 ≡ summary_value s s.end = c.in_ok-json_of.ensures s s.end ended in
    let whole : has_float (view c.in_ok-json_of.field-0) ≡ false = ap has_float value ∙ no_float s s.end in
    let text : c.in_ok-text.text.items ≡ json_object s s.end = c.in_ok-text.ensures.text whole ∙ ap compact_text value in
    c.in_ok-push.ensures.items ∙ ap (λ (octets : List ℕ). octets ++ 10 ∷ []) text
