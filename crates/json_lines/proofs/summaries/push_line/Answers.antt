use Rattle.json_lines.proofs.Pieces.{three_told}
use Rattle.json_lines.proofs.summaries.push_line.Goals as goal

pub returns : goal.returns
returns c = three_told c.push_end.result _ _ _ _ _ _ _ c.in_ok-push_str.ensures.bytes c.in_ok-push_changes.ensures c.push_end.ensures
