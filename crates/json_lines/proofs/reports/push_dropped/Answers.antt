use Rattle.std.proofs.Common.{string_bytes, codes}
use Rattle.json_lines.specs.Reports.{dropped_member, drop_members}
use Rattle.json_lines.proofs.Pieces.{three_told, last_pushed}
use Rattle.json_lines.proofs.reports.push_dropped.Goals as goal

pub returns : goal.returns
unfolding dropped_member
returns c =
    three_told c.push_str-2.result (codes ",\"dropped\":{") (drop_members c.args.counts.now) (codes "},") (string_bytes c.args.text.now) (string_bytes c.push_str.new.self) (string_bytes c.push_drops.new.text)
    (string_bytes c.push_str-2.new.self) c.in_ok-push_str.ensures.bytes c.in_ok-push_drops.ensures
    (last_pushed c.push_str-2.result (codes "},") (string_bytes c.push_drops.new.text) (string_bytes c.push_str-2.new.self) c.push_str-2.ensures.bytes)
