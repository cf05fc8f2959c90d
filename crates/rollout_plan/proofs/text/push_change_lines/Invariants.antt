use Rattle.std.proofs.Common.{◌≡◌, ◌++◌, take, string_bytes}
use Rattle.std.specs.List.{flat_map}
use Rattle.rollout_plan.specs.Forms.{change_line_as}
use Rattle.rollout_plan.proofs.text.push_change_lines.Given as goal

abbrev pub invariant-loop-member : goal.invariant-loop-member
invariant-loop-member l = string_bytes l.text ≡ string_bytes l.initial.text ++ flat_map (change_line_as l.block.form l.block.key l.before l.after l.draining) (take l.member-index l.members)
