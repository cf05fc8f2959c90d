use Rattle.std.proofs.Common.{◌≡◌, ◌++◌, drop, string_bytes}
use Rattle.std.specs.List.{flat_map, count_by}
use Rattle.connection_changes.specs.Changes.{same_cause}
use Rattle.connection_changes.specs.Texts.{cause_line, causes}
use Rattle.connection_changes.proofs.summary.push_causes.Given as goal

abbrev pub invariant-loop-cause : goal.invariant-loop-cause
invariant-loop-cause l =
    string_bytes l.text ++ flat_map (λ cause. cause_line cause (count_by (λ c. same_cause cause c) l.made)) (drop l.cause-index causes) ≡ string_bytes l.initial.text ++ flat_map (λ cause. cause_line cause (count_by (λ c. same_cause cause c) l.made)) causes
