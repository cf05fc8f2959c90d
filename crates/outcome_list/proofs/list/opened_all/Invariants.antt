use Rattle.std.proofs.Common.{◌≡◌, map, take}
use Rattle.outcome_list.specs.Meant.{opened}
use Rattle.outcome_list.proofs.list.opened_all.Given as goal

abbrev pub invariant-loop-entry : goal.invariant-loop-entry
invariant-loop-entry l = l.list.items ≡ map (opened l.backends l.sends l.lost) (take l.entry-index l.kept)
