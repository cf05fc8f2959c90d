use Rattle.std.proofs.Common.{subst}
use Rattle.maglev_table.proofs.Steps.{full_list}
use Rattle.maglev_table.specs.Turns.{Preference, preference_list, IsFullList}
use Rattle.maglev_table.proofs.permutation.Permutation.at.Goals as goal

pub returns-clause-each_slot_once : goal.returns-clause-each_slot_once
returns-clause-each_slot_once c =
    let P : Preference → Type 0 = λ p. IsFullList p.size (preference_list p) in
    subst P c.self.view_is (full_list _ c.self.invariant.3 c.self.invariant.1 c.self.invariant.2)
