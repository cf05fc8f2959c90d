use Rattle.scenario_pools.proofs.Written.{whole_versions_are_stated, differences_are_written_out}
use Rattle.scenario_pools.proofs.laws.differences_are_written_out.Goals as goal

pub returns-clause-whole : goal.returns-clause-whole
returns-clause-whole c = λ vs. whole_versions_are_stated vs

pub returns-clause-written_out : goal.returns-clause-written_out
returns-clause-written_out c = λ ds vs h. differences_are_written_out ds vs h
