use Rattle.scenario_pools.proofs.Refused.{bad_words_are_bad_members}
use Rattle.scenario_pools.proofs.bad_words.bad_words_are_bad_members.Goals as goal

pub returns : goal.returns
returns c = λ ds. bad_words_are_bad_members ds
