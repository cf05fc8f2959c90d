use Rattle.cluster_core.proofs.Promised.{histories_keep, maglev_keeps, lists_keep}
use Rattle.cluster_core.proofs.laws.promises_are_kept.Goals as goal

pub returns-clause-histories : goal.returns-clause-histories
returns-clause-histories c = λ rules history j. histories_keep rules history j

pub returns-clause-maglev : goal.returns-clause-maglev
returns-clause-maglev c = λ plain size pools rules history m j. maglev_keeps plain size pools rules history m j

pub returns-clause-lists : goal.returns-clause-lists
returns-clause-lists c = λ rules packets events. lists_keep rules packets events
