use Rattle.std.proofs.Common.{rules}
use Rattle.cluster_node.proofs.steps.sent.Goals as goal

pub returns-in-Forward : goal.returns-in-Forward
returns-in-Forward c = search rules

pub returns-in-NoService : goal.returns-in-NoService
returns-in-NoService c = search rules

pub returns-in-NoBackend : goal.returns-in-NoBackend
returns-in-NoBackend c = search rules
