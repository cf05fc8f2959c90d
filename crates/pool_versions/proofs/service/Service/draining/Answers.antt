use Rattle.std.proofs.Common.{◌≡◌, rules}
use Rattle.pool_versions.specs.Pool.{draining_backends}
use Rattle.pool_versions.proofs.Ascending.{draining_ascend}
use Rattle.pool_versions.proofs.service.Service.draining.Goals as goal

pub returns-clause-ascending : goal.returns-clause-ascending
returns-clause-ascending c =
    let e : c.in_ok-backends.backends.items ≡ draining_backends c.args.self.now.members.items = search rules in
    rw e (draining_ascend c.args.self.now.members.items)
