use Rattle.std.proofs.Common.{◌≡◌, rules}
use Rattle.pool_versions.specs.Pool.{ranked}
use Rattle.pool_versions.proofs.Ascending.{ranked_are_members, ranked_ascend, ranked_permute, backends_ascend}
use Rattle.pool_versions.proofs.service.Service.ranked.Goals as goal

pub returns-clause-ascending : goal.returns-clause-ascending
returns-clause-ascending c =
    let e : c.in_ok-members.members.items ≡ ranked c.args.self.now.members.items = search rules in
    rw e (backends_ascend (ranked c.args.self.now.members.items) (ranked_ascend c.args.self.now.members.items))

pub returns-clause-permutation : goal.returns-clause-permutation
returns-clause-permutation c =
    let e : c.in_ok-members.members.items ≡ ranked c.args.self.now.members.items = search rules in
    rw e (ranked_permute c.args.self.now.members.items)

pub returns-clause-short : goal.returns-clause-short
returns-clause-short c =
    let e : c.in_ok-members.members.items ≡ ranked c.args.self.now.members.items = search rules in
    rw e (ranked_are_members c.args.self.now.members.items)
