use Rattle.std.proofs.Common.{rules}
use Rattle.std.proofs.lemmas.List.Sorted.{IsPartitionPoint-from_clause}
use Rattle.pool_versions.specs.Pool.{is_below}
use Rattle.selection.proofs.Halves.{parted}
use Rattle.selection.proofs.by_name.first_of_name.Goals as goal

pub returns-clause-parted : goal.returns-clause-parted
returns-clause-parted c =
    let b = c.args.backend.now in
    let bs = c.args.ups.now in
    IsPartitionPoint-from_clause (λ other. is_below other.name b.name) bs c.partition_point.result c.partition_point.ensures.partitioned (parted b bs c.requires) (λ a r q k. search rules)
