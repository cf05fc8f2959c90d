use Rattle.std.proofs.Common.{refl}
use Rattle.connection_table.specs.Hashing.{finished}
use Rattle.connection_table.proofs.hasher.KeyedHasherHasher.finish.Goals as goal

pub returns : goal.returns
unfolding finished
returns c = refl
