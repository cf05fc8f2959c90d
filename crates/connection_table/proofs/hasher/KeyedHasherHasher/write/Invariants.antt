use Rattle.std.proofs.Common.{◌≡◌}
use Rattle.connection_table.specs.Hashing.{mixed_pieces}
use Rattle.connection_table.proofs.hasher.KeyedHasherHasher.write.Given as goal

abbrev pub invariant-loop-number : goal.invariant-loop-number
invariant-loop-number l = l.self ≡ mixed_pieces l.initial.self l.bytes l.number
