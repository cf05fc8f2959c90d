use Rattle.std.specs.Prelude.{◌/◌, ◌%◌, ◌^◌, bit_xor}
use Rattle.std.proofs.Common.{ap, ◌∙◌}
use lib.Bits.{and_mask}
use Rattle.connection_table.specs.Tied.{flow_hash}
use Rattle.connection_table.proofs.key.TableKey.hash_of.Goals as goal

pub returns : goal.returns
unfolding flow_hash
returns c = and_mask _ 32 ∙ ap (λ n. bit_xor n (n / 2 ^ 32) % 2 ^ 32) c.hash_one-hash.ensures
