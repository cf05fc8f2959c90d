use Rattle.std.proofs.Common.{rules}
use Rattle.cluster_core.proofs.reading.of_view.Goals as goal

pub returns-in-Err : goal.returns-in-Err
returns-in-Err c = search rules

pub returns-then-datagram-gt-LONGEST : goal.returns-then-datagram-gt-LONGEST
returns-then-datagram-gt-LONGEST c = search rules

pub returns-else-datagram-gt-LONGEST : goal.returns-else-datagram-gt-LONGEST
returns-else-datagram-gt-LONGEST c = search rules
