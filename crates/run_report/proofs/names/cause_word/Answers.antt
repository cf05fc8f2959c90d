use Rattle.std.proofs.Common.{codes, refl}
use Rattle.run_report.proofs.Ascii.{ascii_from_test}
use Rattle.run_report.proofs.names.cause_word.Goals as goal

pub returns-in-BadChecksum-clause-ascii : goal.returns-in-BadChecksum-clause-ascii
returns-in-BadChecksum-clause-ascii c = rw c.in-BadChecksum.is (ascii_from_test (codes "BadChecksum") refl)
