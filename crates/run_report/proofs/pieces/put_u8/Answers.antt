use Rattle.std.proofs.Common.{arith}
use Rattle.std.proofs.lemmas.Fmt.{length-decimal-le, IsAscii-decimal}
use Rattle.run_report.proofs.pieces.put_u8.Goals as goal

pub put_decimal-requires-clause-room : goal.put_decimal-requires-clause-room
put_decimal-requires-clause-room c = omega (arith, length-decimal-le 3 c.args.number (omega arith) (omega arith) (omega arith))

pub returns-clause-low : goal.returns-clause-low
returns-clause-low c = omega (arith, length-decimal-le 3 c.args.number (omega arith) (omega arith) (omega arith))

pub returns-clause-ascii : goal.returns-clause-ascii
returns-clause-ascii c = IsAscii-decimal c.args.number (omega arith)
