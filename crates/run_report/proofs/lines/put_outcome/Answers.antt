use Rattle.std.proofs.Common.{codes, refl}
use Rattle.std.specs.Fmt.{decimal}
use Rattle.std.proofs.lemmas.Str.{IsAscii-append}
use Rattle.maglev_texts.specs.Printing.{backend_text}
use Rattle.run_report.proofs.Ascii.{ascii_from_test}
use Rattle.run_report.proofs.lines.put_outcome.Goals as goal

pub returns-in-Forward-clause-ascii : goal.returns-in-Forward-clause-ascii
returns-in-Forward-clause-ascii c =
    let tail = IsAscii-append (codes " from ") (decimal c.in-Forward.origin) (ascii_from_test (codes " from ") refl) c.put_u32-at.ensures.ascii in
    let rest = IsAscii-append (backend_text c.in-Forward.backend) _ c.put_backend-at.ensures.ascii tail in
    rw c.in-Forward.is (IsAscii-append (codes "forward ") _ (ascii_from_test (codes "forward ") refl) rest)
