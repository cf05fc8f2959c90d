use Rattle.std.proofs.Common.{arith}
use Rattle.summary_book.proofs.Noted.{life_put}
use Rattle.summary_book.proofs.book.SummaryBook.begin.Goals as goal

pub returns-clause-lives : goal.returns-clause-lives
returns-clause-lives c = λ n.
    life_put c.args.node c.in-Some.life c.args.self.now.lives c.insert.new.self c.in-Ok.ensures.updates.0 (omega (arith, c.in-Some.ensures, c.life.ensures)) n
