-- What was seen of some sends. The newest is in front.
use Rattle.std.specs.Prelude.{◌≡◌, List, length, map}
use Rattle.summary_book.specs.declared.seen.SeenSends.{SeenSends}
use Rattle.summary_book.specs.declared.sent.Sent.{Sent}
use Rattle.summary_book.specs.Lasts.{AreLast}
use Rattle.summary_book.specs.Sents.{last_in, changes_in, count_in}

pub record AreSeen (ss : List Sent) (b : SeenSends) : Type 0 where
  pub last : AreLast (λ x. last_in ss x) b.last
  pub flows : length b.last.sends ≡ count_in ss
  pub splits : b.splits.items ≡ map (λ c. c.split) (changes_in ss)
  pub changes : b.changes.items ≡ changes_in ss
