use Rattle.std.proofs.Common.{◌≡◌, ◌+◌, length, ap, ◌∙◌, arith, rules}
use Rattle.std.specs.Prelude.{sum}
use Rattle.stats_book.proofs.Sums.{sum_sums}
use Rattle.stats_book.proofs.stats.Stats.add.Goals as goal

pub invariant_of-self : goal.invariant_of-self
invariant_of-self c =
    let even : length c.args.self.now.dropped ≡ length c.args.others.now.dropped = search rules in
    let drops : sum c.both_drops.result ≡ sum c.args.self.now.dropped + sum c.args.others.now.dropped = ap (λ l. sum l) c.both_drops.ensures ∙ sum_sums c.args.self.now.dropped c.args.others.now.dropped even in
    record { adds_up = omega (arith, drops, c.in-Some.ensures, c.args.self.now.adds_up, c.args.others.now.adds_up) }
