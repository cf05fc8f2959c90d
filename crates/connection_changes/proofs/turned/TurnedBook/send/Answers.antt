use Rattle.std.proofs.Common.{ap, sym, ◌∙◌}
use Rattle.connection_starts.specs.Captures.{answered}
use Rattle.connection_changes.proofs.Reckoned.{differs}
use Rattle.connection_changes.proofs.turned.TurnedBook.send.Goals as goal

pub returns-in-Some-clause-turned : goal.returns-in-Some-clause-turned
returns-in-Some-clause-turned c = λ ns h.
    let self = c.args.self.now in
    differs (λ k. answered self.ordinals k) ns c.args.later.now c.change.result self (record self { last = c.insert.new.self }) c.change.new.self c.connection_of-connection.result c.in-Some.first c.in-Ok.first h
    c.connection_of-connection.ensures c.in-Ok.ensures.updates.0 c.in-Ok.ensures.old c.in-Ok.ensures.len c.in-Some.is (sym c.ne.ensures ∙ c.if-ne.true) (ap (λ b. b.last) c.change.ensures.rest)
    c.change.ensures.each c.change.ensures.changed c.change.ensures.splits c.change.ensures.changes
