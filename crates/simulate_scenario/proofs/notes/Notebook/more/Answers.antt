use Rattle.std.specs.Prelude.{option_copied}
use Rattle.event_trace.specs.Noting.{said_by}
use Rattle.simulate_scenario.specs.Asked.{asked_shares}
use Rattle.simulate_scenario.proofs.Noted.{more_told}
use Rattle.simulate_scenario.proofs.notes.Notebook.more.Goals as goal

pub returns-clause-more : goal.returns-clause-more
returns-clause-more c = λ past k.
    let packet = option_copied c.args.packet in
    more_told c.share.result c.args.wanted past (said_by c.args.event.now (option_copied c.args.packet) c.args.outcome.now) c.args.self.now c.list_if.new.self c.book_if.new.self c.change_if.new.self c.share.new.self
    c.keeps_splits.result c.keeps_changes.result k c.keeps_splits.ensures c.keeps_changes.ensures (c.in_ok-list_if.ensures.lists past) c.in_ok-list_if.ensures.book c.in_ok-list_if.ensures.changes c.in_ok-list_if.ensures.shares
    (c.in_ok-book_if.ensures.books past packet) c.in_ok-book_if.ensures.number c.in_ok-book_if.ensures.lines c.in_ok-book_if.ensures.changes c.in_ok-book_if.ensures.shares (c.in_ok-change_if.ensures.changes past)
    c.in_ok-change_if.ensures.rest (c.share.ensures.shares (asked_shares c.args.wanted) past) c.share.ensures.rest
