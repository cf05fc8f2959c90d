use Rattle.std.proofs.Common.{Option, ap, ◌∙◌}
use Rattle.std.specs.Prelude.{option_copied, if◌then◌else◌}
use Rattle.event_trace.specs.Noting.{said_by}
use Rattle.connection_changes.specs.declared.sites.Served.{Served}
use Rattle.connection_changes.specs.declared.sites.Site.{Site}
use Rattle.connection_changes.specs.Sites.{is_sent, nowhere}
use Rattle.connection_changes.specs.Books.{site_served}
use Rattle.connection_changes.proofs.Clocked.{noted_by, sent_here}
use Rattle.connection_changes.proofs.clocks.Clocks.note.Goals as goal

pub returns-clause-clocks : goal.returns-clause-clocks
returns-clause-clocks c past was =
    noted_by (said_by c.args.event.now (option_copied c.args.packet) c.args.outcome.now) past c.args.self.now c.arrive.new.self c.begin.new.self c.serve.new.self c.arrived_by.result c.begun_by.result c.served_by.result was
    c.arrived_by.ensures c.begun_by.ensures c.served_by.ensures c.in_ok-arrive.ensures.times c.in_ok-arrive.ensures.rest c.in_ok-begin.ensures.lives c.in_ok-begin.ensures.clocks c.in_ok-begin.ensures.times c.in_ok-site.ensures.clocks c.in_ok-site.ensures.rest

pub returns-clause-site : goal.returns-clause-site
returns-clause-site c past was =
    let o = c.args.outcome.now in
    c.site_if_sent.ensures
    ∙ ap (λ (x : Site). if is_sent o then x else nowhere) (c.in_ok-site.ensures.site ∙ ap (λ (v : Option Served). site_served v c.serve.new.self) c.served_by.ensures)
    ∙ sent_here (said_by c.args.event.now (option_copied c.args.packet) o) past c.serve.new.self o (returns-clause-clocks c past was)
