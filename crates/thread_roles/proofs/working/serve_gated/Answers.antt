use Rattle.std.proofs.Common.{◌∙◌}
use Rattle.handled_list.specs.declared.handled.Handled.{Handled}
use Rattle.thread_roles.proofs.Counting.{counts_choice}
use Rattle.thread_roles.proofs.working.serve_gated.Goals as goal

pub returns-in-Ok-clause-work : goal.returns-in-Ok-clause-work
returns-in-Ok-clause-work g c = λ had.
    let told = c.in-Ok.ensures.served in
    let h : Handled = record { item = c.args.item.now; version = told.0; choice = c.in-Ok.served.choice; unstored = c.in-Ok.served.unstored } in
    record {
      part = c.serve_one-stats.ensures.parts ∙ had.part;
      counts = counts_choice c.args.run.now.tally.lost c.serve_one-stats.new.self.lost c.args.run.now.tally.shares c.serve_one-stats.new.self.shares c.args.run.now.record.handled c.serve_one.new.worker.handled h c.serve_one-stats.ensures.lost told.1 had.counts;
    }
