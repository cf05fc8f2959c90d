use Rattle.std.proofs.Common.{◌≡◌, ap, ◌∙◌}
use Rattle.thread_records.specs.Journals.{JournalView}
use Rattle.thread_records.specs.Ends.{all_handled, with_life_ended}
use Rattle.thread_records.proofs.Ends.{restarted_is, restarted_drives, restarted_lost, restarted_losses, life_commands, all_serves_served}
use Rattle.thread_records.proofs.journal.Journal.end_life.Goals as goal

pub returns-in-Ok : goal.returns-in-Ok
returns-in-Ok g c =
    let was = c.in_ok-left.ensures in
    let is : c.write_restart.new.self ≡ with_life_ended (all_handled c.args.workers.items) c.args.self.now = restarted_is c.in_ok-left.left (all_handled c.args.workers.items) c.args.self.now c.close_life.new.self c.write_restart.new.self was.left was.after c.in-Ok.ensures in
    let served = all_serves_served 0 (all_handled c.args.workers.items) c.args.self.now in
    record {
      judged = was.judged;
      unchanged = tt;
      after = is;
      drives = λ rules packets d all. restarted_drives rules packets c.args.self.now c.close_life.new.self c.write_restart.new.self c.args.drained (all_handled c.args.workers.items) is was.after was.few d was.judged (was.fit rules all);
      command = life_commands (all_handled c.args.workers.items) c.args.self.now c.write_restart.new.self is;
      kept = (ap (λ (j : JournalView). j.node) is ∙ served.node, ap (λ (j : JournalView). j.ring) is ∙ served.ring);
      newest = ap (λ (j : JournalView). j.newest) is ∙ served.newest;
      left = was.left;
      lost = (restarted_losses c.in_ok-left.left (all_handled c.args.workers.items) c.args.self.now c.close_life.new.self c.write_restart.new.self was.after c.in-Ok.ensures, restarted_lost c.in_ok-left.left c.args.drained (all_handled c.args.workers.items) c.args.self.now was.judged was.left);
    }
