use Rattle.std.proofs.Common.{[], false, sym, subst, ap, arith}
use Rattle.cluster_node.specs.Rules.{Rules}
use Rattle.cluster_core.specs.Setups.{rules_for}
use Rattle.thread_records.specs.Histories.{commands_of}
use Rattle.thread_records.specs.Journals.{JournalView}
use Rattle.thread_records.specs.Losses.{losses, KeepDrained}
use Rattle.thread_records.specs.Paced.{AreUnmarked}
use Rattle.thread_records.proofs.Paced.{unmarked_none}
use Rattle.thread_roles.specs.Counts.{Counts}
use Rattle.node_threads.proofs.node.first_life.Goals as goal

pub new-requires-2 : goal.new-requires-2
new-requires-2 g c =
    let rules : Rules = rules_for (λ s z. g.S.Scheme.pick s z) (λ h. g.H.FlowHash.plain h) c.args.plan.assignment.setup.now c.args.plan.assignment.catalogue.now in
    let fresh = c.in_ok-new.ensures.fresh in
    record {
      begins = record {
        within = omega arith;
        going = record {
          drives = c.in_ok-new.ensures.drives rules c.args.plan.assignment.packets.now c.requires.there c.workers.ensures.workers;
          obeyed = ap (λ (j : JournalView). commands_of j.events) fresh;
          kept = subst (λ (j : JournalView). KeepDrained [] (losses j.outcomes)) (sym fresh) tt;
          own = ap (λ (j : JournalView). j.node) fresh;
          ring = ap (λ (j : JournalView). j.ring) fresh;
        };
        some = omega (arith, c.requires.parts);
        counts = λ read. subst (λ (j : JournalView). Counts false c.args.shares j.outcomes) (sym fresh) (λ e. c.requires.fresh);
        unmarked = λ paced. subst (λ (j : JournalView). AreUnmarked j.events) (sym fresh) unmarked_none;
      };
    }
