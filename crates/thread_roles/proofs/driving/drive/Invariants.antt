use Rattle.std.proofs.Common.{◌≡◌, take, true}
use Rattle.std.specs.Arc.{arc_value}
use Rattle.cluster_core.specs.Setups.{rules_for}
use Rattle.thread_records.specs.Paced.{AreUnmarked}
use Rattle.thread_roles.specs.Counts.{AreRead, Counts}
use Rattle.thread_roles.specs.Going.{Going}
use Rattle.thread_roles.specs.Shown.{number_of, last_published}
use Rattle.thread_roles.proofs.driving.drive.Given as goal

abbrev pub invariant-loop-at : goal.invariant-loop-at
invariant-loop-at g l = record {
  going : Going (rules_for (λ s z. g.S.Scheme.pick s z) (λ h. g.H.FlowHash.plain h) l.plan.assignment.setup.now l.plan.assignment.catalogue.now) l.plan.assignment.packets.now (take l.at l.plan.assignment.commands.now) l.plan.assignment.node l.plan.assignment.ring l.journal;
  parts : l.tally.shares.parts ≡ l.fn.progress.tally.shares.parts;
  counts : AreRead l.plan.assignment.packets.now → Counts l.tally.lost l.tally.shares l.journal.outcomes;
  unmarked : l.plan.assignment.paced ≡ true → AreUnmarked l.fn.progress.journal.events → AreUnmarked l.journal.events;
  prepared : number_of arc_value l.newest ≡ l.journal.newest;
  published : last_published l.initial.desk.seat ≡ l.fn.progress.journal.newest → last_published l.desk.seat ≡ l.journal.newest;
}
