use Rattle.std.proofs.Common.{◌<◌, ◌^◌, List, length, sym, ap, ◌∙◌, subst, arith}
use Rattle.cluster_node.specs.declared.events.LogEntry.{LogEntry}
use Rattle.cluster_node.specs.declared.outcomes.Outcome.{Outcome}
use Rattle.cluster_core.specs.Cluster.{Cluster}
use Rattle.event_trace.specs.Trace.{Trace}
use Rattle.event_trace.specs.Steps.{noted}
use Rattle.event_trace.proofs.Behind.{behind_one}
use Rattle.event_trace.proofs.play.Play.say.Goals as goal

pub returns-clause-stands : goal.returns-clause-stands
returns-clause-stands g c =
    let few : length c.args.self.now.trace.past < 2 ^ 64 = omega (arith, c.said_count-count.ensures) in
    let goes = c.in_ok-outcome.ensures c.args.self.now.trace.past few c.requires.stands in
    subst (λ (l : List LogEntry). g.C.Core.stands c.args.setup.now l c.step.new.self)
    (sym (ap (λ (d : Trace). d.past) c.in_ok-note.ensures.after ∙ ap (λ (o : Outcome). (noted (record { event = c.args.event; packet = c.args.packet; outcome = o }) c.args.self.now.trace).past) goes.0))
    goes.1

pub returns-clause-after : goal.returns-clause-after
returns-clause-after g c = λ w j.
    let few : length c.args.self.now.trace.past < 2 ^ 64 = omega (arith, c.said_count-count.ensures) in
    let goes = c.in_ok-outcome.ensures c.args.self.now.trace.past few c.requires.stands in
    c.in_ok-note.ensures.after ∙ ap (λ (o : Outcome). noted (record { event = c.args.event; packet = c.args.packet; outcome = o }) c.args.self.now.trace) (goes.0 ∙ ap (λ (k : Cluster). k.judge c.args.self.now.trace.past c.args.event c.args.packet) (sym j))

pub returns-clause-told : goal.returns-clause-told
returns-clause-told g c = behind_one c.args.self.now.trace.past c.note.new.self.trace.past _ (ap (λ (d : Trace). d.past) c.in_ok-note.ensures.after)
