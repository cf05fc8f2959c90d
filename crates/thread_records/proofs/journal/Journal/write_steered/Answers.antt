use Rattle.std.proofs.Common.{◌≡◌, List, map, sym, ap, ◌∙◌, subst}
use Rattle.std.specs.Prelude.{OnOk}
use Rattle.steering.specs.declared.Placed.{Placed as Placing}
use Rattle.cluster_node.specs.declared.serving.Item.{Item}
use Rattle.cluster_node.specs.declared.events.Event.TheVariants.{Arrive}
use Rattle.cluster_node.specs.declared.outcomes.Outcome.TheVariants.{Placed}
use Rattle.thread_records.specs.Journals.{JournalView, Attempt, IsAttempt, with_event, with_placing}
use Rattle.thread_records.proofs.Writing.{on_ok, due_by}
use Rattle.thread_records.proofs.journal.Journal.write_steered.Goals as goal

pub returns-in-RingsFull-clause-after : goal.returns-in-RingsFull-clause-after
returns-in-RingsFull-clause-after g c =
    let j : JournalView = record { node = c.self.inside.node; ring = c.self.inside.ring; newest = c.self.inside.newest; installed = c.self.inside.installed.items; steering = c.self.inside.steerer; placed = map (λ v. v.items) c.self.inside.placed.items; events = c.self.inside.events.items; outcomes = c.self.inside.outcomes.items; early = c.self.inside.early } in
    let a : Attempt = record { marks = c.steer-tried.result.refused; placing = c.steer-tried.result.placed; steering = c.steer-tried.new.steerer; early = c.steer-tried.result.early } in
    let is : IsAttempt (g.H.FlowHash.plain c.args.hash.now) c.args.flow j a = record {
      placing = c.steer-tried.ensures.placed;
      cursor = c.steer-tried.ensures.cursor;
      workers = c.steer-tried.ensures.workers;
      due = due_by c.steer-tried.result.early j.early c.steer-tried.result.refused j.ring (ap (λ l. map (λ v. v.items) l) c.as_slice.ensures.value) c.steer-tried.ensures.due;
    } in
    subst (λ (z : JournalView). OnOk c.write.result ((x : Attempt) × IsAttempt (g.H.FlowHash.plain c.args.hash.now) c.args.flow z x × (c.write.new.self ≡ with_placing c.args.packet c.args.flow c.args.at x x.placing z))) c.self.view_is
    (on_ok c.write.result (λ e. (a, is, e ∙ ap (λ (o : Placing). with_placing c.args.packet c.args.flow c.args.at a o j) (sym c.in-RingsFull.is))) c.write.ensures.after)

pub returns-in_ok-put-in-Worker-clause-after : goal.returns-in_ok-put-in-Worker-clause-after
returns-in_ok-put-in-Worker-clause-after g c =
    let j : JournalView = record { node = c.self.inside.node; ring = c.self.inside.ring; newest = c.self.inside.newest; installed = c.self.inside.installed.items; steering = c.self.inside.steerer; placed = map (λ v. v.items) c.self.inside.placed.items; events = c.self.inside.events.items; outcomes = c.self.inside.outcomes.items; early = c.self.inside.early } in
    let a : Attempt = record { marks = c.steer-tried.result.refused; placing = c.steer-tried.result.placed; steering = c.steer-tried.new.steerer; early = c.steer-tried.result.early } in
    let is : IsAttempt (g.H.FlowHash.plain c.args.hash.now) c.args.flow j a = record {
      placing = c.steer-tried.ensures.placed;
      cursor = c.steer-tried.ensures.cursor;
      workers = c.steer-tried.ensures.workers;
      due = due_by c.steer-tried.result.early j.early c.steer-tried.result.refused j.ring (ap (λ l. map (λ v. v.items) l) c.as_slice.ensures.value) c.steer-tried.ensures.due;
    } in
    subst (λ (z : JournalView). OnOk c.write-in-Worker.result ((x : Attempt) × IsAttempt (g.H.FlowHash.plain c.args.hash.now) c.args.flow z x × (c.write-in-Worker.new.self ≡ with_placing c.args.packet c.args.flow c.args.at x x.placing z))) c.self.view_is
    (on_ok c.write-in-Worker.result (λ e. (
      a,
      is,
      e ∙ ap (λ (iss : List (List Item)). with_event (record j { steering = a.steering; early = a.early; placed = iss }) (Arrive j.node c.args.packet a.marks) (Placed c.in-Worker.worker j.newest)) c.in_ok-put-in-Worker.ensures.after
          ∙ ap (λ (o : Placing). with_placing c.args.packet c.args.flow c.args.at a o j) (sym c.in-Worker.is),
    )) c.write-in-Worker.ensures.after)
