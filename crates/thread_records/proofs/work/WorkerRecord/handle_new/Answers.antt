use Rattle.std.proofs.Common.{◌≡◌, ◌++◌, ◌∷◌, [], List, refl, sym, ap, subst, ◌∙◌, inr, rules}
use Rattle.std.specs.Arc.{arc_value}
use Rattle.thread_records.specs.declared.step.Step.{Step}
use Rattle.thread_records.specs.Steps.{MatchStep}
use Rattle.thread_records.specs.Sources.{MadeOf, IsMadeOf}
use Rattle.thread_records.specs.Works.{WorkView, working_view, Worked}
use Rattle.thread_records.proofs.Kept.{keeps_same, last_in}
use Rattle.thread_records.proofs.work.WorkerRecord.handle_new.Goals as goal

pub invariant_of-self : goal.invariant_of-self
invariant_of-self g c = keeps_same arc_value (λ s z. g.S.Scheme.pick s z) c.self.inside.sources.items c.reserve.new.self.items c.self.inside.worker c.self.inside.worker c.self.inside.handled.items c.self.inside.handled.items (record { capacity = c.self.inside.capacity; idle = c.self.inside.idle }) c.self.inside.current c.reserve.ensures.items refl refl c.self.invariant

pub invariant_of-self-in-Ok-Done : goal.invariant_of-self-in-Ok-Done
invariant_of-self-in-Ok-Done g c =
    let m : MadeOf g.row.S.Denot = c.in_ok-source.source in
    let items : c.push_reserved.new.self.items ≡ c.self.inside.sources.items ++ m ∷ [] = search rules in
    let is : IsMadeOf (arc_value c.args.version.now) m = sym c.deref.ensures ∙ c.in_ok-source.ensures in
    let worked : Worked (λ s z. g.S.Scheme.pick s z) (working_view (c.self.inside.sources.items ++ m ∷ []) c.handle_under.new.worker c.handle_under.new.handled.items)
    = subst (λ (st : Step). MatchStep st (λ _. Worked (λ s z. g.S.Scheme.pick s z) (working_view (c.self.inside.sources.items ++ m ∷ []) c.handle_under.new.worker c.handle_under.new.handled.items)) (Unit {0})) c.in-Ok-Done.field-0-is
    (c.in-Ok-Done.ensures.more c.self.inside.sources.items m (c.deref-2.ensures ∙ is) c.self.invariant.0) in (
      subst (λ (ms : List (MadeOf g.row.S.Denot)). Worked (λ s z. g.S.Scheme.pick s z) (working_view ms c.handle_under.new.worker c.handle_under.new.handled.items)) (sym items) worked,
      c.handle_under.ensures.limits ∙ c.self.invariant.1,
      (m, last_in c.self.inside.sources.items c.push_reserved.new.self.items m items, c.in_ok-kept.ensures ∙ is),
    )

pub returns-in-Ok-Done-clause-made : goal.returns-in-Ok-Done-clause-made
returns-in-Ok-Done-clause-made g c =
    let m : MadeOf g.row.S.Denot = c.in_ok-source.source in
    let items : c.push_reserved.new.self.items ≡ c.self.inside.sources.items ++ m ∷ [] = search rules in
    inr (m, items ∙ ap (λ (w : WorkView g.row.S.Denot). w.made ++ m ∷ []) c.self.view_is, sym c.deref.ensures ∙ c.in_ok-source.ensures)

pub invariant_of-self-in-Err-1 : goal.invariant_of-self-in-Err-1
invariant_of-self-in-Err-1 g c = let same = c.in-Err.ensures.err in keeps_same arc_value (λ s z. g.S.Scheme.pick s z) c.self.inside.sources.items c.reserve.new.self.items c.self.inside.worker c.handle_under.new.worker c.self.inside.handled.items c.handle_under.new.handled.items (record { capacity = c.self.inside.capacity; idle = c.self.inside.idle }) c.self.inside.current c.reserve.ensures.items same.0 same.1 c.self.invariant

pub invariant_of-self-in-Behind-1 : goal.invariant_of-self-in-Behind-1
invariant_of-self-in-Behind-1 g c =
    let same = subst (λ (st : Step). MatchStep st (λ s. c.handle_under.new.handled.items ≡ c.self.inside.handled.items ++ record { item = c.args.item.now; version = c.deref-2.result.now.number; choice = s.choice; unstored = s.unstored } ∷ []) ((c.handle_under.new.worker ≡ c.self.inside.worker) × (c.handle_under.new.handled.items ≡ c.self.inside.handled.items))) c.in-Ok-Behind.field-0-is c.in-Ok-Behind.ensures.done in
    keeps_same arc_value (λ s z. g.S.Scheme.pick s z) c.self.inside.sources.items c.reserve.new.self.items c.self.inside.worker c.handle_under.new.worker c.self.inside.handled.items c.handle_under.new.handled.items (record { capacity = c.self.inside.capacity; idle = c.self.inside.idle }) c.self.inside.current c.reserve.ensures.items same.0 same.1 c.self.invariant
