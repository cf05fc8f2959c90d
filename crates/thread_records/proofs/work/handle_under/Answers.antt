use Rattle.std.proofs.Common.{◌≡◌, ◌++◌, ◌∷◌, [], refl, arith, rules}
use Rattle.handled_list.specs.declared.handled.Handled.{Handled}
use Rattle.thread_records.specs.Works.{working_view}
use Rattle.thread_records.proofs.Works.{worked_step, agrees_less}
use Rattle.std.proofs.lemmas.List.Elements.{Contains-append_right}
use Rattle.thread_records.proofs.work.handle_under.Goals as goal

pub returns-in-Done-clause-again : goal.returns-in-Done-clause-again
returns-in-Done-clause-again g c = λ made m inside is had.
    let h : Handled = record { item = c.args.item.now; version = c.args.version.now.number; choice = c.in-Done.served.choice; unstored = c.in-Done.served.unstored } in
    let items : c.push_reserved.new.self.items ≡ c.args.handled.now.items ++ h ∷ [] = search rules in
    worked_step (λ s z. g.S.Scheme.pick s z) (working_view made c.args.worker.now c.args.handled.now.items) c.args.version.now h c.step.new.self.forwarding made m c.step.new.self.used c.push_reserved.new.self.items had
    (λ pick here all. all) inside is refl c.in-Done.ensures.behind c.in-Done.ensures.used items c.in-Done.ensures.limits (λ past e. c.in-Done.ensures.done past e)

pub returns-in-Done-clause-more : goal.returns-in-Done-clause-more
returns-in-Done-clause-more g c = λ made m is had.
    let h : Handled = record { item = c.args.item.now; version = c.args.version.now.number; choice = c.in-Done.served.choice; unstored = c.in-Done.served.unstored } in
    let items : c.push_reserved.new.self.items ≡ c.args.handled.now.items ++ h ∷ [] = search rules in
    worked_step (λ s z. g.S.Scheme.pick s z) (working_view made c.args.worker.now c.args.handled.now.items) c.args.version.now h c.step.new.self.forwarding (made ++ m ∷ []) m c.step.new.self.used c.push_reserved.new.self.items had
    (λ pick here all. agrees_less (λ s z. g.S.Scheme.pick s z) pick here made m all) (Contains-append_right made (m ∷ []) m (0, omega arith, refl)) is refl c.in-Done.ensures.behind c.in-Done.ensures.used items c.in-Done.ensures.limits (λ past e. c.in-Done.ensures.done past e)
