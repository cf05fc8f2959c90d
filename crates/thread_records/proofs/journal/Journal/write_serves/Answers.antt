use Rattle.std.proofs.Common.{◌++◌, ◌∷◌, [], reverse, refl, sym, ap, ◌∙◌}
use Rattle.std.proofs.lemmas.List.{reverse-reverse}
use Rattle.thread_records.proofs.Ends.{serves_step}
use Rattle.thread_records.proofs.journal.Journal.write_serves.Goals as goal

pub loop-one-init : goal.loop-one-init
loop-one-init c = ([], sym (reverse-reverse c.args.handled.items) ∙ ap reverse (sym c.reverse.ensures), refl)

pub loop-one-preserved-then-is_multiple_of : goal.loop-one-preserved-then-is_multiple_of
loop-one-preserved-then-is_multiple_of c =
    let was = c.loop-one.invariant in
    let step = serves_step c.args.worker c.args.handled.items was.0 c.loop-one.rest.items c.pop.new.self.items c.shrink.new.self.items c.in-Some.one c.args.self.now c.loop-one.self c.write_serve.new.self was.1 c.in-Some.ensures c.shrink.ensures was.2 c.in_ok-write_serve.ensures in
    (was.0 ++ c.in-Some.one ∷ [], step.0, step.1)

pub loop-one-preserved : goal.loop-one-preserved
loop-one-preserved c =
    let was = c.loop-one.invariant in
    let step = serves_step c.args.worker c.args.handled.items was.0 c.loop-one.rest.items c.pop.new.self.items c.pop.new.self.items c.in-Some.one c.args.self.now c.loop-one.self c.write_serve.new.self was.1 c.in-Some.ensures refl was.2 c.in_ok-write_serve.ensures in
    (was.0 ++ c.in-Some.one ∷ [], step.0, step.1)
