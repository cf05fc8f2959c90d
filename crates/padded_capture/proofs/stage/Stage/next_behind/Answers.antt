use Rattle.std.proofs.Common.{ap, sym, ◌∙◌, arith}
use Rattle.padded_capture.specs.Stages.{State}
use Rattle.padded_capture.proofs.Coming.{settled}
use Rattle.padded_capture.proofs.stage.Stage.next_behind.Goals as goal

pub returns-in-Ordered-3-clause-same : goal.returns-in-Ordered-3-clause-same
returns-in-Ordered-3-clause-same c =
    let s = c.args.self.now in
    let form = ap (λ (x : State). x.form) (sym c.self.view_is) ∙ c.in-Ordered-3.is in
    settled s c.gather.new.self c.in-Ordered-3.field-0 c.requires.gives c.requires.none form
    (omega (arith, ap (λ (x : State). x.plain) c.self.view_is)) (omega (arith, ap (λ (x : State). x.zeros) c.self.view_is))
    (ap (λ (x : State). x.is_gathering) c.gather.ensures) (ap (λ (x : State). x.waiting) c.gather.ensures) (ap (λ (x : State). x.form) c.gather.ensures ∙ form)
