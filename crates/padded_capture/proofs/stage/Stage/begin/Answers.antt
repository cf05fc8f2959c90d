use Rattle.std.proofs.Common.{ap, sym, ◌∙◌, refl}
use Rattle.padded_capture.specs.Stages.{State}
use Rattle.padded_capture.proofs.Coming.{plain_whole}
use Rattle.padded_capture.proofs.stage.Stage.begin.Goals as goal

pub returns-in-Plain-clause-same : goal.returns-in-Plain-clause-same
returns-in-Plain-clause-same c =
    let form = ap (λ (x : State). x.form) (sym c.self.view_is) ∙ c.in-Plain.is in
    plain_whole c.args.self.now _ c.requires.gathers form refl c.in-Plain.is (ap (λ (x : State). x.waiting) c.self.view_is)
