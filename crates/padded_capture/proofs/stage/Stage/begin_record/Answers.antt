use Rattle.std.proofs.Common.{refl, ap, ◌∙◌}
use Rattle.padded_capture.specs.Stages.{State}
use Rattle.padded_capture.proofs.Coming.{record_whole}
use Rattle.padded_capture.proofs.Fields.{mended_same, missing_same}
use Rattle.padded_capture.proofs.stage.Stage.begin_record.Goals as goal

pub returns-clause-same : goal.returns-clause-same
returns-clause-same c =
    let s = c.args.self.now in
    let order = c.args.order in
    let v = c.self.view_is ∙ c.mend.ensures in
    let captured = c.number-captured.result in
    let original = c.number-original.result in
    record_whole s _ order c.requires.gathers c.requires.form c.requires.count refl (ap (λ (x : State). x.form) v ∙ c.requires.form)
    (ap (λ (x : State). x.waiting) v ∙ mended_same order s.waiting captured original c.number-captured.ensures c.number-original.ensures)
    c.number-captured.ensures
    (ap (λ (x : State). x.zeros) v ∙ missing_same order s.waiting captured original c.number-captured.ensures c.number-original.ensures)
