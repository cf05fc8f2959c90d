use Rattle.std.proofs.Common.{ap, arith, ◌∙◌}
use Rattle.padded_capture.specs.Stages.{State}
use Rattle.padded_capture.proofs.Fields.{renewed, kept_behind}
use Rattle.padded_capture.proofs.stage.Stage.keep.Goals as goal

pub returns : goal.returns
returns c =
    renewed _ c.args.self.now _ _ c.self.view_is
    (kept_behind c.self.inside.text c.copy_from_slice.new.self c.args.self.now.waiting c.args.bytes.now c.self.inside.given c.self.inside.held _ (c.self.invariant.2 (ap (λ (s : State). s.is_gathering) c.self.view_is ∙ c.requires.gathers)) (omega (arith, c.self.told))
    c.copy_from_slice.ensures.after (ap (λ (s : State). s.waiting) c.self.view_is))
