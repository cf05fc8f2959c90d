use Rattle.std.proofs.Common.{refl}
use Rattle.padded_capture.proofs.padded.Padded.into_inner.Goals as goal

pub returns : goal.returns
returns g c = (c.args.self.stage, refl)
