use Rattle.std.proofs.Common.{ap, sym, ◌∙◌}
use Rattle.padded_capture.specs.Either.{tape_of}
use Rattle.padded_capture.specs.Stages.{untouched}
use Rattle.padded_capture.proofs.Known.{plain_same}
use Rattle.padded_capture.proofs.either.CaptureSource.into_inner.Goals as goal

pub returns-in-Plain : goal.returns-in-Plain
returns-in-Plain g c = (untouched, ap (λ s. (tape_of (λ source. g.I.Source.tape source) _ s).bytes) c.in-Plain.is ∙ sym (plain_same _))

pub returns-in-Padded : goal.returns-in-Padded
returns-in-Padded g c = (c.into_inner.ensures.0, ap (λ s. (tape_of (λ source. g.I.Source.tape source) _ s).bytes) c.in-Padded.is ∙ c.into_inner.ensures.1)
