-- The same spreader chooses the same.
use Rattle.std.proofs.Common.{◌≡◌, sym, ap, ◌∙◌}
use Rattle.spreader.specs.Choices.{Choice}
use Rattle.event_trace.specs.Steps.{SameChoice}

pub same_choice : {P : Type 0} {s t : P} (choice : P → Choice) → s ≡ t → SameChoice (choice s) (choice t)
same_choice choice e = λ live flow nth. ap (λ x. choice x live flow nth) e

-- who chooses as a spreader did chooses as it does later, where it stayed
pub chosen_still : {P : Type 0} {w : Choice} {s t : P} (choice : P → Choice) → SameChoice w (choice s) → t ≡ s → SameChoice w (choice t)
chosen_still choice h e = λ live flow nth. h live flow nth ∙ sym (ap (λ x. choice x live flow nth) e)
