-- Three pieces, one put behind the other.
use Rattle.std.proofs.Common.{◌≡◌, ℕ, List, ◌++◌, Result, Ok, Err, ap, ◌∙◌, append_assoc}
use Rattle.std.specs.Prelude.{OnOk, is_ok, if◌then◌else◌}

pub three_told : {E : Type 0} (r : Result (Unit {0}) E) (a m b old one two new : List ℕ) → one ≡ old ++ a → two ≡ one ++ m → OnOk r (new ≡ two ++ b) → OnOk r (new ≡ old ++ (a ++ (m ++ b)))
three_told (Err e) a m b old one two new h k l = tt
three_told (Ok u) a m b old one two new h k l =
    l ∙ ap (λ (t : List ℕ). t ++ b) (k ∙ ap (λ (t : List ℕ). t ++ m) h) ∙ append_assoc (old ++ a) m b ∙ append_assoc old a (m ++ b)

pub last_pushed : {E : Type 0} (r : Result (Unit {0}) E) (b two new : List ℕ) → new ≡ (if is_ok r then two ++ b else two) → OnOk r (new ≡ two ++ b)
last_pushed (Err e) b two new l = tt
last_pushed (Ok u) b two new l = l
