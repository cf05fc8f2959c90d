-- What is answered by an audit that wasn't refused memory.
use Rattle.std.specs.Prelude.{Result, Ok, Err, Bool}

-- there is an answer
abbrev pub IsGiven : {E : Type 0} → Result Bool E → Type 0
IsGiven (Ok b) = Unit {0}
IsGiven (Err e) = ⊥
