-- What a function answers where it passes on what another answered.
use Rattle.std.proofs.Common.{◌≡◌, Result, Ok, Err, IsErrAnd, OnOk, IfOk, IfErr, subst, sym}

-- at the exit of a `?`: what holds of a fault holds of the answer that gives it
pub at_exit : {T E : Type 0} (r : Result T E) (fault : E) (P : E → Type 0) → IsErrAnd r (λ f. f ≡ fault) → P fault → IfErr r P
at_exit (Ok x) fault P is h = tt
at_exit (Err f) fault P is h = subst P (sym is) h

-- an answer that is passed on: what follows from all that holds where it is Ok
pub where_done : {T E : Type 0} (r : Result T E) (P : Type 0) → (((Q : Type 0) → OnOk r Q → Q) → P) → OnOk r P
where_done (Ok x) P h = h (λ Q q. q)
where_done (Err f) P h = tt

-- and from all that holds of its fault
pub where_failed : {T E : Type 0} (r : Result T E) (P : E → Type 0) → ((fault : E) → ((Q : E → Type 0) → IfErr r Q → Q fault) → P fault) → IfErr r P
where_failed (Ok x) P h = tt
where_failed (Err f) P h = h f (λ Q q. q)

-- and from all that holds of its value
pub where_ok : {T E : Type 0} (r : Result T E) (P : T → Type 0) → ((x : T) → ((Q : T → Type 0) → IfOk r Q → Q x) → P x) → IfOk r P
where_ok (Ok x) P h = h x (λ Q q. q)
where_ok (Err f) P h = tt
