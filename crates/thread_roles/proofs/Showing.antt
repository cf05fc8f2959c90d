-- Which number a version of a catalogue has, and a fault that is passed on.
use Rattle.std.proofs.Common.{◌≡◌, ℕ, ◌==◌, ◌∷◌, [], Bool, true, false, List, Some, refl, ap, sym, subst, ◌∙◌}
use Rattle.std.specs.Prelude.{Result, Ok, Err, IfErr, IsErrAnd, if◌then◌else◌}
use Rattle.std.proofs.lemmas.Bool.{eqb-true}
use Rattle.pool_versions.specs.Pool.{version_at}
use Rattle.pool_versions.specs.declared.service.Version.{Version}
use Rattle.selection.specs.Readied.{Readied}
use Rattle.cluster_node.specs.Record.{prepared_at}

-- the version of a number has that number
pub numbered : (n : ℕ) (vs : List Version) (v : Version) → version_at n vs ≡ Some v → v.number ≡ n
numbered n [] v e = absurd (cc)
numbered n (x ∷ xs) v e = one (x.number == n) refl (numbered n xs v) e
  where
    one : (b : Bool) → (x.number == n) ≡ b → (version_at n xs ≡ Some v → v.number ≡ n) → (if b then Some x else version_at n xs) ≡ Some v → v.number ≡ n
    one true t rest f = let same : x ≡ v = cc in sym (ap (λ (u : Version). u.number) same) ∙ eqb-true x.number n t
    one false t rest f = rest f

-- a fault that is passed on
pub passed_on : {T E : Type 0} (r : Result T E) (e : E) (P : E → Type 0) → IsErrAnd r (λ f. f ≡ e) → P e → IfErr r P
passed_on (Ok x) e P is h = absurd is
passed_on (Err f) e P is h = subst P (sym is) h

-- so has what was prepared of a number
pub prepared_number : {S : Type 0} (n : ℕ) (ps : List (Readied S)) (p : Readied S) → Some p ≡ prepared_at n ps → p.number ≡ n
prepared_number n [] p e = absurd (cc)
prepared_number {S} n (q ∷ qs) p e = one (q.number == n) refl (prepared_number n qs p) e
  where
    one : (b : Bool) → (q.number == n) ≡ b → (Some p ≡ prepared_at n qs → p.number ≡ n) → Some p ≡ (if b then Some q else prepared_at n qs) → p.number ≡ n
    one true t rest f = let same : p ≡ q = cc in ap (λ (u : Readied S). u.number) same ∙ eqb-true q.number n t
    one false t rest f = rest f
