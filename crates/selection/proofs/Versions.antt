-- A prepared version answers as the version that it was made of.
use Rattle.std.proofs.Common.{Bor, ◌≡◌, ℕ, Bool, true, false, cond, List, [], ◌∷◌, map, Option, Some, None, IfSome, option_map, option_copied, refl, ap, ◌∙◌, inl, inr}
use Rattle.std.proofs.lemmas.Bool.{cases_Bool}
use Rattle.five_tuple.specs.declared.Flow.{Flow}
use Rattle.pool_versions.specs.declared.service.Service.{Service}
use Rattle.pool_versions.specs.declared.service.Version.{Version}
use Rattle.pool_versions.specs.Pool.{serves, find_service}
use Rattle.selection.specs.Candidates.{candidates_in, candidates_under}
use Rattle.selection.specs.Readied.{ReadiedService, readied_of, serves_readied, AreFor, ready_for, ups_for}

-- the services of a version are for the scheme and the size
pub AreFor_readied : {S : Type 0} (scheme : S) (size : ℕ) (ss : List Service) → AreFor scheme size (map (readied_of scheme size) ss)
AreFor_readied scheme size [] = tt
AreFor_readied scheme size (s ∷ ss) = (refl, refl, AreFor_readied scheme size ss)

chosen : {X : Type 0} (P : X → Type 0) (b : Bool) (x : X) (o : Option X) → P x → IfSome o P → IfSome (cond b (Some x) o) P
chosen P true x o p q = p
chosen P false x o p q = q

pub AreFor_found : {S : Type 0} (scheme : S) (size : ℕ) (x : Flow) (ss : List (ReadiedService S)) → AreFor scheme size ss → IfSome (ready_for x ss) (λ r. (r.scheme ≡ scheme) × (r.size ≡ size))
AreFor_found scheme size x [] h = tt
AreFor_found scheme size x (s ∷ ss) h = chosen (λ r. (r.scheme ≡ scheme) × (r.size ≡ size)) (serves_readied x s) s (ready_for x ss) (h.0, h.1) (AreFor_found scheme size x ss h.2)

-- what holds of the value found holds of what the reference shows
pub own_from_copied : {X : Type 0} (P : X → Type 0) (r : Option (Bor X)) (o : Option X) → option_copied r ≡ o → IfSome o P → IfSome r (λ x. P x.now)
own_from_copied P None o e h = tt
own_from_copied P (Some x) o e h = let h' = rw (← e) at h in h'

-- the service that is found among the prepared ones is the one that is found in the version
pub ready_for_readied : {S : Type 0} (scheme : S) (size : ℕ) (x : Flow) (ss : List Service) → ready_for x (map (readied_of scheme size) ss) ≡ option_map (readied_of scheme size) (find_service x ss)
ready_for_readied scheme size x [] = refl
ready_for_readied scheme size x (s ∷ ss) = elim (cases_Bool (serves x s)) [
  | inl fits ↦ rw fits refl
  | inr other ↦ rw other (ready_for_readied scheme size x ss)
]

mapped_ups : {S : Type 0} (scheme : S) (size : ℕ) (o : Option Service) → option_map (λ (r : ReadiedService S). r.ups) (option_map (readied_of scheme size) o) ≡ option_map (λ s. candidates_in s.members.items) o
mapped_ups scheme size None = refl
mapped_ups scheme size (Some s) = refl

-- the candidates of a flow are those of the version
pub ups_for_readied : {S : Type 0} (scheme : S) (size : ℕ) (x : Flow) (v : Version) → ups_for x (map (readied_of scheme size) v.services.items) ≡ candidates_under v x
ups_for_readied {S} scheme size x v = ap (option_map (λ (r : ReadiedService S). r.ups)) (ready_for_readied scheme size x v.services.items) ∙ mapped_ups scheme size (find_service x v.services.items)
