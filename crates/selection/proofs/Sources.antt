-- A prepared version stands for each version that is the same as the one that it was made from.
use Rattle.std.proofs.Common.{◌≡◌, ℕ, List, [], ◌∷◌, map, refl, sym, ap, ◌∙◌}
use Rattle.five_tuple.specs.declared.Flow.{Flow}
use Rattle.pool_versions.specs.declared.service.Service.{Service}
use Rattle.pool_versions.specs.declared.service.Version.{Version}
use Rattle.selection.specs.Candidates.{candidates_in, candidates_under}
use Rattle.pool_versions.specs.Same.{Parts, parts_of, AreSame}
use Rattle.selection.specs.Readied.{Readied, ReadiedService, readied_of, readied_version, ups_for}
use Rattle.selection.proofs.Versions.{ups_for_readied}

-- what is prepared of a service depends on its parts alone
abbrev readied_parts : {S : Type 0} → S → ℕ → Parts → ReadiedService S
readied_parts scheme size p = record { scheme = scheme; size = size; vip = p.vip; proto = p.proto; port = p.port; ups = candidates_in p.members }

by_parts : {S : Type 0} (scheme : S) (size : ℕ) (ss : List Service) → map (readied_of scheme size) ss ≡ map (readied_parts scheme size) (map parts_of ss)
by_parts scheme size [] = refl
by_parts scheme size (s ∷ ss) = ap (λ (l : List (ReadiedService _)). readied_of scheme size s ∷ l) (by_parts scheme size ss)

pub readied_same : {S : Type 0} (scheme : S) (size : ℕ) (v w : Version) → AreSame v w → readied_version scheme size v ≡ readied_version scheme size w
readied_same {S} scheme size v w same =
    let services : map (readied_of scheme size) v.services.items ≡ map (readied_of scheme size) w.services.items
    = by_parts scheme size v.services.items ∙ ap (map (readied_parts scheme size)) same.services ∙ sym (by_parts scheme size w.services.items) in
    ap (λ (n : ℕ). made n (map (readied_of scheme size) v.services.items) (map parts_of v.services.items)) same.number
    ∙ ap (λ (ss : List (ReadiedService S)). made w.number ss (map parts_of v.services.items)) services
    ∙ ap (λ (ps : List Parts). made w.number (map (readied_of scheme size) w.services.items) ps) same.services
  where
    made : ℕ → List (ReadiedService S) → List Parts → Readied S
    made n ss ps = record { scheme = scheme; size = size; number = n; services = ss; source = ps }

-- the up backends of a flow
pub ups_same : {S : Type 0} (scheme : S) (v w : Version) (x : Flow) → AreSame v w → candidates_under v x ≡ candidates_under w x
ups_same {S} scheme v w x same =
    sym (ups_for_readied scheme 0 x v)
    ∙ ap (λ (r : Readied S). ups_for x r.services) (readied_same scheme 0 v w same)
    ∙ ups_for_readied scheme 0 x w
