-- What is picked is the first that is up.
use Rattle.std.proofs.Common.{◌≡◌, ℕ, List, Option, Some, None, refl, sym, ◌∙◌}
use Rattle.std.specs.Prelude.{slice_get, option_map, option_and_then}
use Rattle.five_tuple.specs.declared.Flow.{Flow}
use Rattle.pool_versions.specs.declared.service.Service.{Service}
use Rattle.pool_versions.specs.declared.service.Version.{Version}
use Rattle.pool_versions.specs.Pool.{Pools, version_at, find_service, ups, ups_under}
use Rattle.selection.specs.Candidates.{candidates_in, candidates_under, candidates_of}
use Rattle.cluster_node.specs.Rules.{Rules}
use Rattle.cluster_node.specs.declared.outcomes.Outcome.{Outcome}
use Rattle.cluster_core.specs.Headline.{picked, pick_under, Agreement}
use Rattle.example_cluster.specs.Firsts.{first_of, first_up, FirstsDiffer}

in_service : (x : Flow) (o : Option Service) → picked (λ c y t. slice_get c.backends 0) x (option_map (λ s. candidates_in s.members.items) o) ≡ first_of (option_map (λ s. ups s.members.items) o)
in_service x None = refl
in_service x (Some s) = refl

in_version : (x : Flow) (o : Option Version) → picked (λ c y t. slice_get c.backends 0) x (option_and_then (λ v. candidates_under v x) o) ≡ first_of (option_and_then (λ v. ups_under v x) o)
in_version x None = refl
in_version x (Some v) = in_service x (find_service x v.services.items)

pub firsts_differ : (rules : Rules) (pools : Pools) (outs : List Outcome) → ((v : ℕ) (x : Flow) → pick_under rules v x ≡ picked (λ c y t. slice_get c.backends 0) x (candidates_of pools v x)) → Agreement rules outs → FirstsDiffer pools outs
firsts_differ rules pools outs same agree x b₁ b₂ v₁ v₂ s t d =
    let a : (pick_under rules v₁ x ≡ Some b₁) × (pick_under rules v₂ x ≡ Some b₂) × (pick_under rules v₁ x ≡ pick_under rules v₂ x → ⊥) × (v₁ ≡ v₂ → ⊥) = agree x b₁ b₂ v₁ v₂ s t d in (
      sym (first v₁) ∙ a.0,
      sym (first v₂) ∙ a.1,
      λ e. a.2 (first v₁ ∙ e ∙ sym (first v₂)),
    )
  where
    first : (v : ℕ) → pick_under rules v x ≡ first_up pools v x
    first v = same v x ∙ in_version x (version_at v pools.versions)
