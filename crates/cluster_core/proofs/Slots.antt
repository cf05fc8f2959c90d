-- What Maglev picks is what a slot names.
use Rattle.std.proofs.Common.{◌≡◌, ℕ, List, Option, Some, None, true, refl, sym, ap, subst, ◌∙◌, Contains}
use Rattle.std.specs.List.{All}
use Rattle.five_tuple.specs.declared.Flow.{Flow}
use Rattle.pool_versions.specs.Pool.{Pools, AreSound, IsWithinLimits, AreWeighed}
use Rattle.backend_names.specs.Sizes.{is_table_size}
use Rattle.pool_versions.specs.Pool.{ups, has_double_name}
use Rattle.selection.specs.PickLaws.{read_is_in}
use Rattle.cluster_core.proofs.Draining.{apart, none_of}
use Rattle.selection.specs.Picks.{table_pick, slot_of_flow}
use Rattle.selection.proofs.Tables.{members_table_is_even}
use Rattle.selection.specs.Candidates.{Candidates, candidates_of}
use Rattle.forwarder.specs.Serving.{Pick}
use Rattle.cluster_node.specs.Rules.{Rules}
use Rattle.cluster_node.specs.declared.outcomes.Outcome.{Outcome}
use Rattle.cluster_core.specs.Headline.{picked, pick_under, Agreement}
use Rattle.cluster_core.specs.Tables.{named_in, named_under, TablesDiffer, TablesAreEven, NoSlotDrains}

picked_named : (plain : List ℕ → ℕ) (size : ℕ) (pick : Pick) → ((ups : Candidates) (x : Flow) → pick ups x 0 ≡ table_pick plain size ups x) → (x : Flow) (o : Option Candidates) → picked pick x o ≡ named_in plain size o (slot_of_flow plain size x)
picked_named plain size pick same x None = refl
picked_named plain size pick same x (Some ups) = same ups x

pub tables_differ : (rules : Rules) (plain : List ℕ → ℕ) (size : ℕ) (pools : Pools) (outs : List Outcome) → ((candidates : Candidates) (x : Flow) → rules.pick candidates x 0 ≡ table_pick plain size candidates x) → ((v : ℕ) (x : Flow) → rules.ups v x ≡ candidates_of pools v x) → Agreement rules outs → TablesDiffer plain size pools outs
tables_differ rules plain size pools outs same known agree x b₁ b₂ v₁ v₂ s t d =
    let a : (pick_under rules v₁ x ≡ Some b₁) × (pick_under rules v₂ x ≡ Some b₂) × (pick_under rules v₁ x ≡ pick_under rules v₂ x → ⊥) × (v₁ ≡ v₂ → ⊥) = agree x b₁ b₂ v₁ v₂ s t d in (
      sym (named v₁) ∙ a.0,
      sym (named v₂) ∙ a.1,
      a.3,
    )
  where
    named : (v : ℕ) → pick_under rules v x ≡ named_under plain size pools v x
    named v = picked_named plain size rules.pick same x (rules.ups v x) ∙ ap (λ (o : Option Candidates). named_in plain size o (slot_of_flow plain size x)) (known v x)

-- what holds of all holds of one of them
of_all : {X : Type 0} (P : X → Type 0) (xs : List X) (x : X) → All P xs → Contains xs x → P x
of_all P xs x all c = subst P c.2 (all c.0 x c.1)

pub tables_are_even : (plain : List ℕ → ℕ) (size : ℕ) (pools : Pools) → is_table_size size ≡ true → AreSound pools → TablesAreEven plain size pools
tables_are_even plain size pools listed sound v s known served some =
    let kept : IsWithinLimits pools.size v = of_all (IsWithinLimits pools.size) pools.versions v sound.limits known in
    members_table_is_even plain size s.members.items listed (of_all (λ t. AreWeighed t.members.items) v.services.items s kept.weighed served) some

pub no_slot_drains : (plain : List ℕ → ℕ) (size : ℕ) (pools : Pools) → AreSound pools → NoSlotDrains plain size pools
no_slot_drains plain size pools sound v s known served slot b names drains =
    let kept : IsWithinLimits pools.size v = of_all (IsWithinLimits pools.size) pools.versions v sound.limits known in
    apart s.members.items b (none_of has_double_name v.services.items s kept.named served) (read_is_in (ups s.members.items) _ b names) drains
