use Rattle.std.proofs.Common.{◌∙◌, ap, sym, map, List}
use Rattle.std.specs.List.{list_any}
use Rattle.std.proofs.lemmas.List.Sorted.{list_any-IsPermutation}
use Rattle.pool_versions.specs.declared.backend.Member.{Member}
use Rattle.pool_versions.specs.Pool.{up_members}
use Rattle.selection.specs.Readied.{same_backend}
use Rattle.rollout_plan.specs.Text.{as_up, has_member}
use Rattle.rollout_plan.proofs.ByName.{any_as_up, any_of_backends, if_ok_by_items}
use Rattle.rollout_plan.proofs.members.backends_in_order.Goals as goal

pub returns-clause-same : goal.returns-clause-same
returns-clause-same c = if_ok_by_items (λ v. v.items) _ (has_member c.args.members.now) c.backends_of.result c.backends_of.ensures (λ b.
    ap (λ (ms : List Member). list_any (λ up. same_backend up b) (map (λ m. m.backend) ms)) c.as_slice.ensures.value
    ∙ any_of_backends b c.in_ok-members.members.items
    ∙ sym (list_any-IsPermutation (λ (m : Member). same_backend m.backend b) (up_members (map as_up c.args.members.now)) c.in_ok-members.members.items c.in_ok-members.ensures.permutation)
    ∙ any_as_up b c.args.members.now)
