use Rattle.std.proofs.Common.{◌<◌, ◌≤◌, length, map, ◌∙◌, arith}
use Rattle.std.specs.Prelude.{None}
use Rattle.std.proofs.lemmas.List.{length-set, length-map}
use Rattle.thread_roles.specs.Pushed.{sent_into, with_item}
use Rattle.thread_roles.specs.declared.ring.Message.TheVariants.{Close}
use Rattle.thread_roles.proofs.Taking.{mapped_all, mapped_step}
use Rattle.thread_roles.proofs.ring.Inputs.close.Goals as goal

pub loop-at-preserved : goal.loop-at-preserved
loop-at-preserved g c =
    let below : c.loop-at.at < length c.args.self.now.rings.items = omega (arith, c.loop-at-test.true, c.len-at-end.ensures) in (
      length-set c.loop-at.self.rings.items c.loop-at.at c.push_in_time.new.ring ∙ c.loop-at.invariant.0,
      mapped_step (λ r. sent_into r) c.loop-at.self.rings.items c.args.self.now.rings.items c.loop-at.at c.index_mut-one.result.now c.push_in_time.new.ring None (λ ms. with_item Close ms) below c.loop-at.invariant.0 c.index_mut-one.ensures.value c.push_in_time.ensures c.loop-at.invariant.1,
    )

pub returns : goal.returns
returns g c =
    let all : length (map (λ r. sent_into r) c.args.self.now.rings.items) ≤ c.loop-at.at = omega (arith, length-map c.args.self.now.rings.items (λ r. sent_into r), c.loop-at-test.false, c.len-at-end.ensures) in
    c.loop-at.invariant.1 ∙ mapped_all (λ ms. with_item Close ms) (map (λ r. sent_into r) c.args.self.now.rings.items) c.loop-at.at all
