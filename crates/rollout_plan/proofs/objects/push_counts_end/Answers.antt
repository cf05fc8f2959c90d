use Rattle.std.proofs.Common.{string_bytes}
use Rattle.rollout_plan.proofs.Blocks.{counts_told}
use Rattle.rollout_plan.proofs.objects.push_counts_end.Goals as goal

pub returns : goal.returns
returns c =
    counts_told c.push_causes_end.result c.args.before.now c.args.after.now c.args.draining.now _ c.in_ok-causes.causes.down c.in_ok-causes.causes.moved c.in_ok-causes.causes.drained c.least-least.result
    (string_bytes c.args.text.now) (string_bytes c.push_causes_end.new.text) c.in_ok-causes.ensures.changed c.in_ok-causes.ensures.down c.in_ok-causes.ensures.moved c.in_ok-causes.ensures.drained
    c.least-least.ensures c.push_causes_end.ensures
