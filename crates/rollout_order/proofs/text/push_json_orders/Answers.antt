use Rattle.std.proofs.Common.{arith, string_bytes}
use Rattle.rollout_order.proofs.Texts.{head_told}
use Rattle.rollout_order.proofs.text.push_json_orders.Goals as goal

pub returns : goal.returns
returns c =
    head_told c.push_orders.result c.args.rollout.now c.len.result c.args.count c.args.greedy (string_bytes c.args.text.now) (string_bytes c.push_json_head.new.text) (string_bytes c.push_orders.new.text)
    (omega (arith, c.len.ensures, c.args.rollout.now.leavers.ok.0)) c.in_ok-push_json_head.ensures c.push_orders.ensures
