use Rattle.std.proofs.Common.{arith, string_bytes}
use Rattle.rollout_order.proofs.Texts.{one_order}
use Rattle.rollout_order.proofs.text.orders_text_of.Goals as goal

pub returns-in_ok-order : goal.returns-in_ok-order
returns-in_ok-order c =
    one_order string_bytes c.args.form c.args.rollout.now c.in_ok-order.order c.line_of.result (omega (arith, c.if-len-le-MOST_TRIED.false, c.len.ensures, c.args.rollout.now.leavers.ok.0)) c.in_ok-order.ensures c.line_of.ensures
