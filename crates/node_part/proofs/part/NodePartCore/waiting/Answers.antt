use Rattle.std.proofs.Common.{sym, ◌∙◌}
use Rattle.node_part.specs.Parts.{of_part}
use Rattle.node_part.proofs.Cores.{kept_waiting, left_waiting}
use Rattle.node_part.proofs.part.NodePartCore.waiting.Goals as goal

pub returns-then-leaves_out : goal.returns-then-leaves_out
returns-then-leaves_out g c = λ past st.
    sym (left_waiting c.args.setup.now.only (g.C.Core.cluster c.args.setup.now.whole) c.args.node c.args.worker past (sym c.leaves_out.ensures ∙ c.if-leaves_out.true) st.0)

pub returns : goal.returns
returns g c = λ past st.
    let only = c.args.setup.now.only in
    c.waiting.ensures (of_part only past) st.1 ∙ sym (kept_waiting only (g.C.Core.cluster c.args.setup.now.whole) c.args.node c.args.worker past (sym c.leaves_out.ensures ∙ c.if-leaves_out.false))
