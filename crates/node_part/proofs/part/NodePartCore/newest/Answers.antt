use Rattle.std.proofs.Common.{sym, ◌∙◌}
use Rattle.node_part.specs.Parts.{of_part}
use Rattle.node_part.proofs.Cores.{kept_newest, left_newest_on}
use Rattle.node_part.proofs.part.NodePartCore.newest.Goals as goal

pub returns-then-leaves_out : goal.returns-then-leaves_out
returns-then-leaves_out g c = λ past st.
    sym (left_newest_on c.args.setup.now.only (g.C.Core.cluster c.args.setup.now.whole) c.args.node past (sym c.leaves_out.ensures ∙ c.if-leaves_out.true) st.0)

pub returns : goal.returns
returns g c = λ past st.
    let only = c.args.setup.now.only in
    c.newest.ensures (of_part only past) st.1 ∙ sym (kept_newest only (g.C.Core.cluster c.args.setup.now.whole) c.args.node past (sym c.leaves_out.ensures ∙ c.if-leaves_out.false))
