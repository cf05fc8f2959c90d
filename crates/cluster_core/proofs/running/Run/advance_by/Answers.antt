use Rattle.std.proofs.Common.{◌≤◌, length, ap, sym, subst, arith}
use Rattle.std.specs.Prelude.{OnOk, slice_get, slice_set, false}
use Rattle.cluster_node.specs.Rules.{Rules}
use Rattle.cluster_node.specs.declared.events.Event.TheVariants.{Arrive, Serve}
use Rattle.cluster_core.specs.Setups.{rules_for}
use Rattle.cluster_core.specs.RunView.{RunView}
use Rattle.cluster_core.specs.Runs.{RunStands, RunPasses, newest_at}
use Rattle.cluster_core.proofs.Passing.{pass_said, no_node_passes}
use Rattle.cluster_core.proofs.running.Run.advance_by.Goals as goal

pub returns-then-at-len : goal.returns-then-at-len
returns-then-at-len g c = λ pools past st.
    no_node_passes (λ s z. g.S.Scheme.pick s z) (rules_for (λ s z. g.S.Scheme.pick s z) (λ h. g.H.FlowHash.plain h) c.args.setup.now pools) past c.args.self.now c.args.node c.args.packet 0 c.args.refused.now c.args.body.now
    (subst (λ (z : RunView g.row.S.Denot). length z.nodes ≤ c.args.node) c.self.view_is (let a : length c.self.inside.nodes.items ≤ c.args.node = omega (arith, c.len.ensures, c.if-at-len.true) in a)) st

pub returns : goal.returns
returns g c = λ pools past st.
    let rules : Rules = rules_for (λ s z. g.S.Scheme.pick s z) (λ h. g.H.FlowHash.plain h) c.args.setup.now pools in
    let run : RunView g.row.S.Denot = record { failed = c.self.inside.failed; nodes = c.self.inside.nodes.items; versions = c.self.inside.versions } in
    subst (λ (z : RunView g.row.S.Denot). OnOk c.pass.result (RunPasses (λ s z. g.S.Scheme.pick s z) rules past (Arrive c.args.node c.args.packet c.args.refused.now) c.args.body.now (λ w. Serve c.args.node w (newest_at (slice_get z.nodes c.args.node)) false) c.pass.new.passed (record { failed = c.self.inside.failed; nodes = slice_set c.self.inside.nodes.items c.args.node c.pass.new.self; versions = c.self.inside.versions }))) c.self.view_is
    (pass_said (λ s z. g.S.Scheme.pick s z) rules past run c.args.node c.args.packet c.args.refused.now c.args.body.now c.index_mut-one.result.now c.pass.new.self c.pass.new.passed c.pass.result c.requires (omega (arith, c.len.ensures, c.if-at-len.false)) c.index_mut-one.ensures.value
    (subst (λ (z : RunView g.row.S.Denot). RunStands (λ s z. g.S.Scheme.pick s z) rules past z) (sym c.self.view_is) st)
    (λ had all stands. c.pass.ensures.verdict rules had (ap (λ (h : g.row.H.Denot). g.H.FlowHash.plain h) (sym c.hash.ensures)) all stands))
