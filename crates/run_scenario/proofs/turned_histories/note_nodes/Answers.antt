use Rattle.std.proofs.Common.{◌≡◌, ◌++◌, ◌∙◌, List, reverse, take, ap, sym, subst, arith}
use Rattle.std.proofs.lemmas.List.{take_all}
use Rattle.cluster_node.specs.declared.events.Event.{Event}
use Rattle.cluster_node.specs.declared.events.LogEntry.{LogEntry}
use Rattle.cluster_node.specs.declared.outcomes.Outcome.{Outcome}
use Rattle.connection_changes.specs.TurnedBooks.{IsTurnedBookOf}
use Rattle.thread_records.specs.declared.nodes.NodeRecord.{NodeRecord}
use Rattle.run_scenario.specs.Runs.{said_with}
use Rattle.run_scenario.specs.PrivateHistories.{said_whole}
use Rattle.run_scenario.proofs.Whole.{whole_more}
use Rattle.run_scenario.proofs.turned_histories.note_nodes.Goals as goal

pub loop-node-init : goal.loop-node-init
loop-node-init c = λ o is. is

pub loop-node-preserved : goal.loop-node-preserved
loop-node-preserved c = λ o is.
    let packets = c.args.packets.now in
    let before = said_whole packets (take c.loop-node.node-index c.args.nodes.now) in
    let slices : reverse (said_with packets c.events-events.result.now c.outcomes.result.now.items) ++ before ≡ reverse (said_with packets c.node-item.result.events.items c.node-item.result.outcomes.items) ++ before =
    ap (λ (es : List Event). reverse (said_with packets es c.outcomes.result.now.items) ++ before) c.events-events.ensures ∙ ap (λ (os : List Outcome). reverse (said_with packets c.node-item.result.events.items os) ++ before) c.outcomes.ensures in
    subst (λ (past : List LogEntry). IsTurnedBookOf o past c.note_node.new.book) (slices ∙ sym (whole_more packets c.args.nodes.now c.loop-node.node-index c.node-item.result c.loop-node-test.true c.node-item.is c.requires))
    (c.in_ok-note_node.ensures o before (c.loop-node.invariant o is))

pub returns : goal.returns
returns c = λ o is.
    let packets = c.args.packets.now in
    subst (λ (ns : List NodeRecord). IsTurnedBookOf o (said_whole packets ns) c.loop-node.book) (take_all c.loop-node.node-index c.args.nodes.now (omega arith))
    (c.loop-node.invariant o is)
