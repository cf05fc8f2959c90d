use Rattle.std.proofs.Common.{◌≡◌, ◌++◌, ◌∙◌, List, reverse, take, ap, sym, subst}
use Rattle.cluster_node.specs.declared.events.Event.{Event}
use Rattle.cluster_node.specs.declared.events.LogEntry.{LogEntry}
use Rattle.cluster_node.specs.declared.outcomes.Outcome.{Outcome}
use Rattle.run_report.specs.Books.{IsBookOf}
use Rattle.run_report.specs.Splits.{said_of}
use Rattle.run_scenario.specs.PrivateHistories.{said_by}
use Rattle.run_scenario.proofs.OneByOne.{said_more}
use Rattle.run_scenario.proofs.histories.book_of.Goals as goal

pub loop-node-preserved : goal.loop-node-preserved
loop-node-preserved c =
    let before = said_by (take c.loop-node.node-index c.args.nodes.now) in
    let slices : reverse (said_of c.events.result.now c.outcomes.result.now.items) ++ before ≡ reverse (said_of c.node-item.result.events.items c.node-item.result.outcomes.items) ++ before =
    ap (λ (es : List Event). reverse (said_of es c.outcomes.result.now.items) ++ before) c.events.ensures ∙ ap (λ (os : List Outcome). reverse (said_of c.node-item.result.events.items os) ++ before) c.outcomes.ensures in
    subst (λ (past : List LogEntry). IsBookOf past c.note_sends.new.book) (slices ∙ sym (said_more c.args.nodes.now c.loop-node.node-index c.node-item.result c.loop-node-test.true c.node-item.is c.requires))
    (c.in_ok-note_sends.ensures before c.loop-node.invariant)
