use Rattle.std.proofs.Common.{ℕ, List, ◌++◌, ◌∙◌, ap, string_bytes}
use Rattle.json_lines.specs.Forms.{shares_as}
use Rattle.run_report.specs.Causes.{lookups_of}
use Rattle.simulate_scenario.specs.Answers.{splits_if, summary_if}
use Rattle.simulate_scenario.specs.Asked.{asked_shares}
use Rattle.simulate_scenario.proofs.answering.report.Goals as goal

pub returns : goal.returns
returns g c =
    let trace = c.args.ended.now.trace in
    let w = c.args.wanted in
    let d = c.args.deployment.now in
    let lookups = lookups_of (g.H.FlowHash.plain d.setup.hash) d.setup.size d.catalogue in
    let books = c.requires.books in
    c.in_ok-push_summary_if.ensures trace books.1
    ∙ ap (λ (l : List ℕ). l ++ summary_if w.form w.summary lookups d.setup.idle trace) (c.in_ok-push_shares.ensures (asked_shares w) trace.past books.2
    ∙ ap (λ (l : List ℕ). l ++ shares_as w.form (asked_shares w) trace.past) (c.in_ok-push_str.ensures.bytes
    ∙ ap (λ (l : List ℕ). l ++ c.as_str.result.now) (c.in_ok-push_splits_if.ensures trace books.0 books.1)
    ∙ ap (λ (l : List ℕ). (string_bytes c.args.lines ++ splits_if w.form w.places w.splits lookups d.setup.idle trace) ++ l) (c.as_str.ensures.value ∙ c.in_ok-report.ensures)))
