use Rattle.thread_records.proofs.Joins.{runs_told, all_ok}
use Rattle.thread_records.proofs.joining.join_runs.Goals as goal

pub returns : goal.returns
returns c = λ rules packets ring commands runs.
    let t = runs_told rules packets ring 0 commands c.args.nodes.now runs in
    all_ok c.join_nodes.result (λ h a b d e. record { events = a; outcomes = b; told = d; own = e }) c.join_nodes.ensures.events c.join_nodes.ensures.outcomes (c.join_nodes.ensures.told rules packets t) (c.join_nodes.ensures.own rules packets t)
