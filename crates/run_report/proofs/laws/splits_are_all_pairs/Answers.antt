use Rattle.run_report.proofs.Pairs.{are_splits, are_flows}
use Rattle.run_report.proofs.Explained.{histories_tell}
use Rattle.run_report.proofs.laws.splits_are_all_pairs.Goals as goal

pub returns-clause-splits : goal.returns-clause-splits
returns-clause-splits c = are_splits

pub returns-clause-flows : goal.returns-clause-flows
returns-clause-flows c = are_flows

pub returns-clause-sends : goal.returns-clause-sends
returns-clause-sends c = histories_tell
