use Rattle.run_report.proofs.Agreed.{follow_picks, follow_tables}
use Rattle.run_report.proofs.laws.splits_follow_picks.Goals as goal

pub returns-clause-picks : goal.returns-clause-picks
returns-clause-picks c = follow_picks

pub returns-clause-tables : goal.returns-clause-tables
returns-clause-tables c = follow_tables
