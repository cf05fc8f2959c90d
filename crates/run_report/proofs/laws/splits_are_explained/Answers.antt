use Rattle.run_report.proofs.Explained.{splits_explained}
use Rattle.run_report.proofs.laws.splits_are_explained.Goals as goal

pub returns : goal.returns
returns c = splits_explained
