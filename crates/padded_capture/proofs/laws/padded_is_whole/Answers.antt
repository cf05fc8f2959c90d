use Rattle.padded_capture.proofs.Whole.{header_stays, records_whole}
use Rattle.padded_capture.proofs.laws.padded_is_whole.Goals as goal

pub returns-clause-header : goal.returns-clause-header
returns-clause-header c = header_stays

pub returns-clause-records : goal.returns-clause-records
returns-clause-records c = records_whole
