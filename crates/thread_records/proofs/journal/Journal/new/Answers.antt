use Rattle.std.proofs.Common.{sym, subst}
use Rattle.cluster_core.proofs.Nodes.{if_ok_map}
use Rattle.thread_records.specs.Journals.{JournalView, Drives}
use Rattle.thread_records.proofs.Drives.{drives_none}
use Rattle.thread_records.proofs.journal.Journal.new.Goals as goal

pub returns-clause-drives : goal.returns-clause-drives
returns-clause-drives c = if_ok_map c.fresh.result (λ j e rules packets there many. subst (λ (z : JournalView). Drives rules packets z) (sym e) (drives_none rules packets c.args.node c.args.ring c.args.workers c.requires.some there many)) c.fresh.ensures
