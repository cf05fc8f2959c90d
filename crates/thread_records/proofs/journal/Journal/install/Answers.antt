use Rattle.std.proofs.Common.{ap, ◌∙◌}
use Rattle.thread_records.specs.Histories.{commands_of}
use Rattle.thread_records.specs.Journals.{JournalView, with_install}
use Rattle.thread_records.specs.Losses.{losses}
use Rattle.thread_records.proofs.Losses.{install_loses_none}
use Rattle.thread_records.proofs.Writing.{on_ok}
use Rattle.thread_records.proofs.Drives.{drives_install, drives_ok, commands_install}
use Rattle.thread_records.proofs.journal.Journal.install.Goals as goal

pub returns-clause-drives : goal.returns-clause-drives
returns-clause-drives c = λ rules packets known d. drives_ok c.write_install.result rules packets c.write_install.new.self (with_install c.args.known c.args.version c.args.self.now) c.write_install.ensures.after (drives_install rules packets c.args.self.now d c.args.version c.args.known known)

pub returns-clause-command : goal.returns-clause-command
returns-clause-command c = on_ok c.write_install.result (λ e. ap (λ (j : JournalView). commands_of j.events) e ∙ commands_install c.args.known c.args.version c.args.self.now) c.write_install.ensures.after

pub returns-clause-lost : goal.returns-clause-lost
returns-clause-lost c = on_ok c.write_install.result (λ e. ap (λ (j : JournalView). losses j.outcomes) e ∙ install_loses_none c.args.known c.args.version c.args.self.now) c.write_install.ensures.after
