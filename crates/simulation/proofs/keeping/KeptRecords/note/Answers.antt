use Rattle.std.proofs.Common.{◌∷◌, ◌++◌, [], subst, OnOk}
use Rattle.std.proofs.lemmas.Result.{on_ok_weaker}
use Rattle.pcap_file.specs.Format.{Record, packet}
use Rattle.simulation.specs.PrivateKeeping.{KeepsNamed}
use Rattle.simulation.proofs.Named.{noted_some}
use Rattle.simulation.proofs.keeping.KeptRecords.note.Goals as goal

pub returns : goal.returns
returns c = λ seen ss e h.
    subst (λ (r : Record). OnOk c.set.result (KeepsNamed (seen ++ r ∷ []) ss c.set.new.self)) c.in_ok-copy_of.ensures
    (on_ok_weaker c.set.result (λ n. noted_some seen ss (packet c.in_ok-copy_of.field-0.value) c.args.self.now c.set.new.self c.args.place c.times-times.result e c.times-times.ensures c.if-times-eq0.false n h) c.set.ensures)
