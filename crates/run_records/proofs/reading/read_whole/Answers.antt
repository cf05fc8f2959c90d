use Rattle.std.proofs.Common.{◌≤◌, true, List, length, rules, ap, arith}
use Rattle.std.specs.Fn.{FnReturnsAt}
use Rattle.pcap_file.specs.Format.{Record, max_records}
use Rattle.run_records.specs.Inputs.{IsReadWhole}
use Rattle.run_records.proofs.Sparings.{split_by}
use Rattle.run_records.proofs.reading.read_whole.Goals as goal

pub returns-in-Ok-read_records-clause-whole : goal.returns-in-Ok-read_records-clause-whole
returns-in-Ok-read_records-clause-whole g c =
    let read = c.in-Ok-read_records in
    let Settle : List Record → Type 0 = λ rs. FnReturnsAt g.F.Fn c.args.enough.now rs true in
    let whole : IsReadWhole (g.I.Source.tape c.args.input.now) (g.I.Source.tape c.read_records.new.input) c.in-Ok.head read.all.all read.ending = search rules in
    let few : length read.all.all ≤ max_records = read.ensures.few in
    (read.all.all, whole, few, split_by Settle c.args.limit read.all c.split-records.result.0 c.split-records.result.1 c.split-records.ensures.kept c.split-records.ensures.split read.ensures.bounded)

pub returns-in-Ok-read_records-clause-most : goal.returns-in-Ok-read_records-clause-most
returns-in-Ok-read_records-clause-most g c =
    let read = c.in-Ok-read_records in
    omega (arith, read.ensures.bounded.0, ap (λ (rs : List Record). length rs) c.split-records.ensures.kept)
