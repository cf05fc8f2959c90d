use Rattle.std.proofs.Common.{ap, ◌∙◌, Option, List, ℕ, option_map}
use Rattle.pcap_file.specs.Host.{taped}
use Rattle.pcap_file.specs.declared.counts.CallCounts.{CallCounts}
use Rattle.padded_capture.specs.Stages.{State, coming_of}
use Rattle.padded_capture.specs.Padding.{padded}
use Rattle.padded_capture.proofs.Known.{fresh_padded}
use Rattle.padded_capture.proofs.padded.Padded.new.Goals as goal

pub returns : goal.returns
returns g c =
    let a = (g.I.Source.tape c.args.source).bytes in
    ap (λ (s : State). taped (coming_of s a) c.none.result) c.fresh.ensures
    ∙ ap (λ (known : Option (List ℕ)). taped known c.none.result) (fresh_padded a)
    ∙ ap (λ (counts : CallCounts). taped (option_map padded a) counts) c.none.ensures
