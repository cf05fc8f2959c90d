use Rattle.std.proofs.Common.{◌≡◌, ◌-◌}
use Rattle.pcap_file.specs.Format.{max_records}
use Rattle.scenario_sketch.specs.Hops.{destinations_in}
use Rattle.scenario_sketch.proofs.Walks.{HasCounted}
use Rattle.scenario_sketch.proofs.reading.count_records.Given as goal

abbrev pub invariant-loop-tally : goal.invariant-loop-tally
invariant-loop-tally g l = record {
  counted : HasCounted l.head (g.I.Source.tape l.initial.input) (g.I.Source.tape l.input) l.given l.origins;
  same : l.tally ≡ destinations_in l.origins;
}

abbrev pub decreases-loop-tally : goal.decreases-loop-tally
decreases-loop-tally g l = max_records - l.given
