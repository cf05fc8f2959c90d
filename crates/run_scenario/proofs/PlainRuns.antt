-- A run without ordinals tells connections as ever.
use Rattle.std.proofs.Common.{ℕ, List, Option, None}
use Rattle.change_share.specs.declared.counts.ChangeCounts.{ChangeCounts}
use Rattle.pcap_file.specs.Device.{Tape}
use Rattle.scenario.specs.declared.plan.Scenario.{Scenario}
use Rattle.run_scenario.specs.declared.running.RunOptions.{RunOptions}
use Rattle.run_scenario.specs.Runs.{Ran}
use Rattle.run_scenario.specs.Turned.{RanBy}

abbrev pub plain_ran : (s : Scenario) (options : RunOptions) (input input' output output' : Tape) (text : List ℕ) (counts : Option ChangeCounts) → RanBy None s options input input' output output' text counts → Ran s options input input' output output' text
plain_ran s options input input' output output' text counts r = record {
  known = r.known;
  head = r.head;
  records = r.records;
  ending = r.ending;
  read = r.read;
  nodes = r.nodes;
  history = r.history;
  run = r.run;
  written = r.written;
  unfailed = r.unfailed;
  report = r.report;
}
