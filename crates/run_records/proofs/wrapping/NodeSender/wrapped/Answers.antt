use Rattle.std.proofs.Common.{ℕ, List, ap, ◌∙◌, arith}
use Rattle.simulation.specs.Sent.{records_text}
use Rattle.run_records.specs.Traffic.{sent_by_numbers}
use Rattle.run_records.proofs.Parts.{first_of}
use Rattle.run_records.proofs.wrapping.NodeSender.wrapped.Goals as goal

pub returns-in-Ok : goal.returns-in-Ok
returns-in-Ok c = record {
  within = omega (arith, c.requires.in_bounds, c.in-Ok.ensures.count);
  text = c.in-Ok.ensures.text ∙ ap (λ (l : List ℕ). records_text (sent_by_numbers c.args.self.now l))
      (first_of c.args.numbers.now c.args.some.now 4096 c.args.start c.in-Ok.count c.requires.value (omega (arith, c.in-Ok.ensures.count, c.requires.at_most_size)));
}
