use Rattle.std.proofs.Common.{Option, sym, ap, ◌∙◌}
use Rattle.std.specs.Prelude.{unwrap_or}
use Rattle.std.proofs.lemmas.Option.{unwrap_or-slice_get}
use Rattle.cluster_node.specs.declared.outcomes.Outcome.{Outcome}
use Rattle.cluster_node.specs.declared.outcomes.Outcome.TheVariants.{Installed}
use Rattle.thread_records.proofs.lean.send_of.Goals as goal

pub returns-in-None : goal.returns-in-None
returns-in-None c = ap (λ (o : Option Outcome). unwrap_or o Installed) (sym c.in-None.is ∙ c.get.ensures) ∙ unwrap_or-slice_get c.args.outcomes.now.items c.args.number Installed
