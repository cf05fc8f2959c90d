use Rattle.std.proofs.Common.{rules}
use Rattle.std.specs.Prelude.{None}
use Rattle.thread_roles.specs.Pushed.{sent_into, with_item}
use Rattle.thread_roles.specs.declared.ring.Message.TheVariants.{Serve}
use Rattle.thread_roles.proofs.Taking.{view_set}
use Rattle.thread_roles.proofs.ring.PacedInputsRings.offer.Goals as goal

pub returns-clause-sent : goal.returns-clause-sent
returns-clause-sent g c = view_set (λ r. sent_into r) c.args.self.now.inputs.now.rings.items c.args.worker c.index_mut-one.result.now c.push_in_time.new.ring None (λ ms. with_item (Serve c.args.item) ms) (search rules) c.index_mut-one.ensures.value c.push_in_time.ensures
