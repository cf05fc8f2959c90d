use Rattle.std.proofs.Common.{rules}
use Rattle.std.specs.Prelude.{None, is_some}
use Rattle.thread_roles.specs.Pushed.{sent_into, free_in, with_item}
use Rattle.thread_roles.specs.declared.ring.Message.TheVariants.{Serve}
use Rattle.thread_roles.proofs.Taking.{offered_set, number_set, holds_at}
use Rattle.thread_roles.proofs.ring.InputsRings.offer.Goals as goal

pub returns-clause-sent : goal.returns-clause-sent
returns-clause-sent c = offered_set (λ r. sent_into r) c.args.self.now.rings.items c.args.worker c.index_mut-one.result.now c.push_at_once.new.ring None (λ ms. with_item (Serve c.args.item) ms) c.push_at_once.result (search rules) c.index_mut-one.ensures.value c.push_at_once.ensures.sent

pub returns-clause-full : goal.returns-clause-full
returns-clause-full c = λ refused. number_set (λ r. free_in r) c.args.self.now.rings.items c.args.worker c.push_at_once.new.ring (search rules) (c.push_at_once.ensures.full refused)

pub returns-clause-there : goal.returns-clause-there
returns-clause-there c = λ took. holds_at (λ r. sent_into r) c.args.self.now.rings.items c.args.worker c.index_mut-one.result.now None (λ ms. is_some ms) (search rules) c.index_mut-one.ensures.value (c.push_at_once.ensures.there took)
