use Rattle.thread_records.proofs.Writing.{put_on_set}
use Rattle.thread_records.proofs.journal.put.Goals as goal

pub returns-clause-after : goal.returns-clause-after
returns-clause-after c = put_on_set (λ v. v.items) c.args.placed.now.items c.args.worker c.index_mut-one.result.now c.push.new.self c.args.item c.requires c.index_mut-one.ensures.value c.in_ok-push.ensures.items
