use Rattle.std.proofs.Common.{sym, ◌∙◌}
use Rattle.pcap_file.specs.Format.{packet}
use Rattle.waiting_frames.proofs.Follows.{follow_settled, follow_sent, moves_accepted, taken_accepted}
use Rattle.waiting_frames.proofs.waiting.Waiting.settle.Goals as goal

pub returns-then-is_accepted-clause-mirrors : goal.returns-then-is_accepted-clause-mirrors
returns-then-is_accepted-clause-mirrors c = λ all k past f away. follow_settled all k past c.args.said.now c.args.self.now c.settle_by.new.self f away
    (moves_accepted c.args.said.now c.args.self.now c.settle_by.new.self (sym c.is_accepted.ensures ∙ c.if-is_accepted.true) c.settle_by.ensures.queues)

pub returns-then-is_accepted-clause-sent : goal.returns-then-is_accepted-clause-sent
returns-then-is_accepted-clause-sent c = λ all k past f. follow_sent (λ x. packet x.value) all k past c.args.said.now c.args.self.now c.settle_by.result f
    (taken_accepted c.args.said.now c.args.self.now _ (sym c.is_accepted.ensures ∙ c.if-is_accepted.true) c.settle_by.ensures.taken)
