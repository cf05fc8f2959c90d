use Rattle.std.proofs.Common.{ap, ◌∙◌, ℕ, Option}
use Rattle.thread_records.specs.Workers.{Limits}
use Rattle.thread_records.proofs.Rules.{all_agree}
use Rattle.thread_records.proofs.work.WorkerRecord.is_of.Goals as goal

pub returns-then-has_limits-clause-of : goal.returns-then-has_limits-clause-of
returns-then-has_limits-clause-of g c = λ h.
    let own = c.has_limits.ensures.0 c.if-has_limits.true in
    record {
      limits = ap (λ (n : ℕ). let l : Limits = record { capacity = n; idle = c.args.self.now.forwarding.idle } in l) own.0 ∙ ap (λ (o : Option ℕ). let l : Limits = record { capacity = c.args.setup.now.capacity; idle = o } in l) own.1;
      agrees = all_agree (λ a b. g.S.PartialEq.eq a b) (λ s z. g.S.Scheme.pick s z) (λ h. g.H.FlowHash.plain h) c.args.setup.now c.args.catalogue.now c.args.self.now.made (λ a b e size ups x turn. g.met.S.Scheme.pick_respects_eq a b e size ups x turn) (c.uses_own.ensures.0 h);
    }
