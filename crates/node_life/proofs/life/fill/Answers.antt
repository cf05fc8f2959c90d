use Rattle.std.proofs.Common.{◌+◌, ℕ, List, length, ap, ◌∙◌}
use Rattle.std.proofs.lemmas.List.{length_push}
use Rattle.thread_records.specs.Works.{WorkView}
use Rattle.node_life.proofs.Idling.{served_idle}
use Rattle.node_life.proofs.life.fill.Goals as goal

pub loop-preserved : goal.loop-preserved
loop-preserved g c =
    let old : List (WorkView g.row.S.Denot) = c.loop.records.items in
    let one : WorkView g.row.S.Denot = c.in_ok-record.record in
    record {
      all = ap (λ (ws : List (WorkView g.row.S.Denot)). length ws) c.in-Ok.ensures.items ∙ length_push old one ∙ ap (λ (n : ℕ). n + 1) c.loop.invariant.all;
      counts = λ n. served_idle n old c.push.new.self.items one (ap (λ (w : WorkView g.row.S.Denot). w.handled) c.in_ok-record.ensures) c.in-Ok.ensures.items ∙ c.loop.invariant.counts n;
    }
