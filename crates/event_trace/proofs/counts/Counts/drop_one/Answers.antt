use Rattle.std.proofs.Common.{sym, ◌∙◌}
use Rattle.event_trace.proofs.Counted.{dropped_at, then_ok, served_drop, arrived_drop}
use Rattle.event_trace.proofs.counts.Counts.drop_one.Goals as goal

pub returns-then-at_serving : goal.returns-then-at_serving
returns-then-at_serving c = λ others packet h.
    let now = c.args.self.now in
    let ds = dropped_at others packet c.args.cause now.dropped c.add_at.new.counts c.place_of.result h.dropped c.place_of.ensures.place c.in_ok-add_at.ensures in
    then_ok c.add.result _ _ (λ e. served_drop others packet c.args.cause now c.add_at.new.counts c.add.new.count h (sym c.at_serving.ensures ∙ c.if-at_serving.true) ds e) c.add.ensures

pub returns-else-at_serving : goal.returns-else-at_serving
returns-else-at_serving c = λ others packet h.
    let now = c.args.self.now in
    let ds = dropped_at others packet c.args.cause now.dropped c.add_at.new.counts c.place_of.result h.dropped c.place_of.ensures.place c.in_ok-add_at.ensures in
    then_ok c.add-else-at_serving.result _ _ (λ e. arrived_drop others packet c.args.cause now c.add_at.new.counts c.add-else-at_serving.new.count h (sym c.at_serving.ensures ∙ c.if-at_serving.false) ds e) c.add-else-at_serving.ensures
