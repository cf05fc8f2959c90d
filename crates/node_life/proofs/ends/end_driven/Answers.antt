use Rattle.std.proofs.Common.{◌≤◌, ◌<◌, ℕ, Bool, List, Some, length, map, take, refl, ap, sym, subst, ◌∙◌, arith}
use Rattle.std.specs.Prelude.{not}
use Rattle.std.proofs.lemmas.List.{take_all}
use Rattle.cluster_node.specs.Rules.{Rules}
use Rattle.cluster_core.specs.Setups.{rules_for}
use Rattle.thread_records.specs.declared.command.Command.{Command}
use Rattle.thread_records.specs.Losses.{ending, as_written, drained_lives, losses, KeepDrained}
use Rattle.thread_roles.proofs.Counting.{counts_told}
use Rattle.thread_roles.proofs.Goes.{obeyed_more}
use Rattle.node_life.proofs.Judging.{judged_whole, judged_exit, stops_past}
use Rattle.node_life.proofs.ends.end_driven.Goals as goal

pub returns-then-at-plan : goal.returns-then-at-plan
returns-then-at-plan g c =
    let rules : Rules = rules_for (λ s z. g.S.Scheme.pick s z) (λ h. g.H.FlowHash.plain h) c.args.plan.assignment.setup.now c.args.plan.assignment.catalogue.now in
    let had = c.requires.driven in
    let before : c.args.driven.at < length c.args.plan.assignment.commands.now = omega (arith, c.if-at-plan.true) in
    let stopped = c.stops_at-drained.ensures in
    record {
      ended = record {
        onward = had.onward;
        within = had.within;
        next = λ h. obeyed_more rules c.args.plan.assignment.packets.now c.args.plan.assignment.commands.now c.args.plan.assignment.node c.args.plan.assignment.ring c.args.driven.at (ending (not c.stops_at-drained.result)) _ before (had.ends before ∙ ap (λ (b : Bool). Some (ending (not b))) (sym stopped)) (c.in_ok-lost.ensures.going c.args.plan.assignment.packets.now (take c.args.driven.at c.args.plan.assignment.commands.now) c.args.plan.assignment.node c.args.plan.assignment.ring had.going);
        last = λ h. absurd (omega (arith, before, h));
      };
      judged = judged_whole (λ x y. g.S.PartialEq.eq x y) c.args.plan.assignment.setup.now c.args.plan.assignment.catalogue.now _ _ c.args.driven.journal _ (ap not c.stops_at-drained.ensures) c.in_ok-lost.ensures.judged;
      parts = c.lose.ensures.parts;
      unmarked = c.in_ok-lost.ensures.unmarked;
      counts = λ read. counts_told c.args.driven.tally.lost c.lose.new.self.lost c.args.driven.tally.shares c.lose.new.self.shares c.in_ok-lost.lost c.end_life.new.journal.outcomes c.lose.ensures.lost
          (c.in_ok-lost.ensures.counts c.args.driven.tally.lost c.args.driven.tally.shares (c.requires.counts read));
    }

pub returns : goal.returns
returns g c =
    let rules : Rules = rules_for (λ s z. g.S.Scheme.pick s z) (λ h. g.H.FlowHash.plain h) c.args.plan.assignment.setup.now c.args.plan.assignment.catalogue.now in
    let had = c.requires.driven in
    let all : length c.args.plan.assignment.commands.now ≤ c.args.driven.at = omega (arith, c.if-at-plan.false) in
    let ended = c.in_ok-end.ensures.ended c.args.plan.assignment.packets.now had.going.drives in
    let served = c.in_ok-end.ensures.served in
    record {
      ended = record {
        onward = had.onward;
        within = had.within;
        next = λ h. absurd (omega (arith, all, h));
        last = λ h. record {
          tells = ended.0;
          drained = ended.1;
          obeyed = served.commands ∙ (had.going.obeyed ∙ ap (λ (cs : List Command). map as_written cs) (take_all c.args.driven.at c.args.plan.assignment.commands.now all));
          kept = subst (λ (cs : List Command). KeepDrained (drained_lives cs) (losses c.end.new.journal.outcomes)) (take_all c.args.driven.at c.args.plan.assignment.commands.now all) (subst (λ (ls : List ℕ). KeepDrained (drained_lives (take c.args.driven.at c.args.plan.assignment.commands.now)) ls) (sym served.lost) had.going.kept);
          own = served.node ∙ had.going.own;
          ring = served.ring ∙ had.going.ring;
        };
      };
      judged = judged_whole (λ x y. g.S.PartialEq.eq x y) c.args.plan.assignment.setup.now c.args.plan.assignment.catalogue.now _ _ c.args.driven.journal _ (sym (stops_past c.args.plan.assignment.commands.now c.args.driven.at all)) c.in_ok-end.ensures.judged;
      parts = refl;
      unmarked = c.in_ok-end.ensures.unmarked;
      counts = λ read. c.in_ok-end.ensures.counts c.args.driven.tally.lost c.args.driven.tally.shares (c.requires.counts read);
    }

pub returns-in_err-lost-clause-judged : goal.returns-in_err-lost-clause-judged
returns-in_err-lost-clause-judged g c = judged_exit (λ x y. g.S.PartialEq.eq x y) c.args.plan.assignment.setup.now c.args.plan.assignment.catalogue.now c.from_residual.result c.in_err-lost.field-0.0 _ _ c.args.driven.journal _ c.from_residual.ensures.1 (ap not c.stops_at-drained.ensures) c.in_err-lost.ensures.judged

pub returns-in_err-end-clause-judged : goal.returns-in_err-end-clause-judged
returns-in_err-end-clause-judged g c =
    let past : length c.args.plan.assignment.commands.now ≤ c.args.driven.at = omega (arith, c.if-at-plan.false) in
    judged_exit (λ x y. g.S.PartialEq.eq x y) c.args.plan.assignment.setup.now c.args.plan.assignment.catalogue.now c.from_residual-in_err-end.result c.in_err-end.field-0.0 _ _ c.args.driven.journal _ c.from_residual-in_err-end.ensures.1 (sym (stops_past c.args.plan.assignment.commands.now c.args.driven.at past)) c.in_err-end.ensures.judged
