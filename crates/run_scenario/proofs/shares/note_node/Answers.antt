use Rattle.std.proofs.Common.{◌+◌, ◌∷◌, List, Option, drop, get_or, refl, sym, inl, inr, subst, arith}
use Rattle.std.proofs.lemmas.List.{drop_more, drop_all}
use Rattle.cluster_node.specs.declared.packets.Packet.{Packet}
use Rattle.cluster_node.specs.declared.events.Event.{Event}
use Rattle.cluster_node.specs.declared.events.Event.TheVariants.{Install}
use Rattle.cluster_node.specs.declared.events.LogEntry.{LogEntry}
use Rattle.cluster_node.specs.declared.outcomes.Outcome.{Outcome}
use Rattle.cluster_core.specs.Runs.{packet_of}
use Rattle.event_trace.specs.Noting.{said_by}
use Rattle.traffic_shares.specs.Books.{AreShareBooksOf}
use Rattle.run_scenario.proofs.Whole.{event_more, event_end, drop_at, drop_past}
use Rattle.run_scenario.proofs.shares.note_node.Goals as goal

pub loop-at-init : goal.loop-at-init
loop-at-init c = λ asked past is. (past, is, refl)

pub loop-at-preserved : goal.loop-at-preserved
loop-at-preserved c = λ asked first is.
    let was = c.loop-at.invariant asked first is in
    let packets : List Packet = c.args.packets.now in
    let event : Event = get_or c.args.events.now c.loop-at.at (Install 0 0) in
    let outcome : Outcome = c.in-Some.outcome in (
      record { event = event; packet = packet_of packets event; outcome = outcome } ∷ was.0,
      subst (λ (p : Option Packet). AreShareBooksOf asked (said_by event p outcome ∷ was.0) c.note.new.self) c.packet_at.ensures (c.in_ok-note.ensures asked was.0 was.1),
      event_more packets was.0 (drop c.loop-at.at c.args.events.now) (drop (c.loop-at.at + 1) c.args.events.now) (drop c.loop-at.at c.args.outcomes.now.items) (drop (c.loop-at.at + 1) c.args.outcomes.now.items) event outcome _
          (drop_more c.args.events.now c.loop-at.at (Install 0 0) c.loop-at-test.true) (drop_at c.args.outcomes.now.items c.loop-at.at outcome (sym c.in-Some.ensures)) was.2,
    )

pub returns-in_default : goal.returns-in_default
returns-in_default c = λ asked first is.
    let was = c.loop-at.invariant asked first is in
    subst (λ (past : List LogEntry). AreShareBooksOf asked past c.loop-at.books)
    (event_end c.args.packets.now first was.0 _ _ _ (inr (drop_past c.args.outcomes.now.items c.loop-at.at (sym c.in_default.ensures))) was.2)
    was.1

pub returns : goal.returns
returns c = λ asked first is.
    let was = c.loop-at.invariant asked first is in
    subst (λ (past : List LogEntry). AreShareBooksOf asked past c.loop-at.books)
    (event_end c.args.packets.now first was.0 _ _ _ (inl (drop_all c.loop-at.at c.args.events.now (omega (arith, c.loop-at-test.false)))) was.2)
    was.1
