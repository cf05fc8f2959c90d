use Rattle.std.proofs.Common.{List, [], sym, ◌∙◌, ap, arith, refl, subst}
use Rattle.std.proofs.lemmas.List.{drop_all}
use Rattle.cluster_node.specs.declared.packets.Packet.{Packet}
use Rattle.cluster_core.specs.Cluster.{Behind}
use Rattle.event_trace.specs.Trace.{Trace}
use Rattle.event_trace.specs.Steps.{world_of, take_all}
use Rattle.event_trace.proofs.Repeats.{delivered_next, take_none}
use Rattle.event_trace.proofs.Readings.{read_at}
use Rattle.event_trace.proofs.Moves.{handed_next}
use Rattle.event_trace.proofs.Choosing.{same_choice, chosen_still}
use Rattle.event_trace.proofs.play.Play.take_all.Goals as goal

pub loop-packet-preserved : goal.loop-packet-preserved
loop-packet-preserved g c =
    let w0 = world_of (g.C.Core.cluster c.args.setup.now) (g.P.Spread.choice c.loop-packet.self.spread) [] in
    let moved = handed_next w0 _ c.loop-packet.self.trace _ _ _ c.next_place-place.ensures.after (c.in_ok-deliver_onto.ensures.after w0 refl (same_choice (λ s. g.P.Spread.choice s) (sym c.next_place-place.ensures.spread))) in
    record {
      stands = c.in_ok-deliver_onto.ensures.stands;
      spread = c.deliver_onto.ensures.spread ∙ c.next_place-place.ensures.spread ∙ c.loop-packet.invariant.spread;
      told = λ before h. c.in_ok-deliver_onto.ensures.told before (subst (λ (d : Trace). Behind before d.past c.loop-packet.events.items) (sym c.next_place-place.ensures.after) (c.loop-packet.invariant.told before h));
      read = omega (arith, moved.0);
      nth = omega (arith, moved.1);
      unrouted = omega (arith, moved.2);
      rest = λ w j k. delivered_next w c.args.packets.now c.loop-packet.packet-index _ c.loop-packet.self.trace _ _ _ (omega arith) c.next_place-place.ensures.place c.next_place-place.ensures.after (c.in_ok-deliver_onto.ensures.after w j (chosen_still (λ s. g.P.Spread.choice s) k (c.next_place-place.ensures.spread ∙ c.loop-packet.invariant.spread)))
          ∙ c.loop-packet.invariant.rest w j k;
    }

pub returns-clause-after : goal.returns-clause-after
returns-clause-after g c = λ w j k.
    sym (take_none w c.loop-packet.self.trace) ∙ ap (λ (l : List Packet). take_all w l c.loop-packet.self.trace) (sym (drop_all c.loop-packet.packet-index c.args.packets.now (omega arith))) ∙ c.loop-packet.invariant.rest w j k

pub deliver_onto-requires-clause-read : goal.deliver_onto-requires-clause-read
deliver_onto-requires-clause-read g c = read_at c.args.packets.now c.loop-packet.packet-index _ c.requires.read c.loop-packet-test.true
