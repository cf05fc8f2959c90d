-- How far a run's counts move.
use Rattle.cluster_node.specs.Records.{placed_on}
use Rattle.std.proofs.Common.{◌≡◌, ℕ, ◌+◌, ◌≤◌, Bool, true, false, Option, Some, None, refl, ap, ◌∙◌, arith}
use Rattle.std.specs.Prelude.{if◌then◌else◌}
use Rattle.cluster_node.specs.declared.packets.Packet.{Packet}
use Rattle.cluster_core.specs.Cluster.{flow_of}
use Rattle.event_trace.specs.Trace.{Trace}
use Rattle.event_trace.specs.Steps.{World, is_held, say, serve, follow, arrival, arrive, route, deliver}

-- only events are added
pub record Keeps (c d : Trace) : Type 0 where
  pub read : d.read ≡ c.read
  pub nth : d.nth ≡ c.nth
  pub unrouted : d.unrouted ≡ c.unrouted
  pub lost : d.lost ≡ c.lost
  pub skipped : d.skipped ≡ c.skipped

pub keeps_same : (c : Trace) → Keeps c c
keeps_same c = record { read = refl; nth = refl; unrouted = refl; lost = refl; skipped = refl }

pub keeps_both : (c d e : Trace) → Keeps c d → Keeps d e → Keeps c e
keeps_both c d e p q = record { read = q.read ∙ p.read; nth = q.nth ∙ p.nth; unrouted = q.unrouted ∙ p.unrouted; lost = q.lost ∙ p.lost; skipped = q.skipped ∙ p.skipped }

pub serve_keeps : (w : World) (n u : ℕ) (c : Trace) → Keeps c (serve w n u c)
unfolding serve
serve_keeps w n u c = record { read = refl; nth = refl; unrouted = refl; lost = refl; skipped = refl }

held_keeps : (w : World) (n u : ℕ) (c : Trace) (b : Bool) → Keeps c (if b then c else serve w n u c)
held_keeps w n u c true = keeps_same c
held_keeps w n u c false = serve_keeps w n u c

pub follow_keeps : (w : World) (n : ℕ) (o : Option ℕ) (c : Trace) → Keeps c (follow w n o c)
unfolding follow
follow_keeps w n None c = keeps_same c
follow_keeps w n (Some u) c = held_keeps w n u c (is_held n c)

pub arrive_keeps : (w : World) (n k : ℕ) (p : Packet) (c : Trace) → Keeps c (arrive w n k p c)
unfolding arrive
arrive_keeps w n k p c =
    let k : Keeps (say w (arrival n k c) (Some p) c) (follow w n (placed_on (w.cluster.judge c.past (arrival n k c) (Some p))) (say w (arrival n k c) (Some p) c)) = follow_keeps w n (placed_on (w.cluster.judge c.past (arrival n k c) (Some p))) (say w (arrival n k c) (Some p) c) in
    record { read = k.read; nth = k.nth; unrouted = k.unrouted; lost = k.lost; skipped = k.skipped }

-- one packet is handed to the spreader
pub record Handed (c d : Trace) : Type 0 where
  pub read : d.read ≡ c.read
  pub nth : d.nth ≡ c.nth + 1
  pub unrouted : d.unrouted ≤ c.unrouted + 1
  pub lost : d.lost ≡ c.lost
  pub skipped : d.skipped ≡ c.skipped

pub deliver_hands : (w : World) (k : ℕ) (p : Packet) (c : Trace) → Handed c (deliver w k p c)
unfolding deliver route
deliver_hands w k p c = to (w.choice c.live (flow_of p) c.nth)
  where
    to : (o : Option ℕ) → Handed c (route w k p o (record c { nth = c.nth + 1 }))
    to None = record { read = refl; nth = refl; unrouted = omega arith; lost = refl; skipped = refl }
    to (Some n) =
        let k : Keeps (record c { nth = c.nth + 1 }) (arrive w n k p (record c { nth = c.nth + 1 })) = arrive_keeps w n k p (record c { nth = c.nth + 1 }) in
        record { read = k.read; nth = k.nth; unrouted = omega arith; lost = k.lost; skipped = k.skipped }

pub handed_next : (w : World) (p : Packet) (c s n : Trace) (place : ℕ) → s ≡ record c { read = c.read + 1 } → n ≡ deliver w place p s → (n.read ≡ c.read + 1) × (n.nth ≡ c.nth + 1) × (n.unrouted ≤ c.unrouted + 1) × (n.lost ≡ c.lost) × (n.skipped ≡ c.skipped)
handed_next w p c s n place f k =
    let e : n ≡ deliver w place p (record c { read = c.read + 1 }) = k ∙ ap (λ (x : Trace). deliver w place p x) f in
    let h : Handed (record c { read = c.read + 1 }) (deliver w place p (record c { read = c.read + 1 })) = deliver_hands w place p (record c { read = c.read + 1 }) in
    (ap (λ (x : Trace). x.read) e ∙ h.read, ap (λ (x : Trace). x.nth) e ∙ h.nth, omega (arith, ap (λ (x : Trace). x.unrouted) e, h.unrouted), ap (λ (x : Trace). x.lost) e ∙ h.lost, ap (λ (x : Trace). x.skipped) e ∙ h.skipped)
