-- The queues of a part are in order.
use Rattle.std.proofs.Common.{◌≡◌, ℕ, ◌≤◌, ◌<◌, Bool, true, false, List, length, Option, refl, sym, ap, ◌∙◌, subst, arith}
use Rattle.five_tuple.specs.declared.Flow.{Flow}
use Rattle.pool_versions.specs.declared.backend.Backend.{Backend}
use Rattle.cluster_node.specs.declared.packets.Packet.{Packet}
use Rattle.cluster_node.specs.declared.events.Event.{Event}
use Rattle.cluster_node.specs.declared.events.LogEntry.{LogEntry}
use Rattle.cluster_node.specs.declared.outcomes.Outcome.TheVariants.{Forward, Refused}
use Rattle.cluster_node.specs.declared.outcomes.Reason.TheVariants.{NoNode}
use Rattle.cluster_node.specs.Book.{Line, placed, taken_count, next_item}
use Rattle.cluster_node.specs.Record.{lines_of}
use Rattle.cluster_node.specs.Records.{Judged, lines_at, node_of}
use Rattle.cluster_core.specs.Cluster.{Cluster, TakesFirst, Orderly}
use Rattle.node_part.specs.Parts.{leaves_out, of_part, part_judge, part_of}
use Rattle.node_part.proofs.Parts.{own_node, left_outcome, kept_outcome, left_lines, others_judged, part_judged}

lines_kept : (only : Option ℕ) (n w : ℕ) (past : List LogEntry) → leaves_out only n ≡ false → lines_at (of_part only past) n w ≡ lines_at past n w
lines_kept only n w past h = ap (lines_of w) (own_node only n past h)

pub part_orderly : (only : Option ℕ) (k : Cluster) → Orderly k → Orderly (part_of only k)
part_orderly only k orderly = record { sound = sound; first = first }
  where
    sound : (past : List LogEntry) → Judged (part_judge only k.judge) past → (n w : ℕ) → n < k.nodes → w < k.workers → taken_count (lines_at past n w) ≤ length (placed (lines_at past n w))
    sound past j n w there here = go (leaves_out only n) refl
      where
        go : (b : Bool) → leaves_out only n ≡ b → taken_count (lines_at past n w) ≤ length (placed (lines_at past n w))
        go true h = subst (λ (ls : List Line). taken_count ls ≤ length (placed ls)) (sym (left_lines only n w past h (others_judged only k.judge past j))) (omega arith)
        go false h = subst (λ (ls : List Line). taken_count ls ≤ length (placed ls)) (lines_kept only n w past h) (orderly.sound (of_part only past) (part_judged only k.judge past j) n w there here)

    first : (past : List LogEntry) (e : Event) (p : Option Packet) (n w place : ℕ) (x : Flow) (b : Backend) (v : ℕ) → part_judge only k.judge past e p ≡ Forward n w place x b v → TakesFirst (part_of only k) past e n w place
    first past e p n w place x b v is = go (leaves_out only (node_of e)) refl
      where
        go : (c : Bool) → leaves_out only (node_of e) ≡ c → TakesFirst (part_of only k) past e n w place
        go true h = let no : Refused NoNode ≡ Forward n w place x b v = sym (left_outcome only k.judge past e p h) ∙ is in absurd (cc)
        go false h =
            let t : TakesFirst k (of_part only past) e n w place = orderly.first (of_part only past) e p n w place x b v (sym (kept_outcome only k.judge past e p h) ∙ is) in
            let here : leaves_out only n ≡ false = sym (ap (λ (f : Event). leaves_out only (node_of f)) t.event) ∙ h in
            record {
              version = t.version;
              refused = t.refused;
              item = t.item;
              event = t.event;
              node = t.node;
              worker = t.worker;
              first = sym (ap next_item (lines_kept only n w past here)) ∙ t.first;
              packet = t.packet;
            }
