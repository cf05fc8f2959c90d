-- What a journal tells, event by event.
use Rattle.std.proofs.Common.{◌≡◌, ℕ, ◌+◌, ◌<◌, ◌≤◌, true, false, List, [], ◌∷◌, ◌++◌, length, Option, sym, ap, ◌∙◌, subst, arith}
use Rattle.std.proofs.lemmas.List.{length_push}
use Rattle.cluster_node.specs.declared.packets.Packet.{Packet}
use Rattle.cluster_node.specs.declared.events.Event.{Event}
use Rattle.cluster_node.specs.declared.events.LogEntry.{LogEntry}
use Rattle.cluster_node.specs.declared.outcomes.Outcome.{Outcome}
use Rattle.cluster_node.specs.Rules.{Rules}
use Rattle.cluster_node.specs.Record.{newest_by, newest_of, installed_by, installed_of, placed_by, placed_count, node_verdict}
use Rattle.cluster_node.specs.Records.{node_of}
use Rattle.cluster_core.specs.Runs.{verdicts, packet_of}
use Rattle.thread_records.specs.Histories.{past_of, AreOf, AcceptedServe, ServesAreAccepted, DueAt, MarksAreDue, may_follow, stage_of, is_by_lives}
use Rattle.thread_records.specs.Journals.{JournalView, all_placed, Tells, with_event}
use Rattle.thread_records.proofs.Histories.{Grows, grows, are_of_append, by_lives_push}

-- one more event: a journal that otherwise is this
module _ (rules : Rules) (packets : List Packet) (j : JournalView) (e : Event) (p : Option Packet) (o : Outcome) where
  abbrev pub Past : List LogEntry
  Past = past_of rules packets j.node j.events

  pub record Moves (k : JournalView) : Type 0 where
    pub node : k.node ≡ j.node
    pub ring : k.ring ≡ j.ring
    pub events : k.events ≡ j.events
    pub outcomes : k.outcomes ≡ j.outcomes
    pub own : node_of e ≡ j.node
    pub named : packet_of packets e ≡ p
    pub is : o ≡ node_verdict rules Past e p
    pub follow : may_follow (stage_of 0 j.events) e ≡ true
    pub accept : AcceptedServe e o
    pub newest : k.newest ≡ newest_by e o (newest_of Past)
    pub installed : k.installed ≡ installed_by e o (installed_of Past)
    pub came : placed_by e o (placed_count Past) ≡ all_placed k.placed
    pub few : all_placed k.placed ≤ all_placed j.placed + 1
    pub lists : length k.placed ≡ rules.workers
    pub workers : k.steering.workers ≡ rules.workers
    pub due : k.early ≡ false → (j.early ≡ false) × DueAt j.ring e Past

  pub grown : Tells rules packets j → (k : JournalView) → Moves k → Grows rules packets j.node j.events e p o
  grown t k m = grows rules packets j.node j.events e p o t.there m.own m.named m.is

  -- the record of the node after it
  pub past_is : Tells rules packets j → (k : JournalView) → Moves k → past_of rules packets k.node (k.events ++ e ∷ []) ≡ record { event = e; packet = p; outcome = o } ∷ Past
  past_is t k m =
      ap (λ (n : ℕ). past_of rules packets n (k.events ++ e ∷ [])) m.node
      ∙ ap (λ (es : List Event). past_of rules packets j.node (es ++ e ∷ [])) m.events
      ∙ (grown t k m).past

  pub tells_push : Tells rules packets j → (k : JournalView) → Moves k → Tells rules packets (with_event k e o)
  tells_push t k m =
      let g = grown t k m in
      let q : past_of rules packets k.node (k.events ++ e ∷ []) ≡ record { event = e; packet = p; outcome = o } ∷ Past = past_is t k m in
      let longer : length (k.events ++ e ∷ []) ≡ length k.events + 1 = length_push k.events e in
      let same_length : length k.events ≡ length j.events = ap length m.events in
      let before : all_placed j.placed ≤ length j.events = t.few in
      let after : all_placed k.placed ≤ all_placed j.placed + 1 = m.few in
      record {
        there = subst (λ (n : ℕ). n < rules.nodes) (sym m.node) t.there;
        some = t.some;
        workers = m.workers;
        lists = m.lists;
        told = ap (λ (os : List Outcome). os ++ o ∷ []) (m.outcomes ∙ t.told) ∙ sym g.told ∙ ap (λ (es : List Event). verdicts rules [] packets (es ++ e ∷ [])) (sym m.events);
        own = subst (λ (n : ℕ). AreOf n (k.events ++ e ∷ [])) (sym m.node) (subst (λ (es : List Event). AreOf j.node (es ++ e ∷ [])) (sym m.events) (are_of_append j.node j.events (e ∷ []) t.own (m.own, tt)));
        newest = m.newest ∙ ap newest_of (sym q);
        installed = m.installed ∙ ap installed_of (sym q);
        came = ap placed_count q ∙ m.came;
        few = omega (arith, longer, same_length, before, after);
        by_lives = ap (λ (es : List Event). is_by_lives 0 (es ++ e ∷ [])) m.events ∙ by_lives_push 0 j.events e t.by_lives m.follow;
        accepted = subst (λ (l : List LogEntry). ServesAreAccepted l) (sym q) (m.accept, t.accepted);
        due = λ h. subst (λ (n : ℕ). MarksAreDue n (past_of rules packets k.node (k.events ++ e ∷ []))) (sym m.ring) (subst (λ (l : List LogEntry). MarksAreDue j.ring l) (sym q) ((m.due h).1, t.due (m.due h).0));
      }
