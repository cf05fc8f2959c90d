-- What the nodes sent, where no step reads another record than the first ones, is what was sent of all records.
use Rattle.std.proofs.Common.{◌≡◌, ◌<◌, ℕ, ◌+◌, List, [], ◌∷◌, ◌++◌, map, refl, sym, ap, ◌∙◌, subst, Option}
use Rattle.std.specs.Prelude.{All, slice_get}
use Rattle.std.specs.Global.{Vec}
use Rattle.std.proofs.lemmas.List.Elements.{All-head, All-tail}
use Rattle.pool_versions.specs.declared.backend.Backend.{Backend}
use Rattle.cluster_node.specs.Rules.{Rules}
use Rattle.cluster_node.specs.declared.packets.Packet.{Packet}
use Rattle.cluster_node.specs.declared.events.Event.{Event}
use Rattle.cluster_node.specs.declared.events.Event.TheVariants.{Install, Arrive, Serve, Restart}
use Rattle.cluster_node.specs.declared.events.LogEntry.{LogEntry}
use Rattle.cluster_node.specs.declared.outcomes.Outcome.{Outcome}
use Rattle.cluster_node.specs.declared.outcomes.Outcome.TheVariants.{Installed, Placed, Forward, Dropped, Restarted, Refused}
use Rattle.cluster_core.specs.Runs.{packet_of}
use Rattle.thread_records.specs.declared.command.Command.{Command}
use Rattle.thread_records.specs.declared.command.Command.TheVariants as commands
use Rattle.thread_records.specs.declared.nodes.NodeRecord.{NodeRecord}
use Rattle.thread_records.specs.Histories.{commands_of}
use Rattle.thread_records.specs.Runs.{AreRuns}
use Rattle.driver_commands.specs.Orders.{IsThere}
use Rattle.simulation.specs.Sent.{Traffic, Sending, sent_by, sent_at}
use Rattle.run_scenario.specs.Runs.{said_with}
use Rattle.run_records.specs.Sends.{sent_of, sent_by_lives, sent_by_nodes}
use Rattle.run_scenario.proofs.Below.{IsBelow, AreBelow, AllArriveBelow, verdicts_below}
use Rattle.run_scenario.proofs.Gathered.{ListsBelow, gathered_below}
use Rattle.run_scenario.proofs.Offered.{NameAlike, commands_there}

arrive_below : (m : ℕ) (es : List Event) → All (IsThere m) (commands_of es) → AllArriveBelow m es
arrive_below m [] h = tt
arrive_below m (Install n v ∷ es) h = (tt, arrive_below m es (All-tail (IsThere m) (commands.Publish v) (commands_of es) h))
arrive_below m (Arrive n k marks ∷ es) h = (All-head (IsThere m) (commands.Offer k) (commands_of es) h, arrive_below m es (All-tail (IsThere m) (commands.Offer k) (commands_of es) h))
arrive_below m (Serve n w v r ∷ es) h = (tt, arrive_below m es h)
arrive_below m (Restart n ∷ es) h = (tt, arrive_below m es (All-tail (IsThere m) commands.Restart (commands_of es) h))

-- what is said with the packets of arrivals
pub said_alike : (few all : List Packet) (es : List Event) (os : List Outcome) → NameAlike few all es → said_with few es os ≡ said_with all es os
said_alike few all [] os h = refl
said_alike few all (e ∷ es) [] h = refl
said_alike few all (e ∷ es) (o ∷ os) h =
    ap (λ (x : Option Packet). record { event = e; packet = x; outcome = o } ∷ said_with few es os) h.0
    ∙ ap (λ (l : List LogEntry). record { event = e; packet = packet_of all e; outcome = o } ∷ l) (said_alike few all es os h.1)

module _ (t u : Traffic) (m : ℕ) (same : (n k : ℕ) (b : Backend) → k < m → sent_at t n b (slice_get t.records k) ≡ sent_at u n b (slice_get u.records k)) where
  outcome_alike : (o : Outcome) → IsBelow m o → sent_by t o ≡ sent_by u o
  unfolding sent_by
  outcome_alike Installed h = refl
  outcome_alike (Placed w f) h = refl
  outcome_alike (Forward n w k x b v) h = same n k b h
  outcome_alike (Dropped k c) h = refl
  outcome_alike (Restarted l) h = refl
  outcome_alike (Refused r) h = refl

  sent_alike : (os : List Outcome) → AreBelow m os → sent_of t os ≡ sent_of u os
  sent_alike [] h = refl
  sent_alike (o ∷ os) h = ap (λ (l : List Sending). l ++ sent_of t os) (outcome_alike o h.0) ∙ ap (λ (l : List Sending). sent_by u o ++ l) (sent_alike os h.1)

  lives_alike : (lives : List (Vec Outcome)) → ListsBelow m (map (λ v. v.items) lives) → sent_by_lives t lives ≡ sent_by_lives u lives
  lives_alike [] h = refl
  lives_alike (v ∷ vs) h = ap (λ (l : List Sending). l ++ sent_by_lives t vs) (sent_alike v.items h.0) ∙ ap (λ (l : List Sending). sent_of u v.items ++ l) (lives_alike vs h.1)

  -- of runs that offer no others
  pub nodes_alike : (rules : Rules) (packets : List Packet) (ring k : ℕ) (css : List (List Command)) (rs : List NodeRecord) → All (λ cs. All (IsThere m) cs) css → AreRuns rules packets ring k css rs → sent_by_nodes t rs ≡ sent_by_nodes u rs
  nodes_alike rules packets ring k [] [] there runs = refl
  nodes_alike rules packets ring k [] (r ∷ rs) there runs = absurd runs
  nodes_alike rules packets ring k (cs ∷ css) [] there runs = absurd runs
  nodes_alike rules packets ring k (cs ∷ css) (r ∷ rs) there runs =
      let here = All-head (λ l. All (IsThere m) l) cs css there in
      let arrives : AllArriveBelow m r.events.items = arrive_below m r.events.items (commands_there rules m k ring packets cs r runs.0 here) in
      let below : AreBelow m r.outcomes.items = subst (λ (os : List Outcome). AreBelow m os) (sym runs.0.told) (verdicts_below m rules [] packets r.events.items tt arrives) in
      let own : sent_by_lives t r.sent.items ≡ sent_by_lives u r.sent.items = lives_alike r.sent.items (gathered_below m (map (λ v. v.items) r.sent.items) r.outcomes.items runs.0.merged below) in
      ap (λ (l : List Sending). l ++ sent_by_nodes t rs) own
      ∙ ap (λ (l : List Sending). sent_by_lives u r.sent.items ++ l) (nodes_alike rules packets ring (k + 1) css rs (All-tail (λ l. All (IsThere m) l) cs css there) runs.1)
