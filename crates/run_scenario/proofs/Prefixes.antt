-- What is told of the first records of a capture, where the steps read no others, is told of all.
use Rattle.std.proofs.Common.{◌≡◌, ◌≤◌, ◌<◌, ◌⊎◌, inl, inr, ℕ, ◌+◌, ◌-◌, ◌^◌, Bool, true, false, List, [], ◌∷◌, ◌++◌, length, map, take, get_or, refl, sym, ap, ◌∙◌, subst, arith, take_at, append-nil}
use Rattle.std.specs.Prelude.{All, slice_index_or, nat_lt, if◌then◌else◌}
use Rattle.std.specs.List.{list_any, sum_by}
use Rattle.std.proofs.lemmas.List.{length-map, map-append, map-id, take_more}
use Rattle.std.proofs.lemmas.Bool.{lt-ltb, le-ltb}
use Rattle.std.proofs.lemmas.List.Sums.{sum_by-append, sum_by-take-drop, sum_by-cons}
use Rattle.ip_headers.specs.declared.Link.{Link}
use Rattle.pcap_file.specs.Format.{Record}
use Rattle.cluster_node.specs.declared.packets.Packet.{Packet}
use Rattle.spreader.specs.Choices.{Choice}
use Rattle.event_trace.specs.declared.steps.ScenarioStep.{ScenarioStep}
use Rattle.event_trace.specs.Trace.{Trace}
use Rattle.event_trace.specs.Steps.{world_of, below, start}
use Rattle.event_trace.specs.Tally.{tally_of}
use Rattle.event_trace.proofs.Adding.{traces_add_up}
use Rattle.timed_steps.specs.declared.TimedStep.{TimedStep}
use Rattle.timed_steps.specs.declared.TimedStep.TheVariants.{Counted, Until}
use Rattle.timed_steps.specs.Laws.{is_until}
use Rattle.timed_steps.specs.Timed.{reads, counted, counted_from, first_of}
use Rattle.timed_steps.proofs.Timing.{asks_none}
use Rattle.driver_commands.specs.Noting.{noting}
use Rattle.driver_commands.specs.Orders.{plan_of, orders_of, commands_on, events_of, ended_by, ends_on, IsThere}
use Rattle.driver_commands.proofs.Offered.{told_are_there}
use Rattle.thread_records.specs.declared.command.Command.{Command}
use Rattle.thread_records.specs.declared.command.Command.TheVariants as commands
use Rattle.simulation.specs.Sent.{time_of, packets_of}
use Rattle.run_records.specs.Firsts.{IsSplit}
use Rattle.run_scenario.specs.PrivateFirsts.{may_read, kept_for, with_others, Settle}
use Rattle.run_scenario.proofs.Planned.{reads_all, run_first}
use Rattle.run_scenario.proofs.Enough.{settled_same, settled_within}

-- so many are no more than may be kept of any capture
few_read : (ss : List TimedStep) (k : ℕ) → k ≤ 1000000000 → kept_for ss ≤ k → sum_by may_read ss ≤ k
few_read ss k low h = go (nat_lt (sum_by may_read ss) (2 ^ 64)) h
  where
    go : (b : Bool) → (if b then sum_by may_read ss else 2 ^ 64 - 1) ≤ k → sum_by may_read ss ≤ k
    go true i = i
    go false i = absurd (omega (arith, i, low))

no_until : (ss : List TimedStep) → sum_by may_read ss ≤ 1000000000 → list_any is_until ss ≡ false
no_until [] h = refl
no_until (Counted s ∷ ss) h = no_until ss (omega (arith, h, sum_by-cons may_read (Counted s) ss))
no_until (Until end ∷ ss) h = absurd (omega (arith, h, sum_by-cons may_read (Until end) ss))

reads_counted : (first : ℕ) (left : List ℕ) (ss : List TimedStep) → sum_by may_read ss ≤ 1000000000 → reads_all (counted_from first left ss) ≡ sum_by may_read ss
reads_counted first left [] h = refl
reads_counted first left (Counted s ∷ ss) h = ap (λ (n : ℕ). reads s + n) (reads_counted first _ ss (omega (arith, h, sum_by-cons may_read (Counted s) ss))) ∙ sym (sum_by-cons may_read (Counted s) ss)
reads_counted first left (Until end ∷ ss) h = absurd (omega (arith, h, sum_by-cons may_read (Until end) ss))

-- the steps are the same over the first records, and read no others
pub record ReadFirst (ss : List TimedStep) (kept all : List Record) : Type 0 where
  pub steps : counted (map time_of kept) ss ≡ counted (map time_of all) ss
  pub within : (kept ≡ all) ⊎ (reads_all (counted (map time_of all) ss) ≤ length kept)

pub read_first : (ss : List TimedStep) (all kept : List Record) (others : ℕ) → length kept + others ≤ 1000000000 → IsSplit (Settle ss) (kept_for ss) all kept others → ReadFirst ss kept all
read_first ss all kept others low split = elim split.full [
  | inl none ↦
      let same : kept ≡ all = sym (split.is ∙ ap (λ (l : List Record). kept ++ l) none ∙ append-nil kept) in
      record { steps = ap (λ (l : List Record). counted (map time_of l) ss) same; within = inl same }
  | inr enough ↦ elim enough [
    | inl full ↦
        let read : sum_by may_read ss ≤ length kept = few_read ss (length kept) (omega (arith, low)) full in
        record {
          steps = asks_none (first_of (map time_of kept)) (first_of (map time_of all)) (map time_of kept) (map time_of all) ss (no_until ss (omega (arith, read, low)));
          within = inr (omega (arith, read, reads_counted (first_of (map time_of all)) (map time_of all) ss (omega (arith, read, low))));
        }
    | inr settle ↦
        let times : map time_of all ≡ map time_of kept ++ map time_of split.rest = ap (λ (l : List Record). map time_of l) split.is ∙ map-append time_of kept split.rest in
        let within : reads_all (counted (map time_of all) ss) ≤ length (map time_of kept) =
        subst (λ (l : List ℕ). reads_all (counted l ss) ≤ length (map time_of kept)) (sym times) (settled_within (map time_of kept) (map time_of split.rest) ss settle) in
        record {
          steps = sym (ap (λ (l : List ℕ). counted l ss) times ∙ settled_same (map time_of kept) (map time_of split.rest) ss settle);
          within = inr (omega (arith, within, length-map kept time_of));
        }
  ]
]

-- the packets of the first records are the first packets
pub packets_first : (Settled : List Record → Type 0) (link : Link) (check : Bool) (all kept : List Record) (limit others : ℕ) → IsSplit Settled limit all kept others → packets_of link check kept ≡ take (length kept) (packets_of link check all)
packets_first Settled link check all kept limit others split =
    sym (ap (λ (l : List Record). take (length kept) (packets_of link check l)) split.is
    ∙ ap (λ (l : List Packet). take (length kept) l) (map-append _ kept split.rest)
    ∙ take_at (packets_of link check kept) (packets_of link check split.rest) (length kept) (length-map kept _))

-- steps that read no others have the same trace over them
pub plan_first : (choice : Choice) (all : List Packet) (b nodes : ℕ) (ss : List ScenarioStep) → (take b all ≡ all) ⊎ (reads_all ss ≤ b) → plan_of choice (take b all) ss nodes ≡ plan_of choice all ss nodes
plan_first choice all b nodes ss within = elim within [
  | inl same ↦ ap (λ (l : List Packet). plan_of choice l ss nodes) same
  | inr few ↦ run_first noting choice b all ss (start nodes) (omega (arith, few))
]

-- and tell the nodes the same
pub orders_first : (choice : Choice) (few all : List Packet) (nodes : ℕ) (ss : List ScenarioStep) → plan_of choice few ss nodes ≡ plan_of choice all ss nodes → orders_of choice few ss nodes ≡ orders_of choice all ss nodes
orders_first choice few all nodes ss same = ap (λ (c : Trace). map (λ n. ended_by (ends_on n ss) (commands_on n (events_of c))) (below nodes)) same

later : (m n : ℕ) → m ≤ n → (cs : List Command) → All (IsThere m) cs → All (IsThere n) cs
later m n low cs h k d lt = one (slice_index_or cs k d) (h k d lt)
  where
    one : (c : Command) → IsThere m c → IsThere n c
    one (commands.Publish v) i = tt
    one (commands.Offer j) i = omega (arith, i, low)
    one commands.Restart i = tt
    one commands.Stop i = tt

-- they offer no others
pub offered_first : (choice : Choice) (packets : List Packet) (nodes : ℕ) (ss : List ScenarioStep) → All (λ cs. All (IsThere (length packets)) cs) (orders_of choice packets ss nodes)
offered_first choice packets nodes ss =
    let told = told_are_there (λ cs. cs) choice packets ss nodes (orders_of choice packets ss nodes) (map-id (orders_of choice packets ss nodes)) in
    let low : (plan_of choice packets ss nodes).read ≤ length packets = (traces_add_up (world_of noting choice packets) ss nodes).1.few in
    λ k d lt. later (plan_of choice packets ss nodes).read (length packets) low (slice_index_or (orders_of choice packets ss nodes) k d) (told k d lt)

-- what becomes of the records, with those that no step reads
pub tally_first : (choice : Choice) (few all : List Packet) (nodes others : ℕ) (ss : List ScenarioStep) → length all ≡ length few + others → plan_of choice few ss nodes ≡ plan_of choice all ss nodes
    → with_others others (tally_of (length few) (plan_of choice few ss nodes)) ≡ tally_of (length all) (plan_of choice all ss nodes)
tally_first choice few all nodes others ss many same =
    let low : (plan_of choice few ss nodes).read ≤ length few = (traces_add_up (world_of noting choice few) ss nodes).1.few in
    let c : Trace = plan_of choice few ss nodes in
    let left : (length few - c.read) + others ≡ length all - c.read = omega (arith, low, many) in
    ap (λ (n : ℕ). record { packets = n; lost = c.lost; unrouted = c.unrouted; skipped = c.skipped; left = (length few - c.read) + others }) (sym many)
    ∙ ap (λ (n : ℕ). record { packets = length all; lost = c.lost; unrouted = c.unrouted; skipped = c.skipped; left = n }) left
    ∙ ap (λ (d : Trace). tally_of (length all) d) same

-- how many the steps so far may read, and one step more
pub total_more : (ss : List TimedStep) (i : ℕ) (s : TimedStep) → i < length ss → s ≡ get_or ss i s → sum_by may_read (take i ss) + may_read s ≡ sum_by may_read (take (i + 1) ss)
total_more ss i s lt is =
    let one : sum_by may_read (s ∷ []) ≡ may_read s = omega (arith, sum_by-cons may_read s []) in
    let both : sum_by may_read (take i ss ++ s ∷ []) ≡ sum_by may_read (take i ss) + sum_by may_read (s ∷ []) = sum_by-append may_read (take i ss) (s ∷ []) in
    let front : take (i + 1) ss ≡ take i ss ++ s ∷ [] = take_more ss i s lt ∙ ap (λ (t : TimedStep). take i ss ++ t ∷ []) (sym is) in
    omega (arith, one, both, ap (λ (l : List TimedStep). sum_by may_read l) front)

pub kept_whole : (ss : List TimedStep) → sum_by may_read ss < 2 ^ 64 → sum_by may_read ss ≡ kept_for ss
kept_whole ss low = ap (λ (b : Bool). if b then sum_by may_read ss else 2 ^ 64 - 1) (sym (lt-ltb (sum_by may_read ss) (2 ^ 64) low))

pub kept_over : (ss : List TimedStep) (i : ℕ) → 2 ^ 64 ≤ sum_by may_read (take i ss) → 2 ^ 64 - 1 ≡ kept_for ss
kept_over ss i high = ap (λ (b : Bool). if b then sum_by may_read ss else 2 ^ 64 - 1) (sym (le-ltb (sum_by may_read ss) (2 ^ 64) (omega (arith, high, sum_by-take-drop may_read ss i))))
