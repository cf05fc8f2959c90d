-- Each packet that is offered is of a record that was read.
use Rattle.std.proofs.Common.{◌≡◌, ℕ, zero, suc, Bool, true, false, List, [], ◌∷◌, map, length, Option, sym, arith, subst}
use Rattle.std.specs.Prelude.{◌==◌, cond, drop, slice_index_or, All}
use Rattle.std.proofs.lemmas.List.{length-map, get_or-map}
use Rattle.std.proofs.lemmas.List.Elements.{All-append, All-map, All-cons, All-head, All-tail}
use Rattle.cluster_node.specs.declared.packets.Packet.{Packet}
use Rattle.cluster_node.specs.declared.events.Event.{Event}
use Rattle.cluster_node.specs.declared.events.Event.TheVariants.{Install, Arrive, Serve, Restart}
use Rattle.cluster_node.specs.declared.events.LogEntry.{LogEntry}
use Rattle.cluster_node.specs.Records.{node_of}
use Rattle.thread_records.specs.declared.command.Command.{Command}
use Rattle.thread_records.specs.declared.command.Command.TheVariants.{Publish, Offer}
use Rattle.thread_records.specs.declared.command.Command.TheVariants as commands
use Rattle.thread_records.specs.Losses.{ending}
use Rattle.thread_records.specs.Histories.{commands_of}
use Rattle.spreader.specs.Choices.{Choice}
use Rattle.event_trace.specs.declared.steps.ScenarioStep.{ScenarioStep}
use Rattle.event_trace.specs.Sums.{IsOfRecord, AreOfRecords}
use Rattle.event_trace.specs.Steps.{world_of, below}
use Rattle.event_trace.proofs.Adding.{traces_add_up}
use Rattle.event_trace.specs.Trace.{Trace}
use Rattle.driver_commands.specs.Noting.{noting}
use Rattle.driver_commands.specs.Orders.{commands_on, plan_of, ended_by, orders_on, orders_of, IsThere}
use Rattle.driver_commands.proofs.Alike.{told_to, told_more}

none_there : (read : ℕ) → All (IsThere read) []
none_there read k d h = absurd (omega (arith, h))

one_there : (read : ℕ) (c : Command) → IsThere read c → All (IsThere read) (c ∷ [])
one_there read c i zero d h = i
one_there read c i (suc k) d h = absurd (omega (arith, h))

event_there : (packets : List Packet) (read : ℕ) (e : Event) (p : Option Packet) → IsOfRecord packets read e p → All (IsThere read) (commands_of (e ∷ []))
event_there packets read (Install n v) p h = one_there read _ tt
event_there packets read (Arrive n k marks) p h = one_there read _ h.0
event_there packets read (Serve n w v r) p h = none_there read
event_there packets read (Restart n) p h = one_there read _ tt

on_there : (packets : List Packet) (read n : ℕ) (e : Event) (p : Option Packet) → IsOfRecord packets read e p → All (IsThere read) (commands_on n (e ∷ []))
on_there packets read n e p h = go (node_of e == n)
  where
    go : (b : Bool) → All (IsThere read) (commands_of (cond b (e ∷ []) []))
    go true = event_there packets read e p h
    go false = none_there read

told_there : (packets : List Packet) (read n : ℕ) (past : List LogEntry) → AreOfRecords packets read past → All (IsThere read) (told_to n past)
told_there packets read n [] h = none_there read
told_there packets read n (s ∷ past) h =
    subst (λ (cs : List Command). All (IsThere read) cs) (sym (told_more n s past))
    (All-append (IsThere read) (told_to n past) (commands_on n (s.event ∷ [])) (told_there packets read n past h.1) (on_there packets read n s.event s.packet h.0))

ending_there : (read : ℕ) (d : Bool) → IsThere read (ending d)
ending_there read true = tt
ending_there read false = tt

-- however lives end
ended_there : (read : ℕ) (ds : List Bool) (cs : List Command) → All (IsThere read) cs → All (IsThere read) (ended_by ds cs)
ended_there read ds [] h = none_there read
ended_there read ds (Publish v ∷ cs) h = All-cons (IsThere read) (Publish v) (ended_by ds cs) tt (ended_there read ds cs (All-tail (IsThere read) (Publish v) cs h))
ended_there read ds (Offer k ∷ cs) h = All-cons (IsThere read) (Offer k) (ended_by ds cs) (All-head (IsThere read) (Offer k) cs h) (ended_there read ds cs (All-tail (IsThere read) (Offer k) cs h))
ended_there read ds (commands.Restart ∷ cs) h =
    All-cons (IsThere read) (ending (slice_index_or ds 0 true)) (ended_by (drop 1 ds) cs) (ending_there read (slice_index_or ds 0 true)) (ended_there read (drop 1 ds) cs (All-tail (IsThere read) commands.Restart cs h))
ended_there read ds (commands.Stop ∷ cs) h =
    All-cons (IsThere read) (ending (slice_index_or ds 0 true)) (ended_by (drop 1 ds) cs) (ending_there read (slice_index_or ds 0 true)) (ended_there read (drop 1 ds) cs (All-tail (IsThere read) commands.Stop cs h))

orders_there : (packets : List Packet) (read : ℕ) (choice : Choice) (ss : List ScenarioStep) (nodes : ℕ) → AreOfRecords packets read (plan_of choice packets ss nodes).past → All (All (IsThere read)) (orders_of choice packets ss nodes)
orders_there packets read choice ss nodes h =
    All-map (All (IsThere read)) (orders_on choice packets ss nodes) (below nodes) (λ k d lt. ended_there read _ _ (told_there packets read _ (plan_of choice packets ss nodes).past h))

-- of all that are made from some, of these
all_of : {V : Type 0} (items : V → List Command) (P : List Command → Type 0) (vs : List V) → All P (map items vs) → All (λ v. P (items v)) vs
all_of items P vs h k d lt = subst P (get_or-map items vs k d (items d) lt) (h k (items d) (let e : length (map items vs) ≡ length vs = length-map vs items in omega arith))

pub told_are_there : {V : Type 0} (items : V → List Command) (choice : Choice) (packets : List Packet) (ss : List ScenarioStep) (nodes : ℕ) (vs : List V) → map items vs ≡ orders_of choice packets ss nodes
    → All (λ v. All (IsThere (plan_of choice packets ss nodes).read) (items v)) vs
told_are_there items choice packets ss nodes vs e =
    let c : Trace = plan_of choice packets ss nodes in
    all_of items (All (IsThere c.read)) vs
    (subst (λ (css : List (List Command)). All (All (IsThere c.read)) css) (sym e) (orders_there packets c.read choice ss nodes (traces_add_up (world_of noting choice packets) ss nodes).1.records))
