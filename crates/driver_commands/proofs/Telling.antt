-- What the drivers are told, event by event.
use Rattle.std.proofs.Common.{◌≡◌, ℕ, zero, suc, ◌+◌, ◌<◌, Bool, true, false, List, [], ◌∷◌, ◌++◌, map, length, get_or, set, take, replicate, reverse, refl, sym, ap, ◌∙◌, arith, subst}
use Rattle.std.specs.Prelude.{◌==◌, cond, filter, slice_index_or}
use Rattle.std.proofs.lemmas.Bool.{eqb-true, eqb-false}
use Rattle.std.proofs.lemmas.List.{length-map, get_or-map, ext_get_or, get_or-replicate, length-replicate, length_push, get_or_append_left, get_or-append-add, map-set, map_more, map-append, append_assoc, append-nil}
use Rattle.std.proofs.lemmas.List.Elements.{filter-append}
use Rattle.cluster_node.specs.declared.events.Event.{Event}
use Rattle.cluster_node.specs.declared.events.Event.TheVariants.{Serve}
use Rattle.cluster_node.specs.declared.events.LogEntry.{LogEntry}
use Rattle.cluster_node.specs.Records.{node_of}
use Rattle.thread_records.specs.declared.command.Command.{Command}
use Rattle.thread_records.specs.Histories.{commands_of}
use Rattle.thread_records.proofs.Histories.{commands_append}
use Rattle.cluster_node.specs.declared.packets.Packet.{Packet}
use Rattle.event_trace.specs.declared.steps.ScenarioStep.{ScenarioStep}
use Rattle.spreader.specs.Choices.{Choice}
use Rattle.event_trace.specs.Trace.{Trace}
use Rattle.event_trace.specs.Steps.{world_of, run, start, below}
use Rattle.driver_commands.specs.Noting.{noting}
use Rattle.cluster_core.specs.Cluster.{Behind}
use Rattle.driver_commands.specs.Orders.{commands_on, events_of, orders_in, plan_of}
use Rattle.driver_commands.specs.PrivateTelling.{pushed, Follows}

pub commands_more : (n : ℕ) (es fs : List Event) → commands_on n (es ++ fs) ≡ commands_on n es ++ commands_on n fs
commands_more n es fs = ap commands_of (filter-append (λ (e : Event). node_of e == n) es fs) ∙ commands_append (filter (λ (e : Event). node_of e == n) es) (filter (λ (e : Event). node_of e == n) fs)

-- a serving tells nobody anything
pub no_serve : (n m w v : ℕ) (r : Bool) → commands_on n (Serve m w v r ∷ []) ≡ []
no_serve n m w v r = go (m == n)
  where
    go : (b : Bool) → commands_of (cond b (Serve m w v r ∷ []) []) ≡ []
    go true = refl
    go false = refl

-- one list of those that a list of vectors has, with one more command
pub pushed_at : {V : Type 0} (items : V → List Command) (vs : List V) (m : ℕ) (old new : V) (c : Command) → m < length vs → old ≡ get_or vs m old → items new ≡ items old ++ c ∷ []
    → map items (set vs m new) ≡ pushed m c (map items vs)
pushed_at items vs m old new c h is more =
    map-set items vs m new
    ∙ ap (λ (l : List Command). set (map items vs) m l) (more ∙ ap (λ (l : List Command). l ++ c ∷ []) (ap items is ∙ sym (get_or-map items vs m old [] h)))

-- the numbers below one
pub below_long : (n : ℕ) → length (below n) ≡ n
below_long zero = refl
below_long (suc n) = let e : length (below n ++ n ∷ []) ≡ length (below n) + 1 = length_push (below n) n in let f : length (below n) ≡ n = below_long n in omega arith

below_last : (n k : ℕ) → k < suc n → (k ≡ n → ⊥) → k < n
below_last n k h other = omega (arith, other)

pub below_at : (n k : ℕ) → k < n → get_or (below n) k 0 ≡ k
below_at zero k h = absurd (omega arith)
below_at (suc n) k h = go (k == n) refl (λ lt. below_at n k lt)
  where
    go : (b : Bool) → (k == n) ≡ b → (k < n → get_or (below n) k 0 ≡ k) → get_or (below n ++ n ∷ []) k 0 ≡ k
    go true e earlier =
        let s : k ≡ n = eqb-true k n e in
        let l : length (below n) ≡ n = below_long n in
        let t : k ≡ length (below n) + 0 = omega arith in
        ap (λ (i : ℕ). get_or (below n ++ n ∷ []) i 0) t ∙ get_or-append-add (below n) (n ∷ []) 0 0 ∙ sym s
    go false e earlier =
        let lt : k < n = below_last n k h (eqb-false k n e) in
        let l : length (below n) ≡ n = below_long n in
        get_or_append_left (below n) (n ∷ []) 0 k (omega arith) ∙ earlier lt

pub orders_long : (nodes : ℕ) (es : List Event) → length (orders_in nodes es) ≡ nodes
orders_long nodes es = length-map (below nodes) (λ n. commands_on n es) ∙ below_long nodes

pub orders_at : (nodes n : ℕ) (es : List Event) → n < nodes → slice_index_or (orders_in nodes es) n [] ≡ commands_on n es
orders_at nodes n es h =
    let long : length (below nodes) ≡ nodes = below_long nodes in
    get_or-map (λ (m : ℕ). commands_on m es) (below nodes) n 0 [] (omega arith) ∙ ap (λ (m : ℕ). commands_on m es) (below_at nodes n h)

-- the lists go on with one event
pub orders_more : (nodes : ℕ) (es : List Event) (e : Event) (css : List (List Command)) → Follows e (orders_in nodes es) css → css ≡ orders_in nodes (es ++ e ∷ [])
orders_more nodes es e css f = ext_get_or [] css (orders_in nodes (es ++ e ∷ [])) (f.many ∙ orders_long nodes es ∙ sym (orders_long nodes (es ++ e ∷ []))) each
  where
    each : (n : ℕ) → n < length css → slice_index_or css n [] ≡ slice_index_or (orders_in nodes (es ++ e ∷ [])) n []
    each n lt =
        let many : length css ≡ length (orders_in nodes es) = f.many in
        let long : length (orders_in nodes es) ≡ nodes = orders_long nodes es in
        let there : n < nodes = omega arith in
        f.each n (omega arith)
        ∙ ap (λ (l : List Command). l ++ commands_on n (e ∷ [])) (orders_at nodes n es there)
        ∙ sym (commands_more n es (e ∷ []))
        ∙ sym (orders_at nodes n (es ++ e ∷ []) there)

pub orders_none : (nodes : ℕ) → replicate nodes [] ≡ orders_in nodes []
orders_none nodes = ext_get_or [] (replicate nodes []) (orders_in nodes []) (length-replicate nodes [] ∙ sym (orders_long nodes [])) each
  where
    each : (n : ℕ) → n < length (replicate {A = List Command} nodes []) → slice_index_or (replicate nodes []) n [] ≡ slice_index_or (orders_in nodes []) n []
    each n lt =
        let long : length (replicate {A = List Command} nodes []) ≡ nodes = length-replicate nodes [] in
        get_or-replicate nodes n [] [] (omega arith) ∙ sym (orders_at nodes n [] (omega arith))

-- the lists after one event more behind others
pub history_more : (nodes : ℕ) (es : List Event) (history : List LogEntry) (i : ℕ) (s : LogEntry) (old new : List (List Command)) → i < length history → s ≡ get_or history i s
    → old ≡ orders_in nodes (es ++ map (λ x. x.event) (take i history)) → Follows s.event old new → new ≡ orders_in nodes (es ++ map (λ x. x.event) (take (i + 1) history))
history_more nodes es history i s old new h is so_far f =
    let before : List Event = es ++ map (λ (x : LogEntry). x.event) (take i history) in
    orders_more nodes before s.event new (subst (λ (l : List (List Command)). Follows s.event l new) so_far f)
    ∙ ap (λ (e : Event). orders_in nodes (before ++ e ∷ [])) (ap (λ (x : LogEntry). x.event) is)
    ∙ ap (orders_in nodes) (append_assoc es (map (λ (x : LogEntry). x.event) (take i history)) ((get_or history i s).event ∷ []))
    ∙ ap (λ (l : List Event). orders_in nodes (es ++ l)) (sym (map_more (λ (x : LogEntry). x.event) history i s h))

-- the events of a later record, where these are behind those before
pub events_behind : (c d : Trace) (events : List LogEntry) → Behind (reverse c.past) d.past events → events_of c ++ map (λ x. x.event) events ≡ events_of d
events_behind c d events h = sym (map-append (λ (x : LogEntry). x.event) (reverse c.past) events) ∙ ap (map (λ (x : LogEntry). x.event)) (sym h)

pub none_behind : (past : List LogEntry) → Behind (reverse past) past []
none_behind past = sym (append-nil (reverse past))

-- a run from the start, with the spreader that it was given, is the plan
pub played : {P : Type 0} (choice : P → Choice) (s t : P) (c d : Trace) (packets : List Packet) (steps : List ScenarioStep) (nodes : ℕ) → d ≡ run (world_of noting (choice s) packets) steps c → s ≡ t → c ≡ start nodes → d ≡ plan_of (choice t) packets steps nodes
played choice s t c d packets steps nodes e f h =
    e ∙ ap (λ x. run (world_of noting (choice x) packets) steps c) f ∙ ap (λ (x : Trace). run (world_of noting (choice t) packets) steps x) h
