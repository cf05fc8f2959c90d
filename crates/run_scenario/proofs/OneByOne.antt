-- The nodes' histories, one after another.
use Rattle.std.proofs.Common.{◌≡◌, ℕ, zero, suc, ◌+◌, ◌<◌, ◌≤◌, ◌^◌, Bool, true, false, List, [], ◌∷◌, ◌++◌, length, take, get_or, reverse, Option, Some, None, refl, sym, ap, ◌∙◌, length-append, arith}
use Rattle.std.specs.Prelude.{slice_get, if◌then◌else◌}
use Rattle.std.proofs.lemmas.List.{reverse-append, take_more}
use Rattle.std.proofs.lemmas.Option.{get_or_from_slice_get, slice_get-get_or}
use Rattle.std.proofs.lemmas.List.Elements.{All-nil, All-cons, All-head, All-tail, All-take}
use Rattle.ip_headers.specs.declared.Link.{Link}
use Rattle.pcap_file.specs.Format.{Record}
use Rattle.cluster_node.specs.Rules.{Rules}
use Rattle.cluster_node.specs.declared.packets.Packet.{Packet}
use Rattle.cluster_node.specs.declared.events.Event.{Event}
use Rattle.cluster_node.specs.declared.events.LogEntry.{LogEntry}
use Rattle.cluster_node.specs.declared.outcomes.Outcome.{Outcome}
use Rattle.cluster_core.specs.OutcomeCounts.{how_many}
use Rattle.cluster_core.specs.Runs.{verdicts, say, packet_of}
use Rattle.run_report.specs.Splits.{said_of}
use Rattle.thread_records.specs.declared.command.Command.{Command}
use Rattle.thread_records.specs.declared.nodes.NodeRecord.{NodeRecord}
use Rattle.thread_records.specs.declared.nodes.History.{History}
use Rattle.thread_records.specs.Joins.{all_events, all_outcomes}
use Rattle.thread_records.specs.Runs.{AreRuns, JoinsRuns}
use Rattle.thread_records.proofs.Joins.{events_more, outcomes_more, whole, own, runs_told}
use Rattle.node_threads.specs.declared.cluster.NodesRun.{NodesRun}
use Rattle.scenario.specs.declared.plan.Scenario.{Scenario}
use Rattle.traffic_shares.specs.declared.books.AskedShares.{AskedShares}
use Rattle.json_lines.specs.declared.forms.Form.{Form}
use Rattle.json_lines.specs.Forms.{shares_as}
use Rattle.connection_starts.specs.declared.ordinals.Ordinals.{Ordinals}
use Rattle.run_scenario.specs.Runs.{packets_in, record_with}
use Rattle.run_scenario.specs.Turned.{told_splits, told_summary, told_counts}
use Rattle.run_scenario.specs.PrivateHistories.{AreEven, said_by, said_whole, before_by, behind_by, counts_by}
use Rattle.run_scenario.specs.declared.running.RunOptions.{RunOptions}

-- there is an outcome for each event
verdicts_long : (rules : Rules) (past : List LogEntry) (packets : List Packet) (es : List Event) → length (verdicts rules past packets es) ≡ length es
verdicts_long rules past packets [] = refl
verdicts_long rules past packets (e ∷ es) = ap suc (verdicts_long rules (say rules past e (packet_of packets e) ∷ past) packets es)

pub are_even : (rules : Rules) (packets : List Packet) (ring k : ℕ) (cs : List (List Command)) (rs : List NodeRecord) → AreRuns rules packets ring k cs rs → AreEven rs
are_even rules packets ring k [] [] h = All-nil (λ (r : NodeRecord). length r.outcomes.items ≡ length r.events.items)
are_even rules packets ring k [] (r ∷ rs) h = absurd h
are_even rules packets ring k (c ∷ cs) [] h = absurd h
are_even rules packets ring k (c ∷ cs) (r ∷ rs) h = All-cons (λ (r : NodeRecord). length r.outcomes.items ≡ length r.events.items) r rs
    (ap (λ (os : List Outcome). length os) h.0.told ∙ verdicts_long rules [] packets r.events.items) (are_even rules packets ring (k + 1) cs rs h.1)

pub all_even : (rs : List NodeRecord) → AreEven rs → length (all_outcomes rs) ≡ length (all_events rs)
all_even [] h = refl
all_even (r ∷ rs) h =
    let P : NodeRecord → Type 0 = λ r. length r.outcomes.items ≡ length r.events.items in
    let one : length r.outcomes.items ≡ length r.events.items = All-head P r rs h in
    let rest : length (all_outcomes rs) ≡ length (all_events rs) = all_even rs (All-tail P r rs h) in
    length-append r.outcomes.items (all_outcomes rs) ∙ (let e : length r.outcomes.items + length (all_outcomes rs) ≡ length r.events.items + length (all_events rs) = omega arith in e) ∙ sym (length-append r.events.items (all_events rs))

-- what is said by two histories one after the other
said_append : (es fs : List Event) (os ps : List Outcome) → length os ≡ length es → said_of (es ++ fs) (os ++ ps) ≡ said_of es os ++ said_of fs ps
said_append [] fs [] ps h = refl
said_append [] fs (o ∷ os) ps h = absurd (omega arith)
said_append (e ∷ es) fs [] ps h = absurd (omega arith)
said_append (e ∷ es) fs (o ∷ os) ps h = ap (λ (l : List LogEntry). record { event = e; packet = None; outcome = o } ∷ l) (said_append es fs os ps (omega arith))

take_even : (rs : List NodeRecord) (i : ℕ) → AreEven rs → AreEven (take i rs)
take_even rs i h = All-take (λ (r : NodeRecord). length r.outcomes.items ≡ length r.events.items) i rs h

pub said_more : (rs : List NodeRecord) (i : ℕ) (r : NodeRecord) → i < length rs → r ≡ get_or rs i r → AreEven rs → said_by (take (i + 1) rs) ≡ reverse (said_of r.events.items r.outcomes.items) ++ said_by (take i rs)
said_more rs i r lt is even =
    let es = all_events (take i rs) in
    let os = all_outcomes (take i rs) in
    ap (λ (l : List Event). reverse (said_of l (all_outcomes (take (i + 1) rs)))) (events_more rs i r lt ∙ ap (λ (q : NodeRecord). es ++ q.events.items) (sym is))
    ∙ ap (λ (l : List Outcome). reverse (said_of (es ++ r.events.items) l)) (outcomes_more rs i r lt ∙ ap (λ (q : NodeRecord). os ++ q.outcomes.items) (sym is))
    ∙ ap (λ (l : List LogEntry). reverse l) (said_append es r.events.items os r.outcomes.items (all_even (take i rs) (take_even rs i even)))
    ∙ reverse-append (said_of es os) (said_of r.events.items r.outcomes.items)

-- how many outcomes there are, with one node more, and with all
pub count_more : (rs : List NodeRecord) (i : ℕ) (r : NodeRecord) → i < length rs → r ≡ get_or rs i r → length (all_outcomes (take (i + 1) rs)) ≡ length (all_outcomes (take i rs)) + length r.outcomes.items
count_more rs i r lt is =
    ap (λ (l : List Outcome). length l) (outcomes_more rs i r lt ∙ ap (λ (q : NodeRecord). all_outcomes (take i rs) ++ q.outcomes.items) (sym is)) ∙ length-append (all_outcomes (take i rs)) r.outcomes.items

pub count_within : (rs : List NodeRecord) (n : ℕ) → length (all_outcomes (take n rs)) ≤ length (all_outcomes rs)
count_within rs zero = omega arith
count_within [] (suc n) = omega arith
count_within (r ∷ rs) (suc n) =
    let rest = count_within rs n in
    let front : length (r.outcomes.items ++ all_outcomes (take n rs)) ≡ length r.outcomes.items + length (all_outcomes (take n rs)) = length-append r.outcomes.items (all_outcomes (take n rs)) in
    let all : length (r.outcomes.items ++ all_outcomes rs) ≡ length r.outcomes.items + length (all_outcomes rs) = length-append r.outcomes.items (all_outcomes rs) in
    omega (arith, rest, front, all)

-- how many there are in two lists
pub many_append : (p : Outcome → Bool) (os ps : List Outcome) → how_many p (os ++ ps) ≡ how_many p os + how_many p ps
many_append p [] ps = omega arith
many_append p (o ∷ os) ps = go (p o) (many_append p os ps)
  where
    go : (b : Bool) → how_many p (os ++ ps) ≡ how_many p os + how_many p ps → (if b then 1 + how_many p (os ++ ps) else how_many p (os ++ ps)) ≡ (if b then 1 + how_many p os else how_many p os) + how_many p ps
    go true h = omega arith
    go false h = omega arith

pub many_further : (p : Outcome → Bool) (rs : List NodeRecord) (i : ℕ) (r : NodeRecord) → i < length rs → r ≡ get_or rs i r → how_many p (all_outcomes (take (i + 1) rs)) ≡ how_many p (all_outcomes (take i rs)) + how_many p r.outcomes.items
many_further p rs i r lt is =
    ap (λ (l : List Outcome). how_many p l) (outcomes_more rs i r lt ∙ ap (λ (q : NodeRecord). all_outcomes (take i rs) ++ q.outcomes.items) (sym is)) ∙ many_append p (all_outcomes (take i rs)) r.outcomes.items

pub many_more : (p : Outcome → Bool) (os : List Outcome) (i : ℕ) (o : Outcome) (b : Bool) → i < length os → o ≡ get_or os i o → p o ≡ b → how_many p (take (i + 1) os) ≡ how_many p (take i os) + (if b then 1 else 0)
many_more p os i o b lt is t =
    ap (how_many p) (take_more os i o lt ∙ ap (λ (q : Outcome). take i os ++ q ∷ []) (sym is)) ∙ many_append p (take i os) (o ∷ []) ∙ ap (λ (n : ℕ). how_many p (take i os) + n) (ap (λ (c : Bool). if c then 1 + 0 else 0) t ∙ one b)
  where
    one : (c : Bool) → (if c then 1 + 0 else 0) ≡ (if c then 1 else 0)
    one true = refl
    one false = refl

-- the same where it is known what stands at the place
pub many_at : (p : Outcome → Bool) (os : List Outcome) (i : ℕ) (d : Outcome) (b : Bool) → i < length os → ((o : Outcome) → slice_get os i ≡ Some o → b ≡ p o) → how_many p (take (i + 1) os) ≡ how_many p (take i os) + (if b then 1 else 0)
many_at p os i d b lt is =
    let there = slice_get-get_or os i d lt in
    many_more p os i (get_or os i d) b lt (sym (get_or_from_slice_get os i (get_or os i d) (get_or os i d) there)) (sym (is (get_or os i d) there))

-- one history of all nodes, of which no list was made: its lists would stand where that of the nodes does
unfoldable pub history_of : (run : NodesRun) → AreEven run.nodes.items → length (all_outcomes run.nodes.items) < 2 ^ 63 → History
history_of run even few =
    let rs = run.nodes.items in
    record {
      events = record { ptr = run.nodes.ptr; len = length (all_events rs); cap = length (all_events rs); alloc = run.nodes.alloc; items = all_events rs; ok = (refl, omega arith); small = (let e = all_even rs even in omega (arith, few, e)) };
      outcomes = record { ptr = run.nodes.ptr; len = length (all_outcomes rs); cap = length (all_outcomes rs); alloc = run.nodes.alloc; items = all_outcomes rs; ok = (refl, omega arith); small = few };
    }

pub joins : (rules : Rules) (packets : List Packet) (ring : ℕ) (cs : List (List Command)) (run : NodesRun) (even : AreEven run.nodes.items) (few : length (all_outcomes run.nodes.items) < 2 ^ 63) → AreRuns rules packets ring 0 cs run.nodes.items → JoinsRuns rules packets run.nodes.items (history_of run even few)
unfolding history_of
joins rules packets ring cs run even few runs =
    let rs = run.nodes.items in
    let told = runs_told rules packets ring 0 cs rs runs in
    record { events = refl; outcomes = refl; told = whole rules packets rs told; own = λ n r h. own rules packets rs n r told h }

pub same_splits : (turns : Option Ordinals) (form : Form) (places splits : Bool) (s : Scenario) (packets : List Packet) (run : NodesRun) (even : AreEven run.nodes.items) (few : length (all_outcomes run.nodes.items) < 2 ^ 63)
    → before_by turns form places splits s packets run.nodes.items ≡ told_splits turns form places splits s packets (history_of run even few)
unfolding history_of
same_splits None form true splits s packets run even few = refl
same_splits None form false true s packets run even few = refl
same_splits None form false false s packets run even few = refl
same_splits (Some o) form places splits s packets run even few = refl

pub same_summary : (turns : Option Ordinals) (form : Form) (b : Bool) (s : Scenario) (packets : List Packet) (run : NodesRun) (even : AreEven run.nodes.items) (few : length (all_outcomes run.nodes.items) < 2 ^ 63)
    → behind_by turns form b s packets run.nodes.items ≡ told_summary turns form b s packets (history_of run even few)
unfolding history_of
same_summary None form true s packets run even few = refl
same_summary None form false s packets run even few = refl
same_summary (Some o) form b s packets run even few = refl

pub same_shares : (form : Form) (asked : AskedShares) (packets : List Packet) (run : NodesRun) (even : AreEven run.nodes.items) (few : length (all_outcomes run.nodes.items) < 2 ^ 63)
    → shares_as form asked (said_whole packets run.nodes.items) ≡ shares_as form asked (record_with packets (history_of run even few))
unfolding history_of
same_shares form asked packets run even few = refl

pub same_counts : (turns : Option Ordinals) (options : RunOptions) (s : Scenario) (link : Link) (records : List Record) (run : NodesRun) (even : AreEven run.nodes.items) (few : length (all_outcomes run.nodes.items) < 2 ^ 63)
    → counts_by turns options (packets_in s link records) run.nodes.items ≡ told_counts turns s options link records (history_of run even few)
unfolding history_of
same_counts None options s link records run even few = refl
same_counts (Some o) options s link records run even few = refl

pub same_outcomes : (run : NodesRun) (even : AreEven run.nodes.items) (few : length (all_outcomes run.nodes.items) < 2 ^ 63) → all_outcomes run.nodes.items ≡ (history_of run even few).outcomes.items
unfolding history_of
same_outcomes run even few = refl
