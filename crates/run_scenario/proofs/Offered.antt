-- A run over the first records of a capture, which offers no others, is a run over all of them.
use Rattle.std.proofs.Common.{◌≡◌, ◌<◌, ℕ, zero, suc, ◌+◌, List, [], ◌∷◌, ◌++◌, length, map, take, Option, refl, sym, ap, ◌∙◌, subst, arith}
use Rattle.std.specs.Prelude.{All, slice_get}
use Rattle.std.proofs.lemmas.List.Elements.{All-head, All-tail, All-cons, All-nil}
use Rattle.cluster_node.specs.Rules.{Rules}
use Rattle.cluster_node.specs.declared.packets.Packet.{Packet}
use Rattle.cluster_node.specs.declared.events.Event.{Event}
use Rattle.cluster_node.specs.declared.events.Event.TheVariants.{Install, Arrive, Serve, Restart}
use Rattle.cluster_node.specs.declared.events.LogEntry.{LogEntry}
use Rattle.cluster_node.specs.declared.outcomes.Outcome.{Outcome}
use Rattle.cluster_node.specs.Records.{of_node}
use Rattle.cluster_core.specs.Runs.{verdict, verdicts, packet_of, say}
use Rattle.thread_records.specs.declared.command.Command.{Command}
use Rattle.thread_records.specs.declared.command.Command.TheVariants as commands
use Rattle.thread_records.specs.declared.nodes.NodeRecord.{NodeRecord}
use Rattle.thread_records.specs.Histories.{said_on, past_of, commands_of, ServesAreAccepted, MarksAreDue, NoneWaits}
use Rattle.thread_records.specs.Losses.{as_written}
use Rattle.thread_records.specs.Joins.{all_events}
use Rattle.thread_records.specs.Runs.{IsRunOf, AreRuns}
use Rattle.driver_commands.specs.Orders.{IsThere}

-- these events name the same packets of both
abbrev pub NameAlike : List Packet → List Packet → List Event → Type 0
NameAlike few all [] = Unit {0}
NameAlike few all (e ∷ es) = (packet_of few e ≡ packet_of all e) × NameAlike few all es

pub seen_first : {X : Type 0} (b k : ℕ) (xs : List X) → k < length (take b xs) → slice_get (take b xs) k ≡ slice_get xs k
seen_first zero k xs h = absurd (omega (arith, h))
seen_first (suc b) k [] h = absurd (omega (arith, h))
seen_first (suc b) zero (x ∷ xs) h = refl
seen_first (suc b) (suc k) (x ∷ xs) h = seen_first b k xs (omega (arith, h))

named : (b : ℕ) (all : List Packet) (es : List Event) → All (IsThere (length (take b all))) (commands_of es) → NameAlike (take b all) all es
named b all [] h = tt
named b all (Install n v ∷ es) h = (refl, named b all es (All-tail (IsThere (length (take b all))) (commands.Publish v) (commands_of es) h))
named b all (Arrive n k marks ∷ es) h = (seen_first b k all (All-head (IsThere (length (take b all))) (commands.Offer k) (commands_of es) h), named b all es (All-tail (IsThere (length (take b all))) (commands.Offer k) (commands_of es) h))
named b all (Serve n w v r ∷ es) h = (refl, named b all es h)
named b all (Restart n ∷ es) h = (refl, named b all es (All-tail (IsThere (length (take b all))) commands.Restart (commands_of es) h))

written_there : (m : ℕ) (cs : List Command) → All (IsThere m) cs → All (IsThere m) (map as_written cs)
written_there m [] h = All-nil (IsThere m)
written_there m (c ∷ cs) h = All-cons (IsThere m) (as_written c) (map as_written cs) (one c (All-head (IsThere m) c cs h)) (written_there m cs (All-tail (IsThere m) c cs h))
  where
    one : (c : Command) → IsThere m c → IsThere m (as_written c)
    one (commands.Publish v) i = tt
    one (commands.Offer k) i = i
    one commands.Restart i = tt
    one commands.Stop i = tt

-- the commands of a run's history offer no others
pub commands_there : (rules : Rules) (m n ring : ℕ) (packets : List Packet) (cs : List Command) (r : NodeRecord) → IsRunOf rules packets n ring cs r → All (IsThere m) cs → All (IsThere m) (commands_of r.events.items)
commands_there rules m n ring packets cs r run there = subst (λ (l : List Command). All (IsThere m) l) (sym run.obeyed) (written_there m cs there)

run_names : (rules : Rules) (b n ring : ℕ) (all : List Packet) (cs : List Command) (r : NodeRecord) → IsRunOf rules (take b all) n ring cs r → All (IsThere (length (take b all))) cs → NameAlike (take b all) all r.events.items
run_names rules b n ring all cs r run there = named b all r.events.items (commands_there rules (length (take b all)) n ring (take b all) cs r run there)

module _ (rules : Rules) (few all : List Packet) where
  verdicts_same : (past : List LogEntry) (es : List Event) → NameAlike few all es → verdicts rules past few es ≡ verdicts rules past all es
  verdicts_same past [] h = refl
  verdicts_same past (e ∷ es) h =
      ap (λ (x : Option Packet). verdict rules past e x ∷ verdicts rules (say rules past e x ∷ past) few es) h.0
      ∙ ap (λ (os : List Outcome). verdict rules past e (packet_of all e) ∷ os) (verdicts_same (say rules past e (packet_of all e) ∷ past) es h.1)

  said_same : (past : List LogEntry) (es : List Event) → NameAlike few all es → said_on rules past few es ≡ said_on rules past all es
  said_same past [] h = refl
  said_same past (e ∷ es) h =
      ap (λ (x : Option Packet). said_on rules (say rules past e x ∷ past) few es) h.0
      ∙ said_same (say rules past e (packet_of all e) ∷ past) es h.1

  run_same : (n ring : ℕ) (cs : List Command) (r : NodeRecord) → NameAlike few all r.events.items → IsRunOf rules few n ring cs r → IsRunOf rules all n ring cs r
  run_same n ring cs r alike run =
      let past : past_of rules few n r.events.items ≡ past_of rules all n r.events.items = ap (λ (l : List LogEntry). of_node n l) (said_same [] r.events.items alike) in
      record {
        own = run.own;
        obeyed = run.obeyed;
        by_lives = run.by_lives;
        told = run.told ∙ verdicts_same [] r.events.items alike;
        accepted = subst (λ (l : List LogEntry). ServesAreAccepted l) past run.accepted;
        kept = run.kept;
        drained = subst (λ (l : List LogEntry). NoneWaits l) past run.drained;
        due = subst (λ (l : List LogEntry). MarksAreDue ring l) past run.due;
        merged = run.merged;
      }

alike_both : (few all : List Packet) (es fs : List Event) → NameAlike few all es → NameAlike few all fs → NameAlike few all (es ++ fs)
alike_both few all [] fs h k = k
alike_both few all (e ∷ es) fs h k = (h.0, alike_both few all es fs h.1 k)

-- so are the runs of all nodes
pub runs_same : (rules : Rules) (b ring k : ℕ) (all : List Packet) (css : List (List Command)) (rs : List NodeRecord) → All (λ cs. All (IsThere (length (take b all))) cs) css → AreRuns rules (take b all) ring k css rs
    → AreRuns rules all ring k css rs × NameAlike (take b all) all (all_events rs)
runs_same rules b ring k all [] [] there runs = (tt, tt)
runs_same rules b ring k all [] (r ∷ rs) there runs = absurd runs
runs_same rules b ring k all (cs ∷ css) [] there runs = absurd runs
runs_same rules b ring k all (cs ∷ css) (r ∷ rs) there runs =
    let here = All-head (λ l. All (IsThere (length (take b all))) l) cs css there in
    let rest = runs_same rules b ring (k + 1) all css rs (All-tail (λ l. All (IsThere (length (take b all))) l) cs css there) runs.1 in
    let names = run_names rules b k ring all cs r runs.0 here in
    ((run_same rules (take b all) all k ring cs r names runs.0, rest.0), alike_both (take b all) all r.events.items (all_events rs) names rest.1)
