-- One node's part of a scenario's run.
use Rattle.std.proofs.Common.{◌≡◌, ℕ, true, List, [], ◌∷◌, Option, refl, sym, ap, subst, string_bytes}
use Rattle.backend_names.specs.Sizes.{is_table_size}
use Rattle.pcap_file.specs.declared.format.InputEnd.{InputEnd}
use Rattle.pcap_file.specs.Device.{Tape}
use Rattle.pool_versions.specs.Pool.{AreSound}
use Rattle.spreader.specs.Choices.{Choice}
use Rattle.cluster_node.specs.Records.{Judged}
use Rattle.cluster_core.specs.Cluster.{Cluster}
use Rattle.event_trace.specs.Trace.{Trace}
use Rattle.run_report.specs.Causes.{Lookups}
use Rattle.scenario.specs.declared.plan.Scenario.{Scenario}
use Rattle.simulation.specs.declared.fault.SimulationFault.{SimulationFault}
use Rattle.simulation.specs.Plans.{Planned}
use Rattle.simulation.specs.Simulated.{Simulated, Stopped}
use Rattle.node_part.specs.Parts.{of_part, part_of, part_trace}
use Rattle.node_part.proofs.Parts.{part_judged}
use Rattle.node_part.proofs.Wholes.{verdicts_own}
use Rattle.node_part.proofs.Ends.{Ended, part_ended, part_stopped}
use Rattle.simulate_scenario.specs.Described.{rules_in, cluster_in, choice_in, plan_in, lookups_in}
use Rattle.simulate_scenario.specs.Answers.{report_of}
use Rattle.simulate_scenario.specs.Told.{AnswersBy, IsToldAnswer}
use Rattle.simulate_scenario.specs.Parts.{PartToldIn, PartKeeps, PartStoppedIn}
use Rattle.simulate_scenario.specs.declared.asking.Answer.{Answer}
use Rattle.simulate_scenario.specs.declared.asking.Wanted.{Wanted}
use Rattle.simulate_scenario.proofs.Runs.{judged, trace_told}
use Rattle.simulate_scenario.proofs.Keeping.{keeps_judged}

-- the part's events are judged by the cluster's judge
pub part_told : (only : Option ℕ) (k : Cluster) (choice : Choice) (plan : Planned) (i i' o o' : Tape) (c : Trace) (n : ℕ) (e : InputEnd) → Simulated (part_of only k) choice plan i i' o o' c n e → Judged k.judge (of_part only c.past)
part_told only k choice plan i i' o o' c n e s = part_judged only k.judge c.past (judged (part_of only k) choice plan i i' o o' c n e s)

-- what pages were told, by what is wanted and by the first of them
pub paged_as : {P : Type 0} (told : P → P → List ℕ → List ℕ → Type 0) (only : Option ℕ) (k : Cluster) (choice : Choice) (plan : Planned) (lookups : Lookups) (idle : Option ℕ) (asked wanted : Wanted) (firsts first : List P) (left out : P) (a : Answer) (i i' o o' : Tape)
    → asked ≡ wanted → firsts ≡ first → out ≡ left
    → AnswersBy (λ l d t n e. IsToldAnswer told asked firsts left a l d (part_trace only t) n e) k choice plan lookups idle i i' o o'
    → AnswersBy (λ l d t n e. IsToldAnswer told wanted first out a l d (part_trace only t) n e) k choice plan lookups idle i i' o o'
paged_as told only k choice plan lookups idle asked wanted firsts first left out a i i' o o' e f g h =
    subst (λ x. AnswersBy (λ l d t n e. IsToldAnswer told wanted first x a l d (part_trace only t) n e) k choice plan lookups idle i i' o o') (sym g)
    (subst (λ (xs : List _). AnswersBy (λ l d t n e. IsToldAnswer told wanted xs left a l d (part_trace only t) n e) k choice plan lookups idle i i' o o') f
    (subst (λ (w : Wanted). AnswersBy (λ l d t n e. IsToldAnswer told w firsts left a l d (part_trace only t) n e) k choice plan lookups idle i i' o o') e h))

-- the report of a part, by the whole run
pub told_of_part : {P : Type 0} (told : P → P → List ℕ → List ℕ → Type 0) (only : Option ℕ) (s : Scenario) (wanted : Wanted) (pages out : P) (a : Answer) (i i' o o' : Tape)
    → AnswersBy (λ l d t n e. IsToldAnswer told wanted (pages ∷ []) out a l d (part_trace only t) n e) (part_of only (cluster_in s)) (choice_in s) (plan_in s) (lookups_in s) s.idle i i' o o'
    → PartToldIn only s wanted (λ text whole. told pages out text whole) i i' o o' (string_bytes a.text) a.counts
told_of_part {P} told only s wanted pages out a i i' o o' h = go (part_ended only (cluster_in s) (choice_in s) (plan_in s) i i' o o' h.trace h.packets h.ending (verdicts_own (rules_in s)) h.simulated)
  where
    head_or : P → List P → P
    head_or p [] = p
    head_or p (q ∷ qs) = q

    go : Ended only (cluster_in s) (choice_in s) (plan_in s) i i' o o' h.trace h.packets h.ending → PartToldIn only s wanted (λ text whole. told pages out text whole) i i' o o' (string_bytes a.text) a.counts
    go ended =
        let t : IsToldAnswer told wanted (pages ∷ []) out a (lookups_in s) s.idle (part_trace only ended.trace) h.packets h.ending =
        subst (λ (c : Trace). IsToldAnswer told wanted (pages ∷ []) out a (lookups_in s) s.idle c h.packets h.ending) ended.same h.answer in
        let whole = report_of (lookups_in s) s.idle wanted (part_trace only ended.trace) h.packets h.ending in
        record {
          whole = whole;
          answers = record { trace = ended.trace; packets = h.packets; ending = h.ending; simulated = ended.simulated; answer = refl; counted = t.counted };
          is_told = subst (λ first. told first out (string_bytes a.text) whole) (ap (head_or pages) (sym t.first_is)) t.text_told;
        }

-- the whole run keeps the promises
pub part_keeps : (only : Option ℕ) (s : Scenario) (i i' o o' : Tape) → is_table_size s.size ≡ true → AreSound s.catalogue → PartKeeps only s i i' o o'
part_keeps only s i i' o o' listed sound = λ trace packets ending run.
    keeps_judged s trace listed sound (subst (λ (c : Trace). Judged (cluster_in s).judge c.past) (sym run.trace_is) (trace_told (cluster_in s) (choice_in s) (plan_in s) run.head.link run.records))

pub stopped_of_part : (only : Option ℕ) (s : Scenario) (i i' o o' : Tape) (fault : SimulationFault) → Stopped (part_of only (cluster_in s)) (choice_in s) (plan_in s) i i' o o' fault → PartStoppedIn only s i i' o o' fault
stopped_of_part only s i i' o o' fault h = part_stopped only (cluster_in s) (choice_in s) (plan_in s) i i' o o' fault (verdicts_own (rules_in s)) h
