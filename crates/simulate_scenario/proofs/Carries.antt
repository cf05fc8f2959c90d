-- The setup that is made of a scenario is what the scenario describes.
use Rattle.std.proofs.Common.{◌≡◌, ℕ, List, Option, ap, ◌∙◌, subst, length, string_bytes}
use Rattle.std.specs.Prelude.{is_some}
use Rattle.hash_laws.specs.declared.any.AnyHash.{AnyHash}
use Rattle.hash_laws.specs.Any.{plain_of}
use Rattle.forwarder.specs.Serving.{Pick}
use Rattle.run_report.specs.Causes.{Lookups, lookups_of}
use Rattle.spreader.specs.Choices.{Choice}
use Rattle.cluster_core.specs.Cluster.{Cluster}
use Rattle.event_trace.specs.Trace.{Trace}
use Rattle.pcap_file.specs.declared.format.InputEnd.{InputEnd}
use Rattle.pool_versions.specs.Pool.{version_at}
use Rattle.selection.specs.Candidates.{candidates_of}
use Rattle.cluster_node.specs.Rules.{Rules}
use Rattle.cluster_core.specs.Setups.{Fixed}
use Rattle.cluster_core.specs.Deployed.{Deployed, rules_of}
use Rattle.cluster_core.specs.Runs.{cluster_by}
use Rattle.timed_steps.specs.declared.TimedStep.{TimedStep}
use Rattle.scenario.specs.declared.plan.Scenario.{Scenario}
use Rattle.pcap_file.specs.Device.{Tape}
use Rattle.simulation.specs.declared.fault.SimulationFault.{SimulationFault}
use Rattle.simulation.specs.Plans.{Planned}
use Rattle.simulation.specs.Simulated.{Stopped}
use Rattle.node_part.specs.Parts.{part_of}
use Rattle.simulate_scenario.specs.Told.{AnswersBy, IsAnswer}
use Rattle.simulate_scenario.specs.declared.asking.Answer.{Answer}
use Rattle.simulate_scenario.specs.declared.asking.Query.{Query}
use Rattle.named_scheme.specs.Picking.{pick_by}
use Rattle.simulate_scenario.specs.Described.{rules_in, cluster_in, choice_in, plan_in, lookups_in}
use Rattle.named_spread.specs.Choosing.{choice_by}
use Rattle.simulate_scenario.specs.Answers.{CountedAnswers}

abbrev pub fixed_of : {S : Type 0} → S → Scenario → Fixed S AnyHash
fixed_of scheme s = record { hash = s.hash; scheme = scheme; size = s.size; nodes = s.nodes.items; workers = s.workers; capacity = s.capacity; idle = s.idle }

abbrev pub ruling_of : {S : Type 0} → S → Scenario → Deployed S AnyHash
ruling_of scheme s = record { setup = fixed_of scheme s; catalogue = s.catalogue }

pub ruled : {S : Type 0} (scheme : S) (s : Scenario) (r : Deployed S AnyHash) (setup : Fixed S AnyHash) → r ≡ record { setup = setup; catalogue = s.catalogue } → setup ≡ fixed_of scheme s → r ≡ ruling_of scheme s
ruled {S} scheme s r setup e f = e ∙ ap (λ (x : Fixed S AnyHash). record { setup = x; catalogue = s.catalogue }) f

described : {S : Type 0} (pick_of : S → ℕ → Pick) (scheme : S) (s : Scenario) → pick_of scheme s.size ≡ pick_by s.scheme (plain_of s.hash) s.size → rules_of pick_of plain_of (ruling_of scheme s) ≡ rules_in s
described pick_of scheme s e = ap (λ (p : Pick). record {
  pick = p;
  plain = plain_of s.hash;
  known = λ v. is_some (version_at v s.catalogue.versions);
  ups = λ v x. candidates_of s.catalogue v x;
  nodes = length s.nodes.items;
  workers = s.workers;
  capacity = s.capacity;
  idle = s.idle;
}) e

pub answers : {S : Type 0} (pick_of : S → ℕ → Pick) (scheme : S) (s : Scenario) (only : Option ℕ) (r : Deployed S AnyHash) (plan : Planned) (holds : Lookups → Option ℕ → Trace → ℕ → InputEnd → Type 0) (i i' o o' : Tape)
    → pick_of scheme s.size ≡ pick_by s.scheme (plain_of s.hash) s.size → r ≡ ruling_of scheme s → plan ≡ plan_in s
    → AnswersBy holds (part_of only (cluster_by (rules_of pick_of plain_of r))) (choice_by s.spread (plain_of r.setup.hash)) plan (lookups_of (plain_of r.setup.hash) r.setup.size r.catalogue) r.setup.idle i i' o o'
    → AnswersBy holds (part_of only (cluster_in s)) (choice_in s) (plan_in s) (lookups_in s) s.idle i i' o o'
answers {S} pick_of scheme s only r plan holds i i' o o' e f g h =
    subst (λ (rules : Rules). AnswersBy holds (part_of only (cluster_by rules)) (choice_in s) (plan_in s) (lookups_in s) s.idle i i' o o') (described pick_of scheme s e)
    (subst (λ (q : Deployed S AnyHash). AnswersBy holds (part_of only (cluster_by (rules_of pick_of plain_of q))) (choice_by s.spread (plain_of q.setup.hash)) (plan_in s) (lookups_of (plain_of q.setup.hash) q.setup.size q.catalogue) q.setup.idle i i' o o') f
    (subst (λ (p : Planned). AnswersBy holds (part_of only (cluster_by (rules_of pick_of plain_of r))) (choice_by s.spread (plain_of r.setup.hash)) p (lookups_of (plain_of r.setup.hash) r.setup.size r.catalogue) r.setup.idle i i' o o') g h))

-- an answer to what is asked, with the counts of its connections
pub counted_answers : (cluster : Cluster) (choice : Choice) (plan : Planned) (lookups : Lookups) (idle : Option ℕ) (asked : Query) (a : Answer) (i i' o o' : Tape)
    → AnswersBy (λ l d t n e. IsAnswer asked a l d t n e) cluster choice plan lookups idle i i' o o' → CountedAnswers cluster choice plan lookups idle asked i i' o o' (string_bytes a.text) a.counts
counted_answers cluster choice plan lookups idle asked a i i' o o' h =
    (record { trace = h.trace; packets = h.packets; ending = h.ending; simulated = h.simulated; answer = h.answer.0 }, h.answer.1)

pub stops : {S : Type 0} (pick_of : S → ℕ → Pick) (scheme : S) (s : Scenario) (only : Option ℕ) (r : Deployed S AnyHash) (plan : Planned) (i i' o o' : Tape) (fault : SimulationFault)
    → pick_of scheme s.size ≡ pick_by s.scheme (plain_of s.hash) s.size → r ≡ ruling_of scheme s → plan ≡ plan_in s
    → Stopped (part_of only (cluster_by (rules_of pick_of plain_of r))) (choice_by s.spread (plain_of r.setup.hash)) plan i i' o o' fault
    → Stopped (part_of only (cluster_in s)) (choice_in s) (plan_in s) i i' o o' fault
stops {S} pick_of scheme s only r plan i i' o o' fault e f g h =
    subst (λ (rules : Rules). Stopped (part_of only (cluster_by rules)) (choice_in s) (plan_in s) i i' o o' fault) (described pick_of scheme s e)
    (subst (λ (q : Deployed S AnyHash). Stopped (part_of only (cluster_by (rules_of pick_of plain_of q))) (choice_by s.spread (plain_of q.setup.hash)) (plan_in s) i i' o o' fault) f
    (subst (λ (p : Planned). Stopped (part_of only (cluster_by (rules_of pick_of plain_of r))) (choice_by s.spread (plain_of r.setup.hash)) p i i' o o' fault) g h))

pub planned_as : (s : Scenario) (ns : List ℕ) (steps : List TimedStep) → ns ≡ s.nodes.items → steps ≡ s.steps.items → record { nodes = ns; check = s.check; steps = steps } ≡ plan_in s
planned_as s ns steps e f = ap (λ (l : List ℕ). record { nodes = l; check = s.check; steps = steps }) e ∙ ap (λ (l : List TimedStep). record { nodes = s.nodes.items; check = s.check; steps = l }) f
