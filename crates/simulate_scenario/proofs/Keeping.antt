-- The run of a scenario keeps the promises.
use Rattle.std.proofs.Common.{◌≡◌, ℕ, true, List, Result, Ok, Err, reverse, string_bytes, sym, ap, subst, refl}
use Rattle.std.specs.Prelude.{IfOk}
use Rattle.std.proofs.lemmas.List.{reverse-reverse}
use Rattle.hash_laws.specs.Any.{plain_of}
use Rattle.backend_names.specs.Sizes.{is_table_size}
use Rattle.pcap_file.specs.declared.format.InputEnd.{InputEnd}
use Rattle.pcap_file.specs.Device.{Tape}
use Rattle.pool_versions.specs.Pool.{AreSound}
use Rattle.spreader.specs.Choices.{Choice}
use Rattle.cluster_node.specs.declared.events.LogEntry.{LogEntry}
use Rattle.cluster_node.specs.Records.{Judged}
use Rattle.cluster_core.specs.Runs.{verdict}
use Rattle.cluster_core.specs.Tables.{AreMaglevs}
use Rattle.cluster_core.proofs.Promised.{histories_keep, maglev_keeps}
use Rattle.event_trace.specs.Trace.{Trace}
use Rattle.scenario.specs.declared.plan.Scenario.{Scenario}
use Rattle.run_report.proofs.Agreed.{follow_picks, follow_tables}
use Rattle.scenario_keys.specs.declared.words.SchemeKind.{SchemeKind}
use Rattle.scenario_keys.specs.declared.words.SchemeKind.TheVariants.{Maglev}
use Rattle.simulation.specs.Plans.{Planned}
use Rattle.simulation.specs.Simulated.{Simulated}
use Rattle.named_scheme.specs.Picking.{pick_by}
use Rattle.simulate_scenario.specs.Answers.{AnswersIn}
use Rattle.simulate_scenario.specs.Described.{rules_in, cluster_in}
use Rattle.simulate_scenario.specs.Kept.{KeepsPromises}
use Rattle.simulate_scenario.specs.declared.asking.Answer.{Answer}
use Rattle.simulate_scenario.specs.declared.asking.Query.{Query}
use Rattle.simulate_scenario.proofs.Runs.{judged}

maglev_in : (s : Scenario) → is_table_size s.size ≡ true → AreSound s.catalogue → s.scheme ≡ Maglev → AreMaglevs (plain_of s.hash) s.size s.catalogue (rules_in s)
maglev_in s listed sound is = record { listed = listed; sound = sound; pick = λ candidates x turn. ap (λ (kind : SchemeKind). pick_by kind (plain_of s.hash) s.size candidates x turn) is; ups = λ v x. refl }

-- so does every history that was judged
pub keeps_judged : (s : Scenario) (c : Trace) → is_table_size s.size ≡ true → AreSound s.catalogue → Judged (verdict (rules_in s)) c.past → KeepsPromises s c
keeps_judged s c listed sound j =
    let k : Judged (verdict (rules_in s)) (reverse (reverse c.past)) = subst (λ (past : List LogEntry). Judged (verdict (rules_in s)) past) (sym (reverse-reverse c.past)) j in
    record {
      promises = histories_keep (rules_in s) (reverse c.past) k;
      tables = λ is. maglev_keeps (plain_of s.hash) s.size s.catalogue (rules_in s) (reverse c.past) (maglev_in s listed sound is) k;
      splits = λ steady. follow_picks (rules_in s) c.past steady j;
      slots = λ is. follow_tables (plain_of s.hash) s.size s.catalogue (rules_in s) c.past (maglev_in s listed sound is) j;
    }

pub keeps : (s : Scenario) (choice : Choice) (plan : Planned) (i i' o o' : Tape) (c : Trace) (n : ℕ) (e : InputEnd) → is_table_size s.size ≡ true → AreSound s.catalogue → Simulated (cluster_in s) choice plan i i' o o' c n e → KeepsPromises s c
keeps s choice plan i i' o o' c n e listed sound run = keeps_judged s c listed sound (judged (cluster_in s) choice plan i i' o o' c n e run)

-- so does a run for any answer
pub keeps_any : {E : Type 0} (r : Result Answer E) (s : Scenario) (asked : Query) (i i' o o' : Tape) → is_table_size s.size ≡ true → AreSound s.catalogue
    → IfOk r (λ a. (answers : AnswersIn s asked i i' o o' (string_bytes a.text)) → KeepsPromises s answers.trace)
keeps_any (Err e) s asked i i' o o' listed sound = tt
keeps_any (Ok a) s asked i i' o o' listed sound = λ answers. keeps s _ _ i i' o o' answers.trace answers.packets answers.ending listed sound answers.simulated
