-- Every judged record keeps the promises.
use Rattle.std.proofs.Common.{ℕ, List, [], ◌∷◌, reverse, sym, ◌∙◌, subst}
use Rattle.pool_versions.specs.Pool.{Pools}
use Rattle.cluster_node.specs.declared.events.LogEntry.{LogEntry}
use Rattle.cluster_node.specs.declared.outcomes.Outcome.{Outcome}
use Rattle.cluster_node.specs.Records.{Judged}
use Rattle.cluster_node.specs.Rules.{Rules}
use Rattle.cluster_core.specs.Runs.{verdict, verdicts}
use Rattle.cluster_core.specs.Headline.{Keeps}
use Rattle.cluster_core.specs.Tables.{AreMaglevs}
use Rattle.cluster_core.specs.Histories.{IsSteady, outcomes_of}
use Rattle.cluster_core.specs.Promises.{KeptThroughout, UpsKeptThroughout, Promises, HistoriesKeepPromises, MaglevKeepsPromises, ListsKeepPromises}
use Rattle.cluster_core.proofs.Keeps.{event_keeps, event_keeps_ups, keeping, keeping_ups}
use Rattle.cluster_core.proofs.Sends.{agreement, agreement_of_picks}
use Rattle.cluster_core.proofs.Slots.{tables_differ, tables_are_even, no_slot_drains}
use Rattle.cluster_core.proofs.Reversed.{sends_told}

kept_throughout : (rules : Rules) (past : List LogEntry) → Judged (verdict rules) past → KeptThroughout rules past
kept_throughout rules [] j = tt
kept_throughout rules (s ∷ past) j = (subst (λ (o : Outcome). Keeps rules past s.event o) (sym j.0) (event_keeps rules past s.event s.packet), kept_throughout rules past j.1)

ups_kept_throughout : (rules : Rules) (past : List LogEntry) → KeptThroughout rules past → UpsKeptThroughout rules past
ups_kept_throughout rules [] h = tt
ups_kept_throughout rules (s ∷ past) h = (event_keeps_ups rules past s.event s.outcome h.0, ups_kept_throughout rules past h.1)

pub histories_keep : HistoriesKeepPromises
histories_keep rules history j = record {
  agreement = λ steady. agreement_of_picks rules (outcomes_of history) (sends_told rules history steady j);
  keeping = kept_throughout rules (reverse history) j;
  keeping_ups = ups_kept_throughout rules (reverse history) (kept_throughout rules (reverse history) j);
}

-- Maglev doesn't look at the turn
maglev_steady : (plain : List ℕ → ℕ) (size : ℕ) (pools : Pools) (rules : Rules) → AreMaglevs plain size pools rules → IsSteady rules
maglev_steady plain size pools rules m candidates x t u = m.pick candidates x t ∙ sym (m.pick candidates x u)

pub maglev_keeps : MaglevKeepsPromises
maglev_keeps plain size pools rules history m j =
    let p : Promises rules history = histories_keep rules history j in
    record {
      agreement = tables_differ rules plain size pools (outcomes_of history) (λ candidates x. m.pick candidates x 0) m.ups (p.agreement (maglev_steady plain size pools rules m));
      keeping = p.keeping;
      keeping_ups = p.keeping_ups;
      slots = tables_are_even plain size pools m.listed m.sound;
      none_drains = no_slot_drains plain size pools m.sound;
    }

pub lists_keep : ListsKeepPromises
lists_keep rules packets events = record {
  agreement = λ steady. agreement rules steady packets events;
  keeping = keeping rules [] packets events;
  keeping_ups = keeping_ups rules [] packets events (verdicts rules [] packets events) (keeping rules [] packets events);
}
