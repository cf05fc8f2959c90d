-- The rules of the setup that is made of a scenario are the scenario's, and what a run promises follows for it.
use Rattle.std.proofs.Common.{◌≡◌, ℕ, true, List, [], refl, sym, ap, ◌∙◌, subst, length}
use Rattle.std.specs.Prelude.{is_some}
use Rattle.hash_laws.specs.declared.any.AnyHash.{AnyHash}
use Rattle.hash_laws.specs.Any.{plain_of}
use Rattle.backend_names.specs.Sizes.{is_table_size}
use Rattle.forwarder.specs.Serving.{Pick}
use Rattle.ip_headers.specs.declared.Link.{Link}
use Rattle.pcap_file.specs.Format.{Record}
use Rattle.pool_versions.specs.Pool.{version_at, AreSound}
use Rattle.selection.specs.Candidates.{candidates_of}
use Rattle.cluster_node.specs.declared.outcomes.Outcome.{Outcome}
use Rattle.cluster_core.specs.Setups.{Fixed, rules_for}
use Rattle.cluster_core.specs.Headline.{Agreement, Keeping}
use Rattle.cluster_core.specs.Histories.{IsSteady}
use Rattle.cluster_core.specs.Tables.{TablesDiffer}
use Rattle.run_report.proofs.Agreed.{history_picks, history_tables}
use Rattle.cluster_core.proofs.Sends.{agreement}
use Rattle.cluster_core.proofs.Keeps.{keeping, keeping_ups}
use Rattle.cluster_core.proofs.Slots.{tables_differ, tables_are_even, no_slot_drains}
use Rattle.thread_records.specs.declared.nodes.NodeRecord.{NodeRecord}
use Rattle.thread_records.specs.declared.nodes.History.{History}
use Rattle.thread_records.specs.Runs.{JoinsRuns}
use Rattle.scenario.specs.declared.plan.Scenario.{Scenario}
use Rattle.scenario_keys.specs.declared.words.SchemeKind.{SchemeKind}
use Rattle.scenario_keys.specs.declared.words.SchemeKind.TheVariants.{Maglev}
use Rattle.named_scheme.specs.Picking.{pick_by}
use Rattle.simulate_scenario.specs.Described.{rules_in}
use Rattle.run_scenario.specs.Runs.{packets_in}
use Rattle.run_scenario.specs.Kept.{KeepsPromises}

abbrev pub fixed_of : {S : Type 0} → S → Scenario → Fixed S AnyHash
fixed_of scheme s = record { hash = s.hash; scheme = scheme; size = s.size; nodes = s.nodes.items; workers = s.workers; capacity = s.capacity; idle = s.idle }

pub same_rules : {S : Type 0} (pick_of : S → ℕ → Pick) (scheme : S) (s : Scenario) (setup : Fixed S AnyHash) → pick_of scheme s.size ≡ pick_by s.scheme (plain_of s.hash) s.size → setup ≡ fixed_of scheme s
    → rules_for pick_of plain_of setup s.catalogue ≡ rules_in s
same_rules {S} pick_of scheme s setup e f =
    ap (λ (x : Fixed S AnyHash). rules_for pick_of plain_of x s.catalogue) f
    ∙ ap (λ (p : Pick). record {
      pick = p;
      plain = plain_of s.hash;
      known = λ v. is_some (version_at v s.catalogue.versions);
      ups = λ v x. candidates_of s.catalogue v x;
      nodes = length s.nodes.items;
      workers = s.workers;
      capacity = s.capacity;
      idle = s.idle;
    }) e

pub same_fixed : {S : Type 0} (scheme : S) (s : Scenario) (nodes : List ℕ) → nodes ≡ s.nodes.items → record { hash = s.hash; scheme = scheme; size = s.size; nodes = nodes; workers = s.workers; capacity = s.capacity; idle = s.idle } ≡ fixed_of scheme s
same_fixed {S} scheme s nodes e = ap (λ (l : List ℕ). record { hash = s.hash; scheme = scheme; size = s.size; nodes = l; workers = s.workers; capacity = s.capacity; idle = s.idle }) e

-- Maglev's pick doesn't look at the turn
maglev_steady : (s : Scenario) → s.scheme ≡ Maglev → IsSteady (rules_in s)
maglev_steady s is candidates x t u =
    ap (λ (kind : SchemeKind). pick_by kind (plain_of s.hash) s.size candidates x t) is ∙ sym (ap (λ (kind : SchemeKind). pick_by kind (plain_of s.hash) s.size candidates x u) is)

pub keeps : (s : Scenario) (link : Link) (records : List Record) (nodes : List NodeRecord) (history : History) → is_table_size s.size ≡ true → AreSound s.catalogue → JoinsRuns (rules_in s) (packets_in s link records) nodes history → KeepsPromises s link records history
keeps s link records nodes history listed sound joined =
    let rules = rules_in s in
    let packets = packets_in s link records in
    let agree : IsSteady rules → Agreement rules history.outcomes.items = λ steady. subst (λ (os : List Outcome). Agreement rules os) (sym joined.told) (agreement rules steady packets history.events.items) in
    let kept : Keeping rules [] packets history.events.items history.outcomes.items = subst (λ (os : List Outcome). Keeping rules [] packets history.events.items os) (sym joined.told) (keeping rules [] packets history.events.items) in
    let differ : s.scheme ≡ Maglev → TablesDiffer (plain_of s.hash) s.size s.catalogue history.outcomes.items = λ is. tables_differ rules (plain_of s.hash) s.size s.catalogue history.outcomes.items (λ candidates x. ap (λ (kind : SchemeKind). pick_by kind (plain_of s.hash) s.size candidates x 0) is) (λ v x. refl) (agree (maglev_steady s is)) in
    record {
      agreement = agree;
      keeping = kept;
      keeping_ups = keeping_ups rules [] packets history.events.items history.outcomes.items kept;
      tables = differ;
      splits = λ steady. history_picks rules history.events.items history.outcomes.items (agree steady);
      split_slots = λ is. history_tables (plain_of s.hash) s.size s.catalogue history.events.items history.outcomes.items (differ is);
      slots = λ is. tables_are_even (plain_of s.hash) s.size s.catalogue listed sound;
      none_drains = λ is. no_slot_drains (plain_of s.hash) s.size s.catalogue sound;
    }
