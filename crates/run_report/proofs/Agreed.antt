-- A split's versions pick its backends.
use Rattle.std.proofs.Common.{◌≡◌, ℕ, zero, suc, List, [], ◌∷◌, reverse, Some, sym, ap, ◌∙◌, subst}
use Rattle.std.specs.Prelude.{slice_get}
use Rattle.std.specs.List.{All}
use Rattle.std.proofs.lemmas.List.{reverse-reverse}
use Rattle.std.proofs.lemmas.List.Elements.{All-weaker}
use Rattle.five_tuple.specs.declared.Flow.{Flow}
use Rattle.pool_versions.specs.Pool.{Pools}
use Rattle.pool_versions.specs.declared.backend.Backend.{Backend}
use Rattle.cluster_node.specs.declared.events.Event.{Event}
use Rattle.cluster_node.specs.declared.outcomes.Outcome.{Outcome}
use Rattle.cluster_node.specs.declared.outcomes.Outcome.TheVariants.{Forward}
use Rattle.cluster_node.specs.Rules.{Rules}
use Rattle.cluster_node.specs.Records.{Judged}
use Rattle.cluster_node.specs.declared.events.LogEntry.{LogEntry}
use Rattle.cluster_core.specs.Runs.{verdict}
use Rattle.cluster_core.specs.Headline.{Sent, Agreement}
use Rattle.cluster_core.specs.Histories.{outcomes_of}
use Rattle.cluster_core.specs.Tables.{TablesDiffer}
use Rattle.cluster_core.proofs.Promised.{histories_keep, maglev_keeps}
use Rattle.run_report.specs.declared.sending.Split.{Split}
use Rattle.run_report.specs.Splits.{splits_of, said_of}
use Rattle.run_report.specs.Pairs.{IsSplit}
use Rattle.run_report.specs.Agreeing.{FollowsPicks, FollowsTables, SplitsFollowPicks, SplitsFollowTables}
use Rattle.run_report.proofs.Pairs.{each_split}
use Rattle.run_report.proofs.Explained.{sent_among}

first_sent : (past : List LogEntry) (p : Split) → IsSplit past p → Sent (outcomes_of (reverse past)) p.later.flow p.first.backend p.first.origin
first_sent past p h = subst (λ (x : Flow). Sent (outcomes_of (reverse past)) x p.first.backend p.first.origin) h.flow (sent_among past p.first.number p.first h.first)

pub picks_agree : (rules : Rules) (past : List LogEntry) → Agreement rules (outcomes_of (reverse past)) → All (FollowsPicks rules) (splits_of past)
picks_agree rules past a = All-weaker (IsSplit past) (FollowsPicks rules) (λ p h.
    let both = a p.later.flow p.first.backend p.later.backend p.first.origin p.later.origin (first_sent past p h) (sent_among past p.later.number p.later h.later) h.apart in
    record { first = both.0; later = both.1 }) (splits_of past) (each_split past)

pub tables_agree : (plain : List ℕ → ℕ) (size : ℕ) (pools : Pools) (past : List LogEntry) → TablesDiffer plain size pools (outcomes_of (reverse past)) → All (FollowsTables plain size pools) (splits_of past)
tables_agree plain size pools past a = All-weaker (IsSplit past) (FollowsTables plain size pools) (λ p h.
    let both = a p.later.flow p.first.backend p.later.backend p.first.origin p.later.origin (first_sent past p h) (sent_among past p.later.number p.later h.later) h.apart in
    record { first = both.0; later = both.1 }) (splits_of past) (each_split past)

turned : (rules : Rules) (past : List LogEntry) → Judged (verdict rules) past → Judged (verdict rules) (reverse (reverse past))
turned rules past j = subst (λ (l : List LogEntry). Judged (verdict rules) l) (sym (reverse-reverse past)) j

pub follow_picks : SplitsFollowPicks
follow_picks rules past steady j = picks_agree rules past ((histories_keep rules (reverse past) (turned rules past j)).agreement steady)

pub follow_tables : SplitsFollowTables
follow_tables plain size pools rules past m j = tables_agree plain size pools past (maglev_keeps plain size pools rules (reverse past) m (turned rules past j)).agreement

-- ---- of a history's events and outcomes

said_there : (es : List Event) (os : List Outcome) (k : ℕ) (o : Outcome) → slice_get (outcomes_of (said_of es os)) k ≡ Some o → slice_get os k ≡ Some o
said_there [] os k o h = absurd cc
said_there (e ∷ es) [] k o h = absurd cc
said_there (e ∷ es) (p ∷ os) zero o h = h
said_there (e ∷ es) (p ∷ os) (suc k) o h = said_there es os k o h

sent_said : (es : List Event) (os : List Outcome) (x : Flow) (b : Backend) (v : ℕ) → Sent (outcomes_of (reverse (reverse (said_of es os)))) x b v → Sent os x b v
sent_said es os x b v s = record {
  place = s.place;
  node = s.node;
  worker = s.worker;
  packet = s.packet;
  there = said_there es os s.place (Forward s.node s.worker s.packet x b v) (ap (λ (l : List LogEntry). slice_get (outcomes_of l) s.place) (sym (reverse-reverse (said_of es os))) ∙ s.there);
}

pub history_picks : (rules : Rules) (es : List Event) (os : List Outcome) → Agreement rules os → All (FollowsPicks rules) (splits_of (reverse (said_of es os)))
history_picks rules es os a = picks_agree rules (reverse (said_of es os)) (λ x b₁ b₂ v₁ v₂ one other apart. a x b₁ b₂ v₁ v₂ (sent_said es os x b₁ v₁ one) (sent_said es os x b₂ v₂ other) apart)

pub history_tables : (plain : List ℕ → ℕ) (size : ℕ) (pools : Pools) (es : List Event) (os : List Outcome) → TablesDiffer plain size pools os → All (FollowsTables plain size pools) (splits_of (reverse (said_of es os)))
history_tables plain size pools es os a = tables_agree plain size pools (reverse (said_of es os)) (λ x b₁ b₂ v₁ v₂ one other apart. a x b₁ b₂ v₁ v₂ (sent_said es os x b₁ v₁ one) (sent_said es os x b₂ v₂ other) apart)
