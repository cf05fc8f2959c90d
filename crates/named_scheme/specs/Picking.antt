-- How the scheme that a scenario names picks.
use Rattle.std.specs.Prelude.{◌≡◌, ℕ, List, Option}
use Rattle.five_tuple.specs.declared.Flow.{Flow}
use Rattle.hash_laws.specs.Any.{plain_of}
use Rattle.pool_versions.specs.declared.backend.Backend.{Backend}
use Rattle.selection.specs.Candidates.{Candidates}
use Rattle.selection.specs.Picks.{pick_at, flow_hash, table_pick, IsTableOf}
use Rattle.scenario_keys.specs.declared.words.SchemeKind.{SchemeKind}
use Rattle.scenario_keys.specs.declared.words.SchemeKind.TheVariants as kinds
use Rattle.named_scheme.specs.declared.NamedScheme.{NamedScheme}
use Rattle.named_scheme.specs.declared.NamedScheme.TheVariants.{Maglev, Plain, Round}
use Rattle.named_scheme.specs.declared.NamedChoices.{NamedChoices}
use Rattle.named_scheme.specs.declared.NamedChoices.TheVariants.{Table, Backends}

-- how a flow gets its backend among those that are up: by its slot in their table, by its hash, or by turns
abbrev pub pick_by : SchemeKind → (List ℕ → ℕ) → ℕ → Candidates → Flow → ℕ → Option Backend
pick_by kinds.Maglev plain size = λ ups x turn. table_pick plain size ups x
pick_by kinds.Plain plain size = λ ups x turn. pick_at ups.backends (flow_hash plain x)
pick_by kinds.Round plain size = λ ups x turn. pick_at ups.backends turn

abbrev pub pick_of : NamedScheme → ℕ → Candidates → Flow → ℕ → Option Backend
pick_of (Maglev s) = pick_by kinds.Maglev (plain_of s.hash)
pick_of (Plain s) = pick_by kinds.Plain (plain_of s.hash)
pick_of (Round s) = λ size ups x turn. pick_at ups.backends turn

-- a table is the candidates'
abbrev pub IsTableBy : (List ℕ → ℕ) → ℕ → Candidates → NamedChoices → Type 0
IsTableBy plain size ups (Table t) = IsTableOf plain size ups t
IsTableBy plain size ups (Backends bs) = ⊥

-- a list has the candidates
abbrev pub AreBackendsOf : Candidates → NamedChoices → Type 0
AreBackendsOf ups (Table t) = ⊥
AreBackendsOf ups (Backends bs) = bs.items ≡ ups.backends

-- what the scheme prepared of some candidates
abbrev pub IsPreparedBy : NamedScheme → ℕ → Candidates → NamedChoices → Type 0
IsPreparedBy (Maglev s) size ups p = IsTableBy (plain_of s.hash) size ups p
IsPreparedBy (Plain s) size ups p = AreBackendsOf ups p
IsPreparedBy (Round s) size ups p = AreBackendsOf ups p
