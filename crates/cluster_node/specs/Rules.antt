-- What is fixed for a run of a cluster.
use Rattle.std.specs.Prelude.{ℕ, Bool, List, Option}
use Rattle.five_tuple.specs.declared.Flow.{Flow}
use Rattle.selection.specs.Candidates.{Candidates}
use Rattle.forwarder.specs.Serving.{Pick}

pub record Rules : Type 0 where
  -- the scheme's answer
  pub pick : Pick
  -- the plain hash by which a flow has its home
  pub plain : List ℕ → ℕ
  -- the catalogue: whether it has a version, and the candidates for a flow under it (None: no service)
  pub known : ℕ → Bool
  pub ups : ℕ → Flow → Option Candidates
  pub nodes : ℕ
  pub workers : ℕ
  -- the entries of a connection table, and how long one stands after its last touch (None: no limit)
  pub capacity : ℕ
  pub idle : Option ℕ
