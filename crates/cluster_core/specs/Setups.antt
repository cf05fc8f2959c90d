-- What is fixed for a cluster, and the rules that it and a catalogue give.
use Rattle.std.specs.Prelude.{ℕ, ◌||◌, ◌==◌, nat_lt, List, length, Option, Some, None, is_some, if◌then◌else◌}
use Rattle.pool_versions.specs.Pool.{Pools, version_at}
use Rattle.selection.specs.Candidates.{candidates_of}
use Rattle.forwarder.specs.Serving.{Pick}
use Rattle.cluster_node.specs.Rules.{Rules}
use Rattle.cluster_core.specs.declared.fixed.SetupFault.{SetupFault}
use Rattle.cluster_core.specs.declared.fixed.SetupFault.TheVariants.{BadNodes, BadWorkers, BadCapacity}

-- a setup as contracts see it
pub record Fixed (S H : Type 0) : Type 0 where
  pub hash : H
  pub scheme : S
  -- the slots of a table
  pub size : ℕ
  -- the nodes' addresses
  pub nodes : List ℕ
  pub workers : ℕ
  pub capacity : ℕ
  -- how long an entry stands after its last touch, in microseconds; None: no limit
  pub idle : Option ℕ

-- the first fault of a setup
abbrev pub setup_fault : ℕ → ℕ → ℕ → Option SetupFault
setup_fault nodes workers capacity =
    if (nodes == 0) || nat_lt 64 nodes then Some BadNodes
    else if (workers == 0) || nat_lt 16 workers then Some BadWorkers
    else if (capacity == 0) || nat_lt 1000000 capacity then Some BadCapacity
    else None

-- the rules of a cluster of this setup over this catalogue
abbrev pub rules_for : {S H : Type 0} → (S → ℕ → Pick) → (H → List ℕ → ℕ) → Fixed S H → Pools → Rules
rules_for pick_of plain_of setup pools = record {
  pick = pick_of setup.scheme setup.size;
  plain = plain_of setup.hash;
  known = λ v. is_some (version_at v pools.versions);
  ups = λ v x. candidates_of pools v x;
  nodes = length setup.nodes;
  workers = setup.workers;
  capacity = setup.capacity;
  idle = setup.idle;
}
