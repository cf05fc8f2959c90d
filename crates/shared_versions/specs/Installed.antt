-- Which versions the commands of a run install, and what is prepared of them.
use Rattle.std.specs.Prelude.{◌≡◌, ◌==◌, ℕ, Bool, true, false, List, Option, None, option_map}
use Rattle.std.specs.List.{list_any}
use Rattle.pool_versions.specs.Pool.{Pools, version_at}
use Rattle.selection.specs.Readied.{Readied, readied_version}
use Rattle.cluster_node.specs.Record.{prepared_at}
use Rattle.thread_records.specs.declared.command.Command.{Command}
use Rattle.thread_records.specs.declared.command.Command.TheVariants.{Publish, Offer, Restart, Stop}

-- a command installs the version of this number
abbrev pub installs : ℕ → Command → Bool
installs n (Publish m) = m == n
installs n (Offer k) = false
installs n Restart = false
installs n Stop = false

-- so does one of some lists
abbrev pub is_installed : List (List Command) → ℕ → Bool
is_installed lists n = list_any (λ cs. list_any (installs n) cs) lists

-- what is prepared of a number: the catalogue's version of it, if it has one, where a command installs it
abbrev pub prepared_where : {S : Type 0} → S → ℕ → Pools → Bool → ℕ → Option (Readied S)
prepared_where scheme size pools true n = option_map (λ v. readied_version scheme size v) (version_at n pools.versions)
prepared_where scheme size pools false n = None

-- the versions prepared are those that are wanted, and no others
abbrev pub AreWanted : {S : Type 0} → S → ℕ → Pools → (ℕ → Bool) → List (Readied S) → Type 0
AreWanted scheme size pools wanted versions = (n : ℕ) → prepared_at n versions ≡ prepared_where scheme size pools (wanted n) n
