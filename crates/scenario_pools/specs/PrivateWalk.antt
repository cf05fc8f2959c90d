-- Why the walk over drafts stopped.
use Rattle.std.specs.Prelude.{◌≡◌, ℕ, List, Some, None, Result, Err, ⊤}
use Rattle.pool_versions.specs.declared.backend.Member.{Member}
use Rattle.version_drafts.specs.Plain.{PlainVersion}
use Rattle.version_drafts.specs.Drafts.{PlainVersionDraft}
use Rattle.scenario_pools.specs.Writing.{versions_of}
use Rattle.scenario_pools.specs.BadWords.{bad_word_of}
use Rattle.scenario_pools.specs.declared.bad_words.BadWord.{BadWord}
use Rattle.scenario_pools.specs.declared.bad_words.Unmade.{Unmade}
use Rattle.scenario_pools.specs.declared.bad_words.Unmade.TheVariants as stop
use Rattle.scenario_pools.specs.declared.fault.PoolsFault.{PoolsFault}
use Rattle.scenario_pools.specs.declared.fault.Unwritten.{Unwritten}
use Rattle.scenario_pools.specs.declared.fault.PoolsFault.TheVariants as fault

-- why a version isn't made, which has this word where it is refused as BadMember
abbrev pub IsUnmade : Result (PlainVersion Member) PoolsFault → BadWord → Unmade → Type 0
IsUnmade r word (stop.Bad w) = (r ≡ Err fault.BadMember) × (w ≡ word)
IsUnmade r word stop.TooMany = r ≡ Err fault.TooMany
IsUnmade r word stop.Memory = ⊤

-- why drafts aren't written out, by the draft of a number
abbrev pub IsUnwritten : List PlainVersionDraft → ℕ → Unmade → Type 0
IsUnwritten ds n (stop.Bad w) = (versions_of ds ≡ Err fault.BadMember) × (bad_word_of ds ≡ Some (n, w))
IsUnwritten ds n stop.TooMany = (versions_of ds ≡ Err fault.TooMany) × (bad_word_of ds ≡ None)
IsUnwritten ds n stop.Memory = ⊤

-- the same, as it is answered
abbrev pub unwritten : ℕ → Unmade → Unwritten
unwritten v (stop.Bad w) = record { fault = fault.BadMember; word = Some (v, w) }
unwritten v stop.TooMany = record { fault = fault.TooMany; word = None }
unwritten v stop.Memory = record { fault = fault.Memory; word = None }
