-- Which service is asked for.
use Rattle.std.specs.Prelude.{◌≡◌, ℕ, Bool, List, [], ◌∷◌, ◌++◌, map, find, Option, Some, None}
use Rattle.std.specs.Str.{bytes_eq}
use Rattle.pool_versions.specs.declared.key.ServiceKey.{ServiceKey}
use Rattle.pool_versions.specs.declared.service.Version.{Version}
use Rattle.pool_versions.specs.Pool.{key_of}
use Rattle.command_faults.specs.declared.fault.CliFault.{CliFault}
use Rattle.command_faults.specs.declared.fault.CliFault.TheVariants.{BadService, Memory}
use Rattle.rollout_plan.specs.Text.{service_word, services_gone}

-- a word names a service: it is its text
abbrev pub is_named : List ℕ → ServiceKey → Bool
is_named word key = bytes_eq (service_word key) word

-- the first service that a word names
abbrev pub key_named : List ℕ → List ServiceKey → Option ServiceKey
key_named word keys = find (is_named word) keys

-- the service that is asked for: that of the word, or where there is no word the only one
abbrev pub asked_key : Option (List ℕ) → List ServiceKey → Option ServiceKey
asked_key (Some word) keys = key_named word keys
asked_key None [] = None
asked_key None (key ∷ []) = Some key
asked_key None (key ∷ other ∷ keys) = None

-- the services of two versions: those of the later one, and then those that it lacks
abbrev pub keys_of_both : Version → Version → List ServiceKey
keys_of_both before after = map key_of after.services.items ++ map key_of (services_gone before.services.items after)

-- what was found where a service isn't given: none, unless memory was refused
abbrev pub KeyFails : CliFault → Option ServiceKey → Type 0
KeyFails BadService found = found ≡ None
KeyFails Memory found = Unit {0}
KeyFails _ found = ⊥
