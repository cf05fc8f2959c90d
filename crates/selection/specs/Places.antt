-- What distinguishes services, and where the first of a list is.
use Rattle.std.specs.Prelude.{◌≡◌, ℕ, Bool, ◌==◌, if◌then◌else◌, List, [], ◌∷◌, length, Option, Some, None}
use Rattle.five_tuple.specs.declared.Flow.{Flow}
use Rattle.pool_versions.specs.declared.key.ServiceKey.{ServiceKey}
use Rattle.pool_versions.specs.Pool.{key_of_flow}
use Rattle.selection.specs.Readied.{Readied, ReadiedService, serves_readied}

abbrev pub key_of_readied : {S : Type 0} → ReadiedService S → ServiceKey
key_of_readied s = record { vip = s.vip; proto = s.proto; port = s.port }

-- how many are after the first that passes a test
abbrev pub behind_first : {X : Type 0} → (X → Bool) → List X → Option ℕ
behind_first test [] = None
behind_first test (x ∷ xs) = if test x then Some (length xs) else behind_first test xs

-- for each flow it is known how many services are after its first one
abbrev pub ArePlaced : {S : Type 0} → (ServiceKey → Option ℕ) → List (ReadiedService S) → Type 0
ArePlaced at ss = (x : Flow) → at (key_of_flow x) ≡ behind_first (serves_readied x) ss

-- for each number it is known how many versions are after its first one
abbrev pub AreNumbered : {S : Type 0} → (ℕ → Option ℕ) → List (Readied S) → Type 0
AreNumbered at ps = (n : ℕ) → at n ≡ behind_first (λ p. p.number == n) ps
