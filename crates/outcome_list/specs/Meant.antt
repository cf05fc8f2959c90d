-- What the entries of a list of outcomes stand for.
use Rattle.std.specs.Prelude.{◌≡◌, ℕ, List, Option, Some, option_map, option_and_then, slice_get, unwrap_or, is_some, true}
use Rattle.std.specs.List.{All}
use Rattle.std.specs.Global.{Vec}
use Rattle.pool_versions.specs.declared.backend.Backend.{Backend}
use Rattle.cluster_node.specs.declared.outcomes.Outcome.{Outcome}
use Rattle.cluster_node.specs.declared.outcomes.Outcome.TheVariants as outcomes
use Rattle.outcome_list.specs.declared.kept.Send.{Send}
use Rattle.outcome_list.specs.declared.kept.Kept.{Kept}
use Rattle.outcome_list.specs.declared.kept.Kept.TheVariants.{Installed, Placed, Sent, Dropped, Restarted, Refused}
use Rattle.outcome_list.specs.Lists.{made_by}

-- a send to a backend
abbrev pub sent : Send → Backend → Outcome
sent s b = outcomes.Forward s.node s.worker s.packet s.flow b s.origin

-- each place of the one list has the same item in the other
abbrev pub KeepsEach : {X : Type 0} → List X → List X → Type 0
KeepsEach {X} old new = (k : ℕ) (x : X) → slice_get old k ≡ Some x → slice_get new k ≡ Some x

-- what an entry stands for, where all that it names is there
abbrev pub told : List Backend → List Send → List ℕ → Kept → Option Outcome
told bs ss ls Installed = Some outcomes.Installed
told bs ss ls (Placed w f) = Some (outcomes.Placed w f)
told bs ss ls (Sent i) = option_and_then (λ s. option_map (λ b. sent s b) (slice_get bs s.place)) (slice_get ss i)
told bs ss ls (Dropped c k) = Some (outcomes.Dropped k c)
told bs ss ls (Restarted i) = option_map (λ l. outcomes.Restarted l) (slice_get ls i)
told bs ss ls (Refused r) = Some (outcomes.Refused r)

-- what an entry stands for. One that names what isn't there opens as an installation.
abbrev pub opened : List Backend → List Send → List ℕ → Kept → Outcome
opened bs ss ls k = unwrap_or (told bs ss ls k) outcomes.Installed

-- all that the entries name is there
abbrev pub AreThere : List Backend → List Send → List ℕ → List Kept → Type 0
AreThere bs ss ls ks = All (λ k. is_some (told bs ss ls k) ≡ true) ks

-- each entry stands for the same in the other lists
abbrev pub Tells : List Backend → List Send → List ℕ → List Backend → List Send → List ℕ → Type 0
Tells bs ss ls bs' ss' ls' = (k : Kept) (o : Outcome) → told bs ss ls k ≡ Some o → told bs' ss' ls' k ≡ Some o

-- the list that is meant
abbrev pub list_meant : List Backend → List Send → List ℕ → Vec Kept → Vec Outcome
list_meant bs ss ls ks = made_by (λ k. opened bs ss ls k) ks
