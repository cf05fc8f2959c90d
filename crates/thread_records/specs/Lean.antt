-- A node's record as it is kept: what was sent stands there by the numbers of events.
use Rattle.std.specs.Prelude.{◌≡◌, ℕ, List, [], ◌∷◌, map, slice_index_or}
use Rattle.std.specs.Global.{Vec}
use Rattle.cluster_node.specs.declared.events.Event.{Event}
use Rattle.cluster_node.specs.declared.outcomes.Outcome.{Outcome}
use Rattle.cluster_node.specs.declared.outcomes.Outcome.TheVariants.{Installed}
use Rattle.outcome_list.specs.Lists.{made_by}
use Rattle.thread_records.specs.declared.nodes.NodeRecord.{NodeRecord}

-- What the event of a number sent: its outcome. Where there is no such event that is an outcome which sends nothing.
abbrev pub send_of : List Outcome → ℕ → Outcome
send_of os n = slice_index_or os n Installed

-- what the events of these numbers sent, for each life
abbrev pub sends_told : List Outcome → List (Vec ℕ) → List (List Outcome)
sends_told os vs = map (λ v. map (λ n. send_of os n) v.items) vs

-- the record that is meant
abbrev pub record_meant : Vec Event → Vec Outcome → Vec (Vec ℕ) → NodeRecord
record_meant es os sent = record { events = es; outcomes = os; sent = made_by (λ v. made_by (λ n. send_of os.items n) v) sent }

-- One record has the lists that another has.
pub record SameLists (r l : NodeRecord) : Type 0 where
  pub events : r.events.items ≡ l.events.items
  pub outcomes : r.outcomes.items ≡ l.outcomes.items
  pub sent : map (λ v. v.items) r.sent.items ≡ map (λ v. v.items) l.sent.items

-- So have some records, each the lists of the other at its place.
abbrev pub AreSameLists : List NodeRecord → List NodeRecord → Type 0
AreSameLists [] [] = Unit {0}
AreSameLists [] (l ∷ ls) = ⊥
AreSameLists (r ∷ rs) [] = ⊥
AreSameLists (r ∷ rs) (l ∷ ls) = SameLists r l × AreSameLists rs ls
