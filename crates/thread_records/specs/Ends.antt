-- The end of a life: what the workers of a node handled, beside what was placed on them.
use Rattle.std.specs.Prelude.{◌≡◌, ℕ, ◌+◌, ◌-◌, ◌%◌, ◌^◌, ◌==◌, ◌<◌, Bool, true, false, List, [], ◌∷◌, length, map, take, slice_index_or, Option, Some}
use Rattle.std.specs.Prelude.{None, Result, Ok, Err}
use Rattle.std.specs.List.{list_any, list_all}
use Rattle.cluster_node.specs.declared.serving.Item.{Item}
use Rattle.handled_list.specs.declared.handled.Handled.{Handled}
use Rattle.thread_records.specs.declared.journal.closing.LifeFault.{LifeFault}
use Rattle.thread_records.specs.declared.journal.closing.LifeFault.TheVariants.{Foreign, RingLost, Memory}
use Rattle.cluster_node.specs.declared.outcomes.Outcome.{Outcome}
use Rattle.thread_records.specs.Works.{WorkView}
use Rattle.thread_records.specs.Merges.{lives_of, AreMerges}
use Rattle.thread_records.specs.Journals.{JournalView, placed_on, with_serve, with_restart}

-- what each worker handled
abbrev pub all_handled : {S : Type 0} → List (WorkView S) → List (List Handled)
all_handled ws = map (λ w. w.handled) ws

abbrev pub handled_by : List (List Handled) → ℕ → List Handled
handled_by hss w = slice_index_or hss w []

abbrev pub items_of : List Handled → List Item
items_of hs = map (λ h. h.item) hs

-- each version that was used was installed
abbrev pub uses_installed : List ℕ → List Handled → Bool
uses_installed installed hs = list_all (λ h. list_any (λ u. u == h.version) installed) hs

abbrev pub all_use_installed : List ℕ → List (List Handled) → Bool
all_use_installed installed hss = list_all (λ hs. uses_installed installed hs) hss

-- What a worker handled is what was placed on it, in order. Of a life that wasn't drained it is a prefix of that.
abbrev pub ServesPlaced : Bool → List Item → List Handled → Type 0
ServesPlaced true is hs = items_of hs ≡ is
ServesPlaced false is hs = items_of hs ≡ take (length hs) is

-- there is a worker for each list of placed packets, and it served that list
pub record AllServePlaced (drained : Bool) (placed : List (List Item)) (handled : List (List Handled)) : Type 0 where
  pub workers : length handled ≡ length placed
  pub each : (w : ℕ) → w < length placed → ServesPlaced drained (placed_on placed w) (handled_by handled w)

-- the records of a life fit the journal
pub record LifeFits (drained : Bool) (j : JournalView) (handled : List (List Handled)) : Type 0 where
  pub installed : all_use_installed j.installed handled ≡ true
  pub served : AllServePlaced drained j.placed handled

-- why the records of a life don't fit, if they don't: a foreign version comes before a packet that was lost
abbrev pub IsLifeFault : Bool → JournalView → List (List Handled) → Option LifeFault → Type 0
IsLifeFault drained j handled None = LifeFits drained j handled
IsLifeFault drained j handled (Some Foreign) = all_use_installed j.installed handled ≡ false
IsLifeFault drained j handled (Some RingLost) = (all_use_installed j.installed handled ≡ true) × (AllServePlaced drained j.placed handled → ⊥)
IsLifeFault drained j handled (Some Memory) = ⊥

-- An answer says why the records don't fit exactly where they don't; where they do it is Ok or out of memory.
abbrev pub JudgesLife : {A : Type 0} → Bool → JournalView → List (List Handled) → Result A LifeFault → Type 0
JudgesLife drained j handled (Ok x) = IsLifeFault drained j handled None
JudgesLife drained j handled (Err Foreign) = IsLifeFault drained j handled (Some Foreign)
JudgesLife drained j handled (Err RingLost) = IsLifeFault drained j handled (Some RingLost)
JudgesLife drained j handled (Err Memory) = IsLifeFault drained j handled None

-- a fault other than out of memory changes nothing
abbrev pub UnlessMemory : LifeFault → Type 0 → Type 0
UnlessMemory Foreign P = P
UnlessMemory RingLost P = P
UnlessMemory Memory P = Unit {0}

-- after the servings of a worker
abbrev pub with_serves : ℕ → List Handled → JournalView → JournalView
with_serves w [] j = j
with_serves w (h ∷ hs) j = with_serves w hs (with_serve w h j)

-- after the servings of all workers from this one on, worker by worker
abbrev pub with_all_serves : ℕ → List (List Handled) → JournalView → JournalView
with_all_serves w [] j = j
with_all_serves w (hs ∷ hss) j = with_all_serves (w + 1) hss (with_serves w hs j)

-- how many packets were placed and not handled
abbrev pub left_over : List (List Item) → List (List Handled) → ℕ
left_over [] hss = 0
left_over (is ∷ iss) [] = length is + left_over iss []
left_over (is ∷ iss) (hs ∷ hss) = (length is - length hs) + left_over iss hss

-- after a life ended, and another began
abbrev pub with_life_ended : List (List Handled) → JournalView → JournalView
with_life_ended hss j = with_restart (left_over j.placed hss % 2 ^ 64) (with_all_serves 0 hss j)

-- A run fits. No ring refused before it had taken as many packets as it has places. For each life what was sent is a merge
-- of what its workers sent.
pub record RunFits (j : JournalView) (sent : List (List Outcome)) : Type 0 where
  pub due : j.early ≡ false
  pub merged : AreMerges sent (lives_of j.outcomes)

-- an answer is Ok exactly where the run fits, and RingLost otherwise
abbrev pub JudgesRun : {A : Type 0} → JournalView → List (List Outcome) → Result A LifeFault → Type 0
JudgesRun j sent (Ok x) = RunFits j sent
JudgesRun j sent (Err Foreign) = ⊥
JudgesRun j sent (Err RingLost) = RunFits j sent → ⊥
JudgesRun j sent (Err Memory) = ⊥
