-- What a worker owes in one life, read off the list of what was placed on it and what it served, newest first.
use Rattle.std.specs.Prelude.{◌≡◌, ℕ, ◌+◌, ◌≤◌, ◌||◌, Bool, List, [], ◌∷◌, ◌++◌, length, drop, Option, Some, None, if◌then◌else◌, nat_lt, slice_get, max}
use Rattle.five_tuple.specs.declared.Flow.{Flow}
use Rattle.selection.specs.Candidates.{Candidates}
use Rattle.forwarder.specs.Serving.{Pick, Serving, Reply, told_in, told_after, told, after_told, forwarding_of}
use Rattle.cluster_node.specs.declared.serving.Item.{Item}
use Rattle.cluster_node.specs.declared.serving.Taken.{Taken}
use Rattle.cluster_node.specs.declared.serving.Taken.TheVariants.{Idle, Behind, Done}
use Rattle.cluster_node.specs.Rules.{Rules}
use Rattle.cluster_node.specs.WorkerView.{WorkerView}

-- a packet was placed; or the next one was served under the version of a number, perhaps with a new entry refused
pub data Line : Type 0 where
  put : Item → Line
  took : ℕ → Bool → Line

-- the packets placed, the first in front
abbrev pub placed : List Line → List Item
placed [] = []
placed (put i ∷ ls) = placed ls ++ i ∷ []
placed (took v r ∷ ls) = placed ls

-- how many were served
abbrev pub taken_count : List Line → ℕ
taken_count [] = 0
taken_count (put i ∷ ls) = taken_count ls
taken_count (took v r ∷ ls) = taken_count ls + 1

-- the n-th serving is of the n-th packet
abbrev pub next_item : List Line → Option Item
next_item ls = slice_get (placed ls) (taken_count ls)

-- a packet's serving under a version, where these are the version's candidates
abbrev pub serving_under : (Flow → Option Candidates) → ℕ → Item → Bool → Serving
serving_under here v i r = record { flow = i.flow; at = i.at; version = v; ups = here i.flow; refused = r }

abbrev pub serving_at : Rules → Option Item → ℕ → Bool → List Serving → List Serving
serving_at rules None v r ss = ss
serving_at rules (Some i) v r ss = serving_under (rules.ups v) v i r ∷ ss

-- the servings, newest first
abbrev pub servings : Rules → List Line → List Serving
servings rules [] = []
servings rules (put i ∷ ls) = servings rules ls
servings rules (took v r ∷ ls) = serving_at rules (next_item ls) v r (servings rules ls)

-- the greatest version that was used
abbrev pub greatest_used : List Line → ℕ
greatest_used [] = 0
greatest_used (put i ∷ ls) = greatest_used ls
greatest_used (took v r ∷ ls) = max v (greatest_used ls)

-- what is reported of a serving of this packet
abbrev pub told_next : Rules → List Line → Item → ℕ → Bool → Reply
told_next rules ls i v r = told_after rules.pick rules.capacity rules.idle (told rules.pick rules.capacity rules.idle (servings rules ls))
    (serving_under (rules.ups v) v i r)

abbrev pub taken_of : Rules → List Line → Option Item → ℕ → Bool → Taken
taken_of rules ls None v r = Idle
taken_of rules ls (Some i) v r =
    if nat_lt v i.floor || nat_lt v (greatest_used ls) then Behind
    else Done i (told_next rules ls i v r).choice

-- what a worker answers when it is to serve its next packet
abbrev pub taken : Rules → List Line → ℕ → Bool → Taken
taken rules ls v r = taken_of rules ls (next_item ls) v r

-- the lines after that
abbrev pub lines_after : Taken → List Line → ℕ → Bool → List Line
lines_after Idle ls v r = ls
lines_after Behind ls v r = ls
lines_after (Done i c) ls v r = took v r ∷ ls

-- the worker that has these lines
abbrev pub worker_of : Rules → List Line → WorkerView
worker_of rules ls = record {
  queue = drop (taken_count ls) (placed ls);
  used = greatest_used ls;
  forwarding = forwarding_of rules.pick rules.capacity rules.idle (servings rules ls);
}

-- a worker represents its lines
pub record Stands (rules : Rules) (ls : List Line) (w : WorkerView) : Type 0 where
  pub sound : taken_count ls ≤ length (placed ls)
  pub is : w ≡ worker_of rules ls

-- one step of a worker, by what it keeps
pub record WorkerStep : Type 0 where
  pub taken : Taken
  pub after : WorkerView

abbrev pub step_told : WorkerView → Item → List Item → ℕ → Reply → WorkerStep
step_told w i rest v t = record { taken = Done i t.choice; after = record { queue = rest; used = v; forwarding = after_told t w.forwarding } }

abbrev pub step_by : Pick → (Flow → Option Candidates) → WorkerView → List Item → ℕ → Bool → WorkerStep
step_by pick here w [] v r = record { taken = Idle; after = w }
step_by pick here w (i ∷ rest) v r =
    if nat_lt v i.floor || nat_lt v w.used then record { taken = Behind; after = w }
    else step_told w i rest v (told_in pick w.forwarding (serving_under here v i r))

abbrev pub step_of : Pick → (Flow → Option Candidates) → WorkerView → ℕ → Bool → WorkerStep
step_of pick here w v r = step_by pick here w w.queue v r
