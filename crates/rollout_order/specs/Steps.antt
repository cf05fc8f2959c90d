-- What a service has after some servers were replaced, and what a step moves. Marks say which of the leaving servers are done.
use Rattle.std.specs.Prelude.{ℕ, ◌+◌, ◌==◌, Bool, true, false, not, if◌then◌else◌, cond, List, [], ◌∷◌, ◌++◌, map, filter, take, length, get_or, set, nat_eq}
use Rattle.std.specs.Cmp.Lexicographic.{pointwise}
use Rattle.std.specs.List.{flat_map, list_any, count_by, range_with_len}
use Rattle.pool_versions.specs.declared.backend.Member.{Member}
use Rattle.selection.specs.Picks.{NamedTable}
use Rattle.rollout_plan.specs.Tables.{table_by}
use Rattle.rollout_plan.specs.Counts.{moved}
use Rattle.rollout_order.specs.declared.rollout.Change.{Change}
use Rattle.rollout_order.specs.declared.rollout.Rollout.{Rollout}

-- how many marks there are
abbrev pub trues : List Bool → ℕ
trues marks = count_by (λ mark. mark) marks

-- the name at a place, if it is marked
abbrev pub marked_at : List Bool → List (List ℕ) → ℕ → List (List ℕ)
marked_at marks names place = cond (get_or marks place false) (get_or names place [] ∷ []) []

-- the names that are marked
abbrev pub marked : List Bool → List (List ℕ) → List (List ℕ)
marked marks names = flat_map (marked_at marks names) (range_with_len 0 (length names))

-- the servers that are what they are after: those that are marked, and as many of those that join
abbrev pub done : Rollout → List Bool → List (List ℕ)
done r marks = marked marks r.leavers.items ++ take (trues marks) r.joiners.items

-- a member has one of some names
abbrev pub is_named : List (List ℕ) → Member → Bool
is_named names m = list_any (λ n. pointwise nat_eq n m.backend.name) names

-- a service's members where servers of some names are what they are after, and the others what they were before
abbrev pub mixed : List (List ℕ) → List Member → List Member → List Member
mixed names before after = filter (λ m. not (is_named names m)) before ++ filter (is_named names) after

-- a service's members while the marked servers are done: before the first step as before, after the last as after
unfoldable pub members_at : Rollout → List Bool → Change → List Member
members_at r marks c =
    if trues marks == 0 then c.before.items else
    if trues marks == length marks then c.after.items else
    mixed (done r marks) c.before.items c.after.items

-- the tables of the services then
abbrev pub tables_at : Rollout → List Bool → List NamedTable
tables_at r marks = map (λ c. table_by r.rule (members_at r marks c)) r.changes.items

-- how many slots name another server though theirs stays, over the services' tables
abbrev pub all_moved : List NamedTable → List NamedTable → ℕ
all_moved [] after = 0
all_moved (b ∷ bs) [] = 0
all_moved (b ∷ bs) (c ∷ cs) = moved b c + all_moved bs cs

-- the same, where one more server is done
unfoldable pub step_moved : Rollout → List Bool → ℕ → ℕ
step_moved r marks place = all_moved (tables_at r marks) (tables_at r (set marks place true))
