-- What a change does to members.
use Rattle.std.specs.Prelude.{ℕ, Bool, true, false, not, nat_eq, if◌then◌else◌, List, [], ◌∷◌, ◌++◌, map, filter, Option, Some, None}
use Rattle.std.specs.Cmp.Lexicographic.{pointwise}
use Rattle.pool_versions.specs.declared.backend.Member.{Member}
use Rattle.version_drafts.specs.declared.change.Change.{Change}
use Rattle.version_drafts.specs.declared.change.Change.TheVariants.{Remove, Down, Drain, Up, Weigh, Add}

-- the member has this name
abbrev pub is_of : List ℕ → Member → Bool
is_of name m = pointwise nat_eq name m.backend.name

-- the member, where it has this name in a state
abbrev pub in_state : List ℕ → Bool → Bool → Member → Member
in_state name up draining m = if is_of name m then (record { backend = m.backend; up = up; draining = draining; weight = m.weight }) else m

-- the member, where it has this name with a weight
abbrev pub of_weight : List ℕ → ℕ → Member → Member
of_weight name weight m = if is_of name m then (record { backend = m.backend; up = m.up; draining = m.draining; weight = weight }) else m

-- some members after a change
abbrev pub changed_by : Change → List Member → List Member
changed_by (Remove name) ms = filter (λ m. not (is_of name m)) ms
changed_by (Down name) ms = map (in_state name false false) ms
changed_by (Drain name) ms = map (in_state name false true) ms
changed_by (Up name) ms = map (in_state name true false) ms
changed_by (Weigh w) ms = map (of_weight w.name w.weight) ms
changed_by (Add m) ms = ms ++ m ∷ []

-- the name that a change is for, none where it adds a member
abbrev pub changed_name : Change → Option (List ℕ)
changed_name (Remove name) = Some name
changed_name (Down name) = Some name
changed_name (Drain name) = Some name
changed_name (Up name) = Some name
changed_name (Weigh w) = Some w.name
changed_name (Add m) = None
