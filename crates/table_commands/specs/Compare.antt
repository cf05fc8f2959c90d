-- The command `compare`: the slots that name another backend after a pool change.
use Rattle.std.specs.Prelude.{◌≡◌, ℕ, ◌++◌, Bool, true, false, not, ◌||◌, nat_lt, List, map, filter, length, Option, Some, None, is_none, codes, Contains, ◌⊎◌}
use Rattle.std.specs.List.{flat_map, range_with_len}
use Rattle.std.specs.Fmt.{decimal}
use Rattle.hash_laws.specs.declared.any.AnyHash.{AnyHash}
use Rattle.hash_laws.specs.Any.{hash_of_word, plain_of}
use Rattle.backend_names.specs.Sizes.{is_table_size}
use Rattle.pool_versions.specs.declared.backend.Backend.{Backend}
use Rattle.pool_versions.specs.declared.backend.Member.{Member}
use Rattle.pool_versions.specs.Pool.{has_double, same_name}
use Rattle.selection.specs.Candidates.{candidates_in}
use Rattle.selection.specs.Picks.{NamedTable, slot_names, table_of_ups}
use Rattle.selection.specs.Readied.{same_backend}
use Rattle.maglev_texts.specs.Parsing.{pieces, weighed_member_of}
use Rattle.maglev_texts.specs.Printing.{backend_text}
use Rattle.table_commands.specs.Refusals.{AreListed}
use Rattle.json_lines.specs.declared.forms.Form.{Form}
use Rattle.json_lines.specs.declared.forms.Form.TheVariants.{Plain, Json}
use Rattle.json_lines.specs.Heads.{head_json}
use Rattle.table_commands.specs.Objects.{compare_json, moved_json}
use Rattle.command_faults.specs.declared.fault.CliFault.{CliFault}
use Rattle.command_faults.specs.declared.fault.CliFault.TheVariants.{BadSize, BadHash, BadMember, DoubleName, TooMany, Write, Memory}

-- the backend that a slot names, or a dash where nobody is up
abbrev pub named_text : Option Backend → List ℕ
named_text None = codes "-"
named_text (Some b) = backend_text b

-- the two name one backend, by name and address, or both name nobody
abbrev pub name_alike : Option Backend → Option Backend → Bool
name_alike None other = is_none other
name_alike (Some a) None = false
name_alike (Some a) (Some b) = same_backend a b

-- the backend at a slot of a table
abbrev pub named_at : NamedTable → ℕ → Option Backend
named_at t slot = slot_names t.ups t.owners slot

-- a slot names another backend in the second table
abbrev pub is_moved : NamedTable → NamedTable → ℕ → Bool
is_moved old new slot = not (name_alike (named_at old slot) (named_at new slot))

-- the slots that name another backend, ascending
abbrev pub moved_slots : NamedTable → NamedTable → List ℕ
moved_slots old new = filter (is_moved old new) (range_with_len 0 old.size)

-- `size M old N1 new N2 differ D`
abbrev pub compare_head : ℕ → ℕ → ℕ → ℕ → List ℕ
compare_head size before after moved =
    codes "size " ++ (decimal size ++ (codes " old " ++ (decimal before ++ (codes " new " ++ (decimal after ++ (codes " differ " ++ (
    decimal moved ++ codes "\n")))))))

-- `I OLD NEW`
abbrev pub moved_line : ℕ → Option Backend → Option Backend → List ℕ
moved_line slot before after = decimal slot ++ (codes " " ++ (named_text before ++ (codes " " ++ (named_text after ++ codes "\n"))))

-- the lines in each form
abbrev pub compare_head_as : Form → ℕ → ℕ → ℕ → ℕ → List ℕ
compare_head_as Plain size before after moved = compare_head size before after moved
compare_head_as Json size before after moved = head_json (codes "compare") ++ compare_json size before after moved

abbrev pub moved_line_as : Form → ℕ → Option Backend → Option Backend → List ℕ
moved_line_as Plain slot before after = moved_line slot before after
moved_line_as Json slot before after = moved_json slot before after

-- the line of a slot of two tables
abbrev pub slot_moved_as : Form → NamedTable → NamedTable → ℕ → List ℕ
slot_moved_as form old new slot = moved_line_as form slot (named_at old slot) (named_at new slot)

-- the text of the command `compare` over two tables, in a form
unfoldable pub compare_text_as : Form → NamedTable → NamedTable → List ℕ
compare_text_as form old new =
    compare_head_as form old.size (length old.ups) (length new.ups) (length (moved_slots old new))
    ++ flat_map (slot_moved_as form old new) (moved_slots old new)

-- the text's words, split at single spaces, are these members
abbrev pub AreMembers : List ℕ → List Member → Type 0
AreMembers text ms = map weighed_member_of (pieces 32 text) ≡ map Some ms

-- one of the words is no member
abbrev pub HasOtherWord : List (List ℕ) → Type 0
HasOtherWord words = Contains (map weighed_member_of words) None

-- one of the text's words is no member
abbrev pub HasOther : List ℕ → Type 0
HasOther text = HasOtherWord (pieces 32 text)

-- a name comes twice
abbrev pub is_double : List Member → Bool
is_double ms = has_double same_name ms

-- more members than a service may have, or than there are slots
abbrev pub is_long : ℕ → List Member → Bool
is_long size ms = nat_lt 4096 (length ms) || nat_lt size (length ms)

-- the members of two texts
pub record AreLists (old new : List ℕ) (ms ns : List Member) : Type 0 where
  pub before : AreMembers old ms
  pub after : AreMembers new ns

-- lists of members that nothing is wrong with
pub record AreGood (size : ℕ) (ms ns : List Member) : Type 0 where
  pub once : (is_double ms || is_double ns) ≡ false
  pub few : (is_long size ms || is_long size ns) ≡ false

-- what words are where reading them as members ends by a fault
abbrev pub WordsAreOther : CliFault → List (List ℕ) → Type 0
WordsAreOther BadMember words = HasOtherWord words
WordsAreOther Memory words = Unit {0}
WordsAreOther _ words = ⊥

-- what a member list is where reading it ends by a fault
abbrev pub MembersFail : CliFault → List ℕ → Type 0
MembersFail fault text = WordsAreOther fault (pieces 32 text)

-- the same for two lists that are to share a size
abbrev pub ListsFail : CliFault → ℕ → List ℕ → List ℕ → Type 0
ListsFail BadMember size old new = HasOther old ⊎ HasOther new
ListsFail DoubleName size old new = (ms ns : List Member) × AreLists old new ms ns × ((is_double ms || is_double ns) ≡ true)
ListsFail TooMany size old new =
    (ms ns : List Member) × AreLists old new ms ns × ((is_double ms || is_double ns) ≡ false) × ((is_long size ms || is_long size ns) ≡ true)
ListsFail Memory size old new = Unit {0}
ListsFail Write size old new = (ms ns : List Member) × AreLists old new ms ns × AreGood size ms ns
ListsFail _ size old new = ⊥

-- when `compare` gives up, and by which fault: the first that holds in their order
abbrev pub CompareFails : CliFault → ℕ → List ℕ → List ℕ → List ℕ → Type 0
CompareFails BadSize size hash old new = is_table_size size ≡ false
CompareFails BadHash size hash old new = (is_table_size size ≡ true) × (hash_of_word hash ≡ None)
CompareFails BadMember size hash old new = AreListed size hash × ListsFail BadMember size old new
CompareFails DoubleName size hash old new = AreListed size hash × ListsFail DoubleName size old new
CompareFails TooMany size hash old new = AreListed size hash × ListsFail TooMany size old new
CompareFails Write size hash old new = AreListed size hash × ListsFail Write size old new
CompareFails Memory size hash old new = AreListed size hash
CompareFails _ size hash old new = ⊥

-- the text compares the tables of the up members of two good lists, in a form
pub record IsCompareTextAs (form : Form) (plain : List ℕ → ℕ) (size : ℕ) (old new : List ℕ) (text : List ℕ) : Type 0 where
  pub ms : List Member
  pub ns : List Member
  pub lists : AreLists old new ms ns
  pub good : AreGood size ms ns
  pub is : text ≡ compare_text_as form (table_of_ups plain size (candidates_in ms)) (table_of_ups plain size (candidates_in ns))

-- the same, for the hash that a word names
abbrev pub IsCompareTextAsOf : Form → List ℕ → ℕ → List ℕ → List ℕ → List ℕ → Type 0
IsCompareTextAsOf form word size old new text = (hash : AnyHash) × (hash_of_word word ≡ Some hash) × (is_table_size size ≡ true) ×
    IsCompareTextAs form (plain_of hash) size old new text

-- the same in lines for people
abbrev pub IsCompareTextOf : List ℕ → ℕ → List ℕ → List ℕ → List ℕ → Type 0
IsCompareTextOf word size old new text = IsCompareTextAsOf Plain word size old new text
