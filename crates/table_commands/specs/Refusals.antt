-- When the command `table` gives up, and by which fault: the first that holds in their order.
use Rattle.std.specs.Prelude.{◌≡◌, ◌<◌, ◌≤◌, ℕ, Bool, true, false, List, map, length, is_some}
use Rattle.std.specs.List.{list_all, IsDistinct}
use Rattle.std.specs.Str.{bytes_eq}
use Rattle.hash_laws.specs.Any.{hash_of_word}
use Rattle.backend_names.specs.Sizes.{is_table_size}
use Rattle.maglev_texts.specs.Parsing.{before_star, weighed_name_of}
use Rattle.command_faults.specs.declared.fault.CliFault.{CliFault}
use Rattle.command_faults.specs.declared.fault.CliFault.TheVariants.{BadSize, BadHash, BadName, DoubleName, TooMany, Write, Memory}

-- a word is a name, which may bear a weight
abbrev pub is_word : List ℕ → Bool
is_word word = is_some (weighed_name_of word)

-- words that are names, each name once
pub record AreNames (words : List (List ℕ)) : Type 0 where
  pub named : list_all is_word words ≡ true
  pub once : IsDistinct bytes_eq (map before_star words)

-- names that share a table
abbrev pub AreFew : ℕ → List (List ℕ) → Type 0
AreFew size words = AreNames words × (length words ≤ size)

-- what words are where reading them as names ends by a fault
abbrev pub NamesFail : CliFault → List (List ℕ) → Type 0
NamesFail BadName words = list_all is_word words ≡ false
NamesFail DoubleName words = (list_all is_word words ≡ true) × (IsDistinct bytes_eq (map before_star words) → ⊥)
NamesFail Memory words = list_all is_word words ≡ true
NamesFail _ words = ⊥

-- the same where the names are to share a table of a size; Write comes only where nothing else is wrong
abbrev pub WordsFail : CliFault → ℕ → List (List ℕ) → Type 0
WordsFail TooMany size words = AreNames words × (size < length words)
WordsFail Write size words = AreFew size words
WordsFail BadName size words = NamesFail BadName words
WordsFail DoubleName size words = NamesFail DoubleName words
WordsFail Memory size words = NamesFail Memory words
WordsFail _ size words = ⊥

-- a size and a hash that are listed
pub record AreListed (size : ℕ) (hash : List ℕ) : Type 0 where
  pub size_listed : is_table_size size ≡ true
  pub hash_listed : is_some (hash_of_word hash) ≡ true

-- the same for the words of a command line
abbrev pub TableFails : CliFault → ℕ → List ℕ → List (List ℕ) → Type 0
TableFails BadSize size hash words = is_table_size size ≡ false
TableFails BadHash size hash words = (is_table_size size ≡ true) × (is_some (hash_of_word hash) ≡ false)
TableFails BadName size hash words = AreListed size hash × WordsFail BadName size words
TableFails DoubleName size hash words = AreListed size hash × WordsFail DoubleName size words
TableFails TooMany size hash words = AreListed size hash × WordsFail TooMany size words
TableFails Write size hash words = AreListed size hash × WordsFail Write size words
TableFails Memory size hash words = AreListed size hash × WordsFail Memory size words
TableFails _ size hash words = ⊥

-- a command line that nothing is wrong with
pub record IsTableWork (size : ℕ) (hash : List ℕ) (words : List (List ℕ)) : Type 0 where
  pub listed : AreListed size hash
  pub names : AreNames words
  pub few : length words ≤ size
