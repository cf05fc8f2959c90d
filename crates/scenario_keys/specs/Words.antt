-- The words of a scenario's setup.
use Rattle.std.specs.Prelude.{ℕ, if◌then◌else◌, List, codes, Option, Some, None}
use Rattle.std.specs.Str.{bytes_eq}
use Rattle.backend_names.specs.Sizes.{is_table_size}
use Rattle.scenario_keys.specs.declared.words.SchemeKind.{SchemeKind}
use Rattle.scenario_keys.specs.declared.words.SchemeKind.TheVariants.{Maglev, Plain, Round}
use Rattle.scenario_keys.specs.declared.words.SpreadKind.{SpreadKind}
use Rattle.scenario_keys.specs.declared.words.SpreadKind.TheVariants.{Hash, Turn}

abbrev pub scheme_of_word : List ℕ → Option SchemeKind
scheme_of_word word =
    if bytes_eq word (codes "maglev") then Some Maglev
    else (if bytes_eq word (codes "plain") then Some Plain
    else (if bytes_eq word (codes "round") then Some Round else None))

abbrev pub spread_of_word : List ℕ → Option SpreadKind
spread_of_word word =
    if bytes_eq word (codes "hash") then Some Hash
    else (if bytes_eq word (codes "turn") then Some Turn else None)

-- the number of a protocol
abbrev pub protocol_of_word : List ℕ → Option ℕ
protocol_of_word word =
    if bytes_eq word (codes "tcp") then Some 6
    else (if bytes_eq word (codes "udp") then Some 17 else None)

-- a listed size
abbrev pub size_of : ℕ → Option ℕ
size_of n = if is_table_size n then Some n else None
