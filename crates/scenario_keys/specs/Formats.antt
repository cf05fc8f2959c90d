-- The formats of scenarios.
use Rattle.std.specs.Prelude.{ℕ, ◌==◌, if◌then◌else◌, Option, option_map}
use Rattle.toml.specs.Data.{Members}
use Rattle.scenario_keys.specs.Keys.{number_of}
use Rattle.scenario_keys.specs.declared.key.Key.TheVariants as key
use Rattle.scenario_keys.specs.declared.formats.Format.{Format}
use Rattle.scenario_keys.specs.declared.formats.Format.TheVariants.{One, Two, Three}

abbrev pub numbered : ℕ → Format
numbered n = if n == 1 then One else (if n == 2 then Two else Three)

-- the format of a document
abbrev pub format_of : Members → Option Format
format_of ms = option_map numbered (number_of key.Format ms)
