-- A scenario's setup.
use Rattle.std.specs.Prelude.{option_and_then, option_map, Option}
use Rattle.std.specs.Option.{option_or}
use Rattle.hash_laws.specs.Any.{hash_of_word}
use Rattle.toml.specs.Data.{Members}
use Rattle.scenario_keys.specs.Lookups.{number_at, text_at}
use Rattle.scenario_keys.specs.Words.{size_of, scheme_of_word, spread_of_word}
use Rattle.scenario_keys.specs.Keys.{key_name, number_of, number_if_of, flag_of}
use Rattle.scenario_keys.specs.declared.key.Key.{Key}
use Rattle.scenario_keys.specs.declared.key.Key.TheVariants as key
use Rattle.version_drafts.specs.Places.{missing}
use Rattle.scenario.specs.declared.setup.Choices.{Choices}
use Rattle.scenario.specs.declared.setup.Limits.{Limits}

-- the size, the hash, the scheme and the spread
unfoldable pub choices_of : Members → Option Choices
choices_of ms =
    option_and_then (λ size. option_and_then (λ hash. option_and_then (λ scheme. option_map (λ spread.
    record { size = size; hash = hash; scheme = scheme; spread = spread })
    (option_and_then spread_of_word (text_at (key_name key.Spread) ms)))
    (option_and_then scheme_of_word (text_at (key_name key.Scheme) ms)))
    (option_and_then hash_of_word (text_at (key_name key.Hash) ms)))
    (option_and_then size_of (number_at 0 65537 (key_name key.Size) ms))

-- the workers, the capacity, the places of a ring, the checksum test and the idle limit in microseconds
unfoldable pub limits_of : Members → Option Limits
limits_of ms =
    option_and_then (λ workers. option_and_then (λ capacity. option_and_then (λ ring. option_and_then (λ check. option_map (λ idle.
    record { workers = workers; capacity = capacity; ring = ring; check = check; idle = idle })
    (number_if_of key.Idle ms))
    (flag_of key.Check ms))
    (number_of key.Ring ms))
    (number_of key.Capacity ms))
    (number_of key.Workers ms)

-- the first of these keys at which nothing is read
unfoldable pub bad_choice : Members → Option Key
bad_choice ms =
    option_or (missing key.Size (option_and_then size_of (number_at 0 65537 (key_name key.Size) ms)))
    (option_or (missing key.Hash (option_and_then hash_of_word (text_at (key_name key.Hash) ms)))
    (option_or (missing key.Scheme (option_and_then scheme_of_word (text_at (key_name key.Scheme) ms)))
    (missing key.Spread (option_and_then spread_of_word (text_at (key_name key.Spread) ms)))))

unfoldable pub bad_limit : Members → Option Key
bad_limit ms =
    option_or (missing key.Workers (number_of key.Workers ms))
    (option_or (missing key.Capacity (number_of key.Capacity ms))
    (option_or (missing key.Ring (number_of key.Ring ms))
    (option_or (missing key.Check (flag_of key.Check ms))
    (missing key.Idle (number_if_of key.Idle ms)))))
