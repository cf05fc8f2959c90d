-- Where packets came from, and which destinations are the other direction of others.
use Rattle.std.specs.Prelude.{◌≡◌, ◌&&◌, ◌||◌, not, nat_lt, Bool, false, List, [], ◌∷◌, map, reverse, count_by, if◌then◌else◌, Option, Some, None, is_some}
use Rattle.std.specs.Map.{lookup}
use Rattle.five_tuple.specs.declared.Flow.{Flow}
use Rattle.pool_versions.specs.declared.key.ServiceKey.{ServiceKey}
use Rattle.pool_versions.specs.Pool.{same_key, key_of_flow}
use Rattle.scenario_sketch.specs.declared.hop.Hop.{Hop}
use Rattle.scenario_sketch.specs.declared.origins.Origin.{Origin}
use Rattle.scenario_sketch.specs.declared.counted.Counted.{Counted}

-- where a flow's packets come from, and where they go to
abbrev pub hop_of_flow : Flow → Hop
hop_of_flow x = record { from = record { vip = x.src; proto = x.proto; port = x.sport }; to = key_of_flow x }

abbrev pub destinations_in : List Hop → List ServiceKey
destinations_in hops = map (λ h. h.to) hops

-- What is known of a destination after one packet more to it: where the first packet came from, whether an earlier one had gone
-- there, and whether one came from elsewhere.
abbrev pub origin_after : Option Origin → ServiceKey → Bool → Origin
origin_after None from is_answer = record { first = from; is_answer = is_answer; has_others = false }
origin_after (Some o) from is_answer = record { first = o.first; is_answer = o.is_answer; has_others = o.has_others || not (same_key o.first from) }

-- what is known of a destination, from the packets in the order of the last to the first
abbrev pub origin_before : ServiceKey → List Hop → Option Origin
origin_before to [] = None
origin_before to (h ∷ hops) =
    if same_key to h.to then Some (origin_after (origin_before to hops) h.from (is_some (origin_before h.from hops))) else origin_before to hops

-- what is known of a destination, from the packets in their order
unfoldable pub origin_among : ServiceKey → List Hop → Option Origin
origin_among to hops = origin_before to (reverse hops)

-- what a map has of each destination
abbrev pub AreOrigins : List (ServiceKey × Origin) → List Hop → Type 0
AreOrigins entries hops = (to : ServiceKey) → lookup (same_key to) entries ≡ origin_before to hops

-- Of two destinations that send each other packets, the first is the service: packets to it alone came from several places; or
-- to both or to neither of them, and it had a packet before the other one.
abbrev pub outranks : Origin → Origin → Bool
outranks service other = if other.has_others then service.has_others && other.is_answer else service.has_others || other.is_answer

abbrev pub outranked : Option Origin → Option Origin → Bool
outranked None other = false
outranked (Some service) None = false
outranked (Some service) (Some other) = outranks service other

abbrev pub answers_by : Option Origin → List Hop → Bool
answers_by None hops = false
answers_by (Some o) hops =
    nat_lt 5 (count_by (same_key o.first) (destinations_in hops)) && outranked (origin_among o.first hops) (Some o)

-- a destination is the other direction of the one that its first packet came from, where more than five packets went to that
abbrev pub is_other_direction : List Hop → Counted → Bool
is_other_direction hops c = answers_by (origin_among c.service hops) hops
