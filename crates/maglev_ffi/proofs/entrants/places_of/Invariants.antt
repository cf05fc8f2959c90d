use Rattle.std.proofs.Common.{◌≡◌, map, take}
use Rattle.maglev_ffi.proofs.entrants.places_of.Given as goal

abbrev pub invariant-loop-entrant : goal.invariant-loop-entrant
invariant-loop-entrant l = l.places.items ≡ map (λ e. e.place) (take l.entrant-index l.entrants)
