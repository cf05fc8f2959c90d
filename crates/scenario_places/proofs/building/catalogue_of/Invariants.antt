use Rattle.std.proofs.Common.{◌≡◌, ◌++◌, [], map, length, reverse, vec_len}
use Rattle.version_drafts.specs.Plain.{plain_version}
use Rattle.scenario_places.specs.Adding.{first_refused}
use Rattle.scenario_places.specs.PoolPlaces.{pool_from, pool_place_of}
use Rattle.scenario_places.proofs.building.catalogue_of.Given as goal

abbrev pub invariant-loop-version : goal.invariant-loop-version
invariant-loop-version l = record {
  sized : l.catalogue.size ≡ l.fn.size;
  rest : first_refused l.fn.size (map plain_version l.catalogue.versions) (map plain_version (reverse l.versions.items)) ≡ first_refused l.fn.size [] (map plain_version l.fn.versions.items);
  places : pool_from l.fn.size (map plain_version l.catalogue.versions) (length l.catalogue.versions) (map plain_version (reverse l.versions.items)) ≡ pool_place_of l.fn.size (map plain_version l.fn.versions.items);
  all : map plain_version l.catalogue.versions ++ map plain_version (reverse l.versions.items) ≡ map plain_version l.fn.versions.items;
}

abbrev pub decreases-loop-version : goal.decreases-loop-version
decreases-loop-version l = vec_len l.versions
