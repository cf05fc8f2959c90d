use Rattle.std.proofs.Common.{◌∙◌, ap, map, true, false}
use Rattle.place_buckets.specs.Groups.{hash_of}
use Rattle.place_buckets.proofs.Grouping.{found_in_view, absent_in_view}
use Rattle.place_buckets.proofs.places.Buckets.find.Goals as goal

pub returns-clause-found : goal.returns-clause-found
returns-clause-found g c =
    found_in_view (λ p. goal.F-post g c.args.is_sought p true) _ _ (ap (map hash_of) c.as_slice-2.ensures.value ∙ c.self.view_is) _ c.find.ensures.found

pub returns-clause-absent : goal.returns-clause-absent
returns-clause-absent g c =
    absent_in_view (λ p. goal.F-post g c.args.is_sought p false) _ _ _ (ap (map hash_of) c.as_slice-2.ensures.value ∙ c.self.view_is) _ c.find.ensures.absent
