use Rattle.std.proofs.Common.{map, subst}
use Rattle.pool_versions.specs.Pool.{Pools}
use Rattle.pool_versions.specs.declared.service.Version.{Version}
use Rattle.version_drafts.specs.Plain.{plain_version}
use Rattle.scenario_places.proofs.Adding.{taken_rest, taken_all, taken_places, told_now}
use Rattle.scenario_places.specs.PrivatePlacing.{IsPlaced}
use Rattle.scenario_places.proofs.building.catalogue_of.Goals as goal

pub loop-version-preserved : goal.loop-version-preserved
loop-version-preserved c = record {
  sized = rw c.in-Ok.ensures.ok c.loop-version.invariant.sized;
  rest = rw c.in-Ok.ensures.ok (taken_rest c.args.size c.loop-version.catalogue c.in-Some.version c.pop.new.self.items c.loop-version.versions.items _
      c.in-Some.ensures.items c.in-Ok.ensures.judged c.loop-version.invariant.sized c.loop-version.invariant.rest);
  places = rw c.in-Ok.ensures.ok (taken_places c.args.size c.loop-version.catalogue c.in-Some.version c.pop.new.self.items c.loop-version.versions.items _
      c.in-Some.ensures.items c.in-Ok.ensures.judged c.loop-version.invariant.sized c.loop-version.invariant.places);
  all = rw c.in-Ok.ensures.ok (taken_all c.loop-version.catalogue.versions c.in-Some.version c.pop.new.self.items c.loop-version.versions.items _
      c.in-Some.ensures.items c.loop-version.invariant.all);
}

pub returns-in-Err-clause-refused : goal.returns-in-Err-clause-refused
returns-in-Err-clause-refused c =
    let judged = c.in-Err.ensures.judged in
    let placed = subst (λ (v : Version). IsPlaced c.loop-version.catalogue v c.in-Err.refused.fault c.placed.result.fault c.placed.result.place) judged.0
    (subst (λ (p : Pools). IsPlaced p c.in-Err.refused.version c.in-Err.refused.fault c.placed.result.fault c.placed.result.place) c.in-Err.ensures.err c.placed.ensures) in
    let told = told_now c.args.size c.loop-version.catalogue c.in-Some.version c.pop.new.self.items c.loop-version.versions.items (map plain_version c.args.versions.items)
    c.in-Err.refused.fault c.placed.result.fault c.placed.result.place c.in-Some.ensures.items judged.1 c.loop-version.invariant.sized c.loop-version.invariant.rest c.loop-version.invariant.places placed in
    told.0

pub returns-in-Err-clause-place : goal.returns-in-Err-clause-place
returns-in-Err-clause-place c =
    let judged = c.in-Err.ensures.judged in
    let placed = subst (λ (v : Version). IsPlaced c.loop-version.catalogue v c.in-Err.refused.fault c.placed.result.fault c.placed.result.place) judged.0
    (subst (λ (p : Pools). IsPlaced p c.in-Err.refused.version c.in-Err.refused.fault c.placed.result.fault c.placed.result.place) c.in-Err.ensures.err c.placed.ensures) in
    let told = told_now c.args.size c.loop-version.catalogue c.in-Some.version c.pop.new.self.items c.loop-version.versions.items (map plain_version c.args.versions.items)
    c.in-Err.refused.fault c.placed.result.fault c.placed.result.place c.in-Some.ensures.items judged.1 c.loop-version.invariant.sized c.loop-version.invariant.rest c.loop-version.invariant.places placed in
    told.1
