-- Adding versions in order, beside the faults of their plain forms.
use Rattle.std.proofs.Common.{◌≡◌, ◌≢◌, ℕ, ◌+◌, Bool, true, false, cond, ◌||◌, ◌==◌, List, [], ◌∷◌, ◌++◌, map, length, reverse, is_some, Option, Some, None, refl, sym, ◌∙◌, ap, inl, inr, ◌⊎◌, append_assoc}
use Rattle.std.specs.List.{list_any}
use Rattle.std.specs.Option.{option_or}
use Rattle.std.proofs.lemmas.List.{length-map, map-append, reverse-append}
use Rattle.pool_versions.specs.Pool.{Pools, version_at, same_service, is_over, services_fault, fault_of}
use Rattle.pool_versions.proofs.AfterSort.{double_mapped}
use Rattle.pool_versions.specs.declared.service.Service.{Service}
use Rattle.pool_versions.specs.declared.service.Version.{Version}
use Rattle.pool_versions.specs.declared.backend.Member.{Member}
use Rattle.pool_versions.specs.declared.catalogue.PoolFault.{PoolFault}
use Rattle.pool_versions.specs.declared.catalogue.PoolFault.TheVariants as pool
use Rattle.version_drafts.specs.Plain.{PlainVersion, plain_service, plain_version}
use Rattle.scenario_places.specs.Adding.{same_flows, names_double, is_long, passes_limit, services_refused, version_refused, first_refused}
use Rattle.scenario_places.specs.Catalogues.{IsPoolRefused, IsPoolAt}
use Rattle.version_drafts.specs.declared.place.Place.{Place}
use Rattle.scenario_places.specs.PoolPlaces.{version_place, pool_from, pool_place_of}
use Rattle.scenario_places.specs.PrivatePlacing.{IsPlaced}
use Rattle.scenario_places.proofs.PoolLaws.{version_law, one_longer}
use Rattle.scenario_keys.proofs.Views.{any_of_mapped}

found_step : (b : Bool) (v : Version) (o : Option Version) (c : Bool) → is_some o ≡ c → is_some (cond b (Some v) o) ≡ (b || c)
found_step true v o c e = refl
found_step false v o c e = e

-- a number that is there is found
found_is_there : (n : ℕ) (vs : List Version) → is_some (version_at n vs) ≡ list_any (λ w. w.number == n) (map plain_version vs)
found_is_there n [] = refl
found_is_there n (v ∷ vs) = found_step (v.number == n) v _ _ (found_is_there n vs)

over_is_past : (c : Pools) (services : List Service) → is_over c services ≡ passes_limit c.size (map plain_version c.versions) (map plain_service services)
unfolding is_over
over_is_past c services =
    let versions : length (map plain_version c.versions) ≡ length c.versions = length-map c.versions plain_version in
    let many : length (map plain_service services) ≡ length services = length-map services plain_service in
    rw (versions, many, any_of_mapped (is_long c.size) plain_service services) refl

services_agree : (c : Pools) (services : List Service) → services_fault c services ≡ services_refused c.size (map plain_version c.versions) (map plain_service services)
unfolding services_fault services_refused
services_agree c services =
    rw (double_mapped same_flows same_service plain_service (λ a b. refl) services, any_of_mapped names_double plain_service services, over_is_past c services) refl

-- the fault of a version is that of its plain form
pub faults_agree : (c : Pools) (v : Version) → fault_of c v ≡ version_refused c.size (map plain_version c.versions) (plain_version v)
unfolding fault_of version_refused
faults_agree c v = rw (found_is_there v.number c.versions, services_agree c v.services.items) refl

refused_step : (size : ℕ) (earlier : List (PlainVersion Member)) (v : PlainVersion Member) (vs : List (PlainVersion Member)) → version_refused size earlier v ≡ None → first_refused size earlier (v ∷ vs) ≡ first_refused size (earlier ++ v ∷ []) vs
refused_step size earlier v vs e = ap (λ o. option_or o (first_refused size (earlier ++ v ∷ []) vs)) e

refused_here : (size : ℕ) (earlier : List (PlainVersion Member)) (v : PlainVersion Member) (vs : List (PlainVersion Member)) (f : PoolFault) → version_refused size earlier v ≡ Some f → first_refused size earlier (v ∷ vs) ≡ Some f
refused_here size earlier v vs f e = ap (λ o. option_or o (first_refused size (earlier ++ v ∷ []) vs)) e

last_first : (v : Version) (rest popped : List Version) → popped ≡ rest ++ v ∷ [] → map plain_version (reverse popped) ≡ plain_version v ∷ map plain_version (reverse rest)
last_first v rest popped e = rw (e, reverse-append rest (v ∷ [])) refl

-- a version was taken
pub taken_rest : (size : ℕ) (c : Pools) (v : Version) (rest popped : List Version) (all : Option PoolFault) → popped ≡ rest ++ v ∷ [] → fault_of c v ≡ None → c.size ≡ size →
    first_refused size (map plain_version c.versions) (map plain_version (reverse popped)) ≡ all →
    first_refused size (map plain_version (c.versions ++ v ∷ [])) (map plain_version (reverse rest)) ≡ all
taken_rest size c v rest popped all is good sized before =
    let none : version_refused size (map plain_version c.versions) (plain_version v) ≡ None = rw (← sized) (sym (faults_agree c v) ∙ good) in
    rw (map-append plain_version c.versions (v ∷ [])) (sym (refused_step size (map plain_version c.versions) (plain_version v) (map plain_version (reverse rest)) none)
    ∙ (ap (first_refused size (map plain_version c.versions)) (sym (last_first v rest popped is)) ∙ before))

pub taken_all : (c : List Version) (v : Version) (rest popped : List Version) (all : List (PlainVersion Member)) → popped ≡ rest ++ v ∷ [] →
    map plain_version c ++ map plain_version (reverse popped) ≡ all → map plain_version (c ++ v ∷ []) ++ map plain_version (reverse rest) ≡ all
taken_all c v rest popped all is before =
    rw (map-append plain_version c (v ∷ [])) (append_assoc (map plain_version c) (plain_version v ∷ []) (map plain_version (reverse rest))
    ∙ (ap (λ ps. map plain_version c ++ ps) (sym (last_first v rest popped is)) ∙ before))

refusal : (size : ℕ) (vs : List (PlainVersion Member)) (f : PoolFault) → first_refused size [] vs ≡ Some f → IsPoolRefused size vs f
refusal size vs pool.BadNumber e = e
refusal size vs pool.NumberTaken e = e
refusal size vs pool.DoubleService e = e
refusal size vs pool.DoubleName e = e
refusal size vs pool.TooMany e = e
refusal size vs pool.Memory e = tt

-- a version that is taken has no place
none_is : {A : Type 0} (o : Option A) → is_some o ≡ false → o ≡ None
none_is None e = refl
none_is (Some x) e = cc

nowhere : (size : ℕ) (earlier : List (PlainVersion Member)) (n : ℕ) (v : PlainVersion Member) → n ≡ length earlier → version_refused size earlier v ≡ None → version_place size earlier n v ≡ None
nowhere size earlier n v is none = none_is (version_place size earlier n v) (version_law size earlier n v is ∙ ap is_some none)

pub taken_places : (size : ℕ) (c : Pools) (v : Version) (rest popped : List Version) (all : Option Place) → popped ≡ rest ++ v ∷ [] → fault_of c v ≡ None → c.size ≡ size →
    pool_from size (map plain_version c.versions) (length c.versions) (map plain_version (reverse popped)) ≡ all →
    pool_from size (map plain_version (c.versions ++ v ∷ [])) (length (c.versions ++ v ∷ [])) (map plain_version (reverse rest)) ≡ all
taken_places size c v rest popped all is good sized before =
    let earlier = map plain_version c.versions in
    let n = length c.versions in
    let none : version_refused size earlier (plain_version v) ≡ None = rw (← sized) (sym (faults_agree c v) ∙ good) in
    let rest_of = pool_from size (earlier ++ plain_version v ∷ []) (n + 1) (map plain_version (reverse rest)) in
    rw (map-append plain_version c.versions (v ∷ []), one_longer c.versions v)
    (sym (ap (λ o. option_or o rest_of) (nowhere size earlier n (plain_version v) (sym (length-map c.versions plain_version)) none))
    ∙ (ap (pool_from size earlier n) (sym (last_first v rest popped is)) ∙ before))

-- a version was refused
or_here : {A : Type 0} (o rest : Option A) → is_some o ≡ true → option_or o rest ≡ o
or_here None rest e = cc
or_here (Some x) rest e = refl

at_place : (size : ℕ) (vs : List (PlainVersion Member)) (f : PoolFault) (o : Option Place) → f ≢ pool.Memory → is_some o ≡ true → pool_place_of size vs ≡ o → IsPoolAt size vs f o
at_place size vs pool.Memory o known some e = absurd (known refl)
at_place size vs pool.BadNumber None known some e = cc
at_place size vs pool.BadNumber (Some p) known some e = e
at_place size vs pool.NumberTaken None known some e = cc
at_place size vs pool.NumberTaken (Some p) known some e = e
at_place size vs pool.DoubleService None known some e = cc
at_place size vs pool.DoubleService (Some p) known some e = e
at_place size vs pool.DoubleName None known some e = cc
at_place size vs pool.DoubleName (Some p) known some e = e
at_place size vs pool.TooMany None known some e = cc
at_place size vs pool.TooMany (Some p) known some e = e

-- what is told of it
pub told_now : (size : ℕ) (c : Pools) (v : Version) (rest popped : List Version) (vs : List (PlainVersion Member)) (f told : PoolFault) (o : Option Place) → popped ≡ rest ++ v ∷ [] →
    (fault_of c v ≡ Some f) ⊎ ((f ≡ pool.Memory) × (fault_of c v ≡ None)) → c.size ≡ size →
    first_refused size (map plain_version c.versions) (map plain_version (reverse popped)) ≡ first_refused size [] vs →
    pool_from size (map plain_version c.versions) (length c.versions) (map plain_version (reverse popped)) ≡ pool_place_of size vs →
    IsPlaced c v f told o → IsPoolRefused size vs told × IsPoolAt size vs told o
told_now size c v rest popped vs f told o is judged sized before places (inl memory) = rw (memory.0, memory.1) (tt, refl)
told_now size c v rest popped vs f told o is (inr memory) sized before places (inr known) = absurd (known.1 memory.0)
told_now size c v rest popped vs f told o is (inl found) sized before places (inr known) =
    let earlier = map plain_version c.versions in
    let n = length c.versions in
    let some : version_refused size earlier (plain_version v) ≡ Some f = rw (← sized) (sym (faults_agree c v) ∙ found) in
    let here = version_place size earlier n (plain_version v) in
    let same : o ≡ here = rw (← sized) known.2 in
    let there : is_some here ≡ true = version_law size earlier n (plain_version v) (sym (length-map c.versions plain_version)) ∙ ap is_some some in
    let told_at : pool_place_of size vs ≡ here =
    sym places ∙ (ap (pool_from size earlier n) (last_first v rest popped is)
    ∙ or_here here (pool_from size (earlier ++ plain_version v ∷ []) (n + 1) (map plain_version (reverse rest))) there) in
    rw (known.0, same) (
      refusal size vs f (sym before ∙ (ap (first_refused size earlier) (last_first v rest popped is)
          ∙ refused_here size earlier (plain_version v) (map plain_version (reverse rest)) f some)),
      at_place size vs f here known.1 there told_at,
    )
