-- What is known of the destinations after one packet more.
use Rattle.std.proofs.Common.{◌≡◌, Bool, true, false, List, [], ◌∷◌, reverse, refl, sym, ap, ◌∙◌, subst, Option, Some}
use Rattle.std.specs.Prelude.{if◌then◌else◌, is_some, cond}
use Rattle.std.specs.Map.{lookup}
use Rattle.indexmap.specs.IndexMap.{insert_entry}
use Rattle.pool_versions.specs.declared.key.ServiceKey.{ServiceKey}
use Rattle.pool_versions.specs.Pool.{same_key}
use Rattle.scenario_sketch.specs.declared.hop.Hop.{Hop}
use Rattle.scenario_sketch.specs.declared.origins.Origin.{Origin}
use Rattle.scenario_sketch.specs.Hops.{origin_after, origin_before, origin_among, AreOrigins}
use Rattle.scenario_sketch.proofs.Keys.{same_key-true, same_key-flip}

-- the entry that is replaced
replaced_cases : (k d z : ServiceKey) (v u : Origin) (rest : Option Origin) (b : Bool) → same_key k z ≡ b → d ≡ z
    → cond (same_key k z) (Some v) rest ≡ (if same_key k d then Some v else cond (same_key k z) (Some u) rest)
replaced_cases k d z v u rest true e same =
    ap (λ (b : Bool). cond b (Some v) rest) e ∙ sym (ap (λ (b : Bool). if b then Some v else cond (same_key k z) (Some u) rest) (ap (same_key k) same ∙ e))
replaced_cases k d z v u rest false e same =
    ap (λ (b : Bool). cond b (Some v) rest) e
    ∙ sym (ap (λ (b : Bool). if b then Some v else cond (same_key k z) (Some u) rest) (ap (same_key k) same ∙ e) ∙ ap (λ (b : Bool). cond b (Some u) rest) e)

-- an entry before it
passed_cases : (k d z : ServiceKey) (v u : Origin) (old new : Option Origin) (b : Bool) → same_key k z ≡ b → same_key d z ≡ false → new ≡ (if same_key k d then Some v else old)
    → cond (same_key k z) (Some u) new ≡ (if same_key k d then Some v else cond (same_key k z) (Some u) old)
passed_cases k d z v u old new true e apart h =
    let other : same_key k d ≡ false = same_key-flip k d ∙ subst (λ (y : ServiceKey). same_key d y ≡ false) (sym (same_key-true k z e)) apart in
    ap (λ (b : Bool). cond b (Some u) new) e
    ∙ sym (ap (λ (b : Bool). if b then Some v else cond (same_key k z) (Some u) old) other ∙ ap (λ (b : Bool). cond b (Some u) old) e)
passed_cases k d z v u old new false e apart h =
    ap (λ (b : Bool). cond b (Some u) new) e ∙ h ∙ sym (ap (λ (b : Bool). if same_key k d then Some v else cond b (Some u) old) e)

insert_cases : (k d : ServiceKey) (v : Origin) (e : ServiceKey × Origin) (es : List (ServiceKey × Origin)) (b : Bool) → same_key d e.0 ≡ b
    → lookup (same_key k) (insert_entry same_key es d v) ≡ (if same_key k d then Some v else lookup (same_key k) es)
    → lookup (same_key k) (if b then (e.0, v) ∷ es else e ∷ insert_entry same_key es d v) ≡ (if same_key k d then Some v else lookup (same_key k) (e ∷ es))
insert_cases k d v e es true same ih = replaced_cases k d e.0 v e.1 (lookup (same_key k) es) (same_key k e.0) refl (same_key-true d e.0 same)
insert_cases k d v e es false same ih = passed_cases k d e.0 v e.1 (lookup (same_key k) es) (lookup (same_key k) (insert_entry same_key es d v)) (same_key k e.0) refl same ih

lookup_insert : (k d : ServiceKey) (v : Origin) (es : List (ServiceKey × Origin)) → lookup (same_key k) (insert_entry same_key es d v) ≡ (if same_key k d then Some v else lookup (same_key k) es)
lookup_insert k d v [] = refl
lookup_insert k d v (e ∷ es) = insert_cases k d v e es (same_key d e.0) refl (lookup_insert k d v es)

after_same : (k : ServiceKey) (h : Hop) (hops : List Hop) (b : Bool) → same_key k h.to ≡ b
    → (if b then Some (origin_after (origin_before h.to hops) h.from (is_some (origin_before h.from hops))) else origin_before k hops)
    ≡ (if b then Some (origin_after (origin_before k hops) h.from (is_some (origin_before h.from hops))) else origin_before k hops)
after_same k h hops true e = ap (λ (y : ServiceKey). Some (origin_after (origin_before y hops) h.from (is_some (origin_before h.from hops)))) (sym (same_key-true k h.to e))
after_same k h hops false e = refl

-- one packet more
pub noted : (es : List (ServiceKey × Origin)) (hops : List Hop) (h : Hop) (known from : Option Origin) → AreOrigins es hops → known ≡ lookup (same_key h.to) es → from ≡ lookup (same_key h.from) es
    → AreOrigins (insert_entry same_key es h.to (origin_after known h.from (is_some from))) (h ∷ hops)
noted es hops h known from all a b = λ k.
    let t : known ≡ origin_before h.to hops = a ∙ all h.to in
    let f : from ≡ origin_before h.from hops = b ∙ all h.from in
    lookup_insert k h.to (origin_after known h.from (is_some from)) es
    ∙ ap (λ (o : Option Origin). if same_key k h.to then Some (origin_after o h.from (is_some from)) else lookup (same_key k) es) t
    ∙ ap (λ (o : Option Origin). if same_key k h.to then Some (origin_after (origin_before h.to hops) h.from (is_some o)) else lookup (same_key k) es) f
    ∙ ap (λ (o : Option Origin). if same_key k h.to then Some (origin_after (origin_before h.to hops) h.from (is_some (origin_before h.from hops))) else o) (all k)
    ∙ after_same k h hops (same_key k h.to) refl

pub origin_found : (to : ServiceKey) (hops past : List Hop) → reverse past ≡ hops → reverse (reverse past) ≡ past → origin_before to past ≡ origin_among to hops
unfolding origin_among
origin_found to hops past e back = ap (origin_before to) (sym back) ∙ ap (λ (l : List Hop). origin_before to (reverse l)) e
