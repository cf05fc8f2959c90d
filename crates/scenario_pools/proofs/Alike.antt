-- The versions that a document means in format 1 or 2 it means in each later format too.
use Rattle.std.proofs.Common.{◌≡◌, ℕ, Bool, true, false, nat_eq, List, [], ◌∷◌, ◌++◌, Option, Some, None, Result, Ok, Err, option_map, option_and_then, refl, sym, ap, ◌∙◌}
use Rattle.std.specs.Prelude.{if◌then◌else◌}
use Rattle.std.specs.Option.{option_or, ok_or}
use Rattle.std.specs.List.{list_any}
use Rattle.std.specs.Cmp.Lexicographic.{slice_cmp, pointwise, texts_ties, nat_list_eq_equiv}
use Rattle.std.specs.Ordering.{nat_cmp, is_eq, match_ordering}
use Rattle.std.specs.declared.cmp.Ordering.{Ordering}
use Rattle.std.specs.declared.cmp.Ordering.TheVariants.{Less, Equal, Greater}
use Rattle.std.proofs.lemmas.Map.Steps.{list_any_congr}
use Rattle.std.proofs.lemmas.Bool.{and_parts}
use Rattle.toml.specs.Data.{Data, Items, no_items, item, Members, no_members, member, get_member, as_str, as_table, as_array}
use Rattle.maglev_texts.specs.Parsing.{address_of, stated_member_of}
use Rattle.maglev_texts.proofs.WeighedTexts.{words_mean_the_same}
use Rattle.maglev_texts.proofs.StatedTexts.{weighed_words_mean_the_same}
use Rattle.pool_versions.specs.declared.backend.Backend.{Backend}
use Rattle.pool_versions.specs.declared.backend.Member.{Member}
use Rattle.scenario_keys.specs.Lookups.{natural_of, given_or, all_items, all_of, items_at, text_at, has_only}
use Rattle.scenario_keys.specs.Words.{protocol_of_word}
use Rattle.scenario_keys.specs.Keys.{key_name, keys_of, version_keys, service_keys, number_of, number_if_of}
use Rattle.scenario_keys.specs.declared.key.Key.TheVariants as key
use Rattle.scenario_keys.specs.declared.key.Owner.TheVariants as owner
use Rattle.scenario_keys.specs.declared.formats.Format.{Format}
use Rattle.scenario_keys.specs.declared.formats.Format.TheVariants.{One, Two, Three}
use Rattle.scenario_keys.proofs.KeyNames.{HasMore, keys_grow}
use Rattle.version_drafts.specs.Plain.{PlainService, PlainVersion}
use Rattle.version_drafts.specs.Drafts.{PlainServiceDraft, PlainVersionDraft}
use Rattle.version_drafts.specs.Words.{member_in, served_member_of, servers_in}
use Rattle.version_drafts.specs.Reading.{Parts, of_members, word_of, has_change_key, members_in, parts_by, parts_of, service_draft, service_in, services_at, whole_draft, draft_by, version_draft, version_in, are_in_order, in_order, versions_with, versions_in}
use Rattle.scenario_pools.specs.Writing.{stated_with, stated, numbered_with, stated_version, left_by_version, after_version, beside, written_out, written_behind, most_places, versions_of}
use Rattle.scenario_pools.specs.declared.fault.PoolsFault.{PoolsFault}
use Rattle.scenario_pools.specs.declared.fault.PoolsFault.TheVariants as fault

-- a first one and the others
parts : {B : Type 0} (o : Option B) (r : Option (List B)) (xs : List B) → option_and_then (λ b. option_map (λ rest. b ∷ rest) r) o ≡ Some xs → (b : B) × (rest : List B) × (o ≡ Some b) × (r ≡ Some rest) × (xs ≡ b ∷ rest)
parts None r xs h = absurd cc
parts (Some b) None xs h = absurd cc
parts (Some b) (Some rest) xs h = (b, rest, refl, refl, (let e : b ∷ rest ≡ xs = cc in sym e))

items_same : {B C : Type 0} (f f' : Data → Option B) (g : B → Option C) → ((d : Data) (x : B) (y : C) → f d ≡ Some x → g x ≡ Some y → f' d ≡ Some x)
    → (ds : Items) (xs : List B) (ys : List C) → all_items f ds ≡ Some xs → all_of g xs ≡ Some ys → all_items f' ds ≡ Some xs
items_same f f' g same no_items xs ys h k = h
items_same f f' g same (item d ds) xs ys h k =
    let p = parts (f d) (all_items f ds) xs h in
    let q = parts (g p.0) (all_of g p.1) ys (ap (all_of g) (sym p.4) ∙ k) in
    let here : f' d ≡ Some p.0 = same d p.0 q.0 p.2 q.2 in
    let rest : all_items f' ds ≡ Some p.1 = items_same f f' g same ds p.1 q.1 p.3 q.3 in
    rw (here, rest) (ap Some (sym p.4))

under_items : {B C : Type 0} (f f' : Data → Option B) (g : B → Option C) → ((d : Data) (x : B) (y : C) → f d ≡ Some x → g x ≡ Some y → f' d ≡ Some x)
    → (o : Option Items) (xs : List B) (ys : List C) → option_and_then (all_items f) o ≡ Some xs → all_of g xs ≡ Some ys → option_and_then (all_items f') o ≡ Some xs
under_items f f' g same None xs ys h k = h
under_items f f' g same (Some ds) xs ys h k = items_same f f' g same ds xs ys h k

-- a word
either_way : (servers : List Backend) (text : List ℕ) (m : Member) → stated_member_of text ≡ Some m → member_in Three servers text ≡ Some m
either_way servers text m h = ap (λ (o : Option Member). option_or o (served_member_of servers text)) h

member_same : (f g : Format) → (f ≡ Three → ⊥) → HasMore f g → (servers : List Backend) (m : Member) (text : List ℕ) → member_in f servers text ≡ Some m → member_in g servers text ≡ Some m
member_same One One old more servers m text h = h
member_same One Two old more servers m text h = words_mean_the_same m text h
member_same One Three old more servers m text h = either_way servers text m (weighed_words_mean_the_same m text (words_mean_the_same m text h)).0
member_same Two One old more servers m text h = absurd (let e : false ≡ true = more Two refl in cc)
member_same Two Two old more servers m text h = h
member_same Two Three old more servers m text h = either_way servers text m (weighed_words_mean_the_same m text h).0
member_same Three g old more servers m text h = absurd (old refl)

word_same : (f g : Format) → (f ≡ Three → ⊥) → HasMore f g → (servers : List Backend) (o : Option (List ℕ)) (x : Option Member) (m : Member)
    → option_map (member_in f servers) o ≡ Some x → x ≡ Some m → option_map (member_in g servers) o ≡ Some x
word_same f g old more servers None x m h k = absurd cc
word_same f g old more servers (Some t) x m h k =
    let e : member_in f servers t ≡ x = cc in
    ap Some (member_same f g old more servers m t (e ∙ k) ∙ sym k)

-- a service with members
mapped : {A B : Type 0} (f : A → B) (o : Option A) (b : B) → option_map f o ≡ Some b → (a : A) × (o ≡ Some a) × (f a ≡ b)
mapped f None b h = absurd cc
mapped f (Some a) b h = (a, refl, cc)

chained : {A B : Type 0} (f : A → Option B) (o : Option A) (b : B) → option_and_then f o ≡ Some b → (a : A) × (o ≡ Some a) × (f a ≡ Some b)
chained f None b h = absurd cc
chained f (Some a) b h = (a, refl, h)

when_only : {A : Type 0} (b : Bool) (o o' : Option A) (a : A) → (o ≡ Some a → o' ≡ Some a) → (if b then None else o) ≡ Some a → (if b then None else o') ≡ Some a
when_only true o o' a same h = h
when_only false o o' a same h = same h

-- the words of a stated service are all members
stated_members : (d : PlainServiceDraft) (t : PlainService Member) → stated d ≡ Some t → (words : List (Option Member)) × (ms : List Member) × (d.members ≡ Some words) × (all_of (λ o. o) words ≡ Some ms)
stated_members d t h =
    let c = chained (stated_with d) d.members t h in
    let m = mapped (λ (members : List Member). let s : PlainService Member = record { vip = d.vip; proto = d.proto; port = d.port; members = members } in s) (all_of (λ o. o) c.0) t c.2 in
    (c.0, m.0, c.1, m.1)

members_same : (f g : Format) → (f ≡ Three → ⊥) → HasMore f g → (servers : List Backend) (d : Data) (p : Parts) (words : List (Option Member)) (ms : List Member)
    → members_in f servers d ≡ Some p → p.members ≡ Some words → all_of (λ o. o) words ≡ Some ms → members_in g servers d ≡ Some p
members_same f g old more servers d p words ms h is all =
    let m = mapped of_members (option_and_then (all_items (word_of f servers)) (as_array d)) p h in
    let same : m.0 ≡ words = (let e : Some m.0 ≡ Some words = ap (λ (q : Parts). q.members) m.2 ∙ is in cc) in
    let good : all_of (λ (o : Option Member). o) m.0 ≡ Some ms = ap (all_of (λ (o : Option Member). o)) same ∙ all in
    ap (option_map of_members) (under_items (word_of f servers) (word_of g servers) (λ o. o) (λ d x m h k. word_same f g old more servers (as_str d) x m h k) (as_array d) m.0 ms m.1 good)
    ∙ ap Some m.2

parts_same : (f g : Format) → (f ≡ Three → ⊥) → HasMore f g → (servers : List Backend) (ms : Members) (o : Option Data) (p : Parts) (words : List (Option Member)) (members : List Member)
    → parts_by f servers false ms o ≡ Some p → p.members ≡ Some words → all_of (λ o. o) words ≡ Some members → parts_by g servers false ms o ≡ Some p
parts_same f g old more servers ms None p words members h is all = absurd cc
parts_same f g old more servers ms (Some d) p words members h is all =
    when_only (has_change_key ms) (members_in f servers d) (members_in g servers d) p (λ e. members_same f g old more servers d p words members e is all) h

abbrev made_service : Option ℕ → Option ℕ → Option ℕ → Option Parts → Option PlainServiceDraft
made_service a b c parts =
    option_and_then (λ vip. option_and_then (λ proto. option_and_then (λ port. option_map (λ p. record { vip = vip; proto = proto; port = port; members = p.members; changes = p.changes }) parts) c) b) a

service_parts : (a b c : Option ℕ) (ps : Option Parts) (s : PlainServiceDraft) → made_service a b c ps ≡ Some s → (p : Parts) × (ps ≡ Some p) × (p.members ≡ s.members)
service_parts None b c ps s h = absurd cc
service_parts (Some x) None c ps s h = absurd cc
service_parts (Some x) (Some y) None ps s h = absurd cc
service_parts (Some x) (Some y) (Some z) None s h = absurd cc
service_parts (Some x) (Some y) (Some z) (Some p) s h =
    (p, refl, (let e : Some p.members ≡ Some s.members = ap (option_map (λ (t : PlainServiceDraft). t.members)) h in cc))

service_draft_same : (f g : Format) → (f ≡ Three → ⊥) → HasMore f g → (servers : List Backend) (ms : Members) (s : PlainServiceDraft) (t : PlainService Member)
    → service_draft f servers false ms ≡ Some s → stated s ≡ Some t → service_draft g servers false ms ≡ Some s
unfolding service_draft
service_draft_same f g old more servers ms s t h k =
    let a = option_and_then address_of (text_at (key_name key.Vip) ms) in
    let b = option_and_then protocol_of_word (text_at (key_name key.Proto) ms) in
    let p = service_parts a b (number_of key.Port ms) (parts_of f servers false ms) s h in
    let w = stated_members s t k in
    let same : parts_of g servers false ms ≡ Some p.0 = parts_same f g old more servers ms (get_member (key_name key.Members) ms) p.0 w.0 w.1 p.1 (p.2 ∙ w.2) w.3 in
    ap (made_service a b (number_of key.Port ms)) (same ∙ sym p.1) ∙ h

when_both : {A : Type 0} (b c : Bool) (o o' : Option A) (a : A) → (b ≡ true → c ≡ true) → (b ≡ true → o ≡ Some a → o' ≡ Some a) → (if b then o else None) ≡ Some a → (if c then o' else None) ≡ Some a
when_both false c o o' a more same h = absurd cc
when_both true c o o' a more same h = ap (λ (x : Bool). if x then o' else None) (more refl) ∙ same refl h

in_table : {A : Type 0} (f f' : Members → Option A) (o : Option Members) (a : A) → ((ms : Members) → f ms ≡ Some a → f' ms ≡ Some a) → option_and_then f o ≡ Some a → option_and_then f' o ≡ Some a
in_table f f' None a same h = absurd cc
in_table f f' (Some ms) a same h = same ms h

service_same : (f g : Format) → (f ≡ Three → ⊥) → HasMore f g → (servers : List Backend) (d : Data) (s : PlainServiceDraft) (t : PlainService Member)
    → service_in f servers false d ≡ Some s → stated s ≡ Some t → service_in g servers false d ≡ Some s
service_same f g old more servers d s t h k =
    in_table (λ ms. if has_only (service_keys f) ms then service_draft f servers false ms else None) (λ ms. if has_only (service_keys g) ms then service_draft g servers false ms else None) (as_table d) s
    (λ ms. when_both (has_only (service_keys f) ms) (has_only (service_keys g) ms) (service_draft f servers false ms) (service_draft g servers false ms) s
    (keys_grow owner.Service f g more ms) (λ b e. service_draft_same f g old more servers ms s t e k)) h

-- a key that a table may not have is missing
missing_step : (name l : List ℕ) (keys : List (List ℕ)) (r : Ordering) (d : Data) (o : Option Data) → slice_cmp nat_cmp name l ≡ r → list_any (pointwise nat_eq l) keys ≡ true → list_any (pointwise nat_eq name) keys ≡ false
    → o ≡ None → match_ordering r o (Some d) o ≡ None
missing_step name l keys Less d o same here not_there rest = rest
missing_step name l keys Equal d o same here not_there rest =
    let one : pointwise nat_eq name l ≡ true = texts_ties name l ∙ ap is_eq same in
    let both : list_any (pointwise nat_eq name) keys ≡ list_any (pointwise nat_eq l) keys = list_any_congr nat_list_eq_equiv name l keys one in
    absurd (let e : false ≡ true = sym not_there ∙ both ∙ here in cc)
missing_step name l keys Greater d o same here not_there rest = rest

pub missing : (name : List ℕ) (keys : List (List ℕ)) (ms : Members) → has_only keys ms ≡ true → list_any (pointwise nat_eq name) keys ≡ false → get_member name ms ≡ None
missing name keys no_members only not_there = refl
missing name keys (member l d ms) only not_there =
    let p = and_parts (list_any (pointwise nat_eq l) keys) (has_only keys ms) only in
    missing_step name l keys (slice_cmp nat_cmp name l) d (get_member name ms) refl p.0 not_there (missing name keys ms p.1 not_there)

-- in formats 1 and 2 no version has a base
no_base_key : (f : Format) → (f ≡ Three → ⊥) → list_any (pointwise nat_eq (key_name key.Base)) (version_keys f) ≡ false
unfolding keys_of
no_base_key One old = refl
no_base_key Two old = refl
no_base_key Three old = absurd (old refl)

base_missing : (f : Format) → (f ≡ Three → ⊥) → (ms : Members) → has_only (version_keys f) ms ≡ true → number_if_of key.Base ms ≡ Some None
base_missing f old ms only =
    ap (given_or None (λ d. option_map (λ n. Some n) (natural_of 0 4294967295 d))) (missing (key_name key.Base) (version_keys f) ms only (no_base_key f old))

-- a version without a base
abbrev whole_of : ℕ → List PlainServiceDraft → PlainVersionDraft
whole_of number services = record { number = number; base = None; changes = []; services = services }

when_not : {A : Type 0} (b : Bool) (o : Option A) (a : A) → (if b then None else o) ≡ Some a → o ≡ Some a
when_not true o a h = absurd cc
when_not false o a h = h

-- the number and the services of a version without a base
whole_parts : (f : Format) (servers : List Backend) (ms : Members) (v : PlainVersionDraft) → number_if_of key.Base ms ≡ Some None → version_draft f servers ms ≡ Some v
    → (number : ℕ) × (services : List PlainServiceDraft) × (number_of key.Number ms ≡ Some number) × (has_change_key ms ≡ false) × (services_at f servers ms ≡ Some services) × (whole_of number services ≡ v)
unfolding version_draft
whole_parts f servers ms v no_base h =
    let n = chained (λ (number : ℕ). option_and_then (draft_by f servers number ms) (number_if_of key.Base ms)) (number_of key.Number ms) v h in
    let whole : whole_draft f servers n.0 ms ≡ Some v = ap (option_and_then (draft_by f servers n.0 ms)) (sym no_base) ∙ n.2 in
    let s = mapped (whole_of n.0) (services_at f servers ms) v (when_not (has_change_key ms) (option_map (whole_of n.0) (services_at f servers ms)) v whole) in
    (n.0, s.0, n.1, not_changed (has_change_key ms) (option_map (whole_of n.0) (services_at f servers ms)) v whole, s.1, s.2)
  where
    not_changed : (b : Bool) (o : Option PlainVersionDraft) (a : PlainVersionDraft) → (if b then None else o) ≡ Some a → b ≡ false
    not_changed true o a h = absurd cc
    not_changed false o a h = refl

whole_again : (g : Format) (servers : List Backend) (ms : Members) (number : ℕ) (services : List PlainServiceDraft) → number_if_of key.Base ms ≡ Some None → number_of key.Number ms ≡ Some number
    → has_change_key ms ≡ false → services_at g servers ms ≡ Some services → version_draft g servers ms ≡ Some (whole_of number services)
unfolding version_draft
whole_again g servers ms number services no_base numbered not_changed held =
    ap (option_and_then (λ (number : ℕ). option_and_then (draft_by g servers number ms) (number_if_of key.Base ms))) numbered
    ∙ ap (option_and_then (draft_by g servers number ms)) no_base
    ∙ ap (λ (b : Bool). if b then None else option_map (whole_of number) (services_at g servers ms)) not_changed
    ∙ ap (option_map (whole_of number)) held

version_draft_same : (f g : Format) → (f ≡ Three → ⊥) → HasMore f g → (servers : List Backend) (ms : Members) (v : PlainVersionDraft) (w : PlainVersion Member)
    → has_only (version_keys f) ms ≡ true → version_draft f servers ms ≡ Some v → stated_version v ≡ Some w → version_draft g servers ms ≡ Some v
version_draft_same f g old more servers ms v w only h k =
    let no_base = base_missing f old ms only in
    let p = whole_parts f servers ms v no_base h in
    let good = mapped (numbered_with v.number) (all_of stated v.services) w k in
    let same : p.1 ≡ v.services = ap (λ (u : PlainVersionDraft). u.services) p.5 in
    let all : all_of stated p.1 ≡ Some good.0 = ap (all_of stated) same ∙ good.1 in
    let held : services_at g servers ms ≡ Some p.1 = under_items (service_in f servers false) (service_in g servers false) stated (service_same f g old more servers) (items_at (key_name key.Services) ms) p.1 good.0 p.4 all in
    whole_again g servers ms p.0 p.1 no_base p.2 p.3 held ∙ ap Some p.5

kept_if : {A : Type 0} (b : Bool) (o : Option A) (a : A) → (if b then o else None) ≡ Some a → (b ≡ true) × (o ≡ Some a)
kept_if true o a h = (refl, h)
kept_if false o a h = absurd cc

version_same : (f g : Format) → (f ≡ Three → ⊥) → HasMore f g → (servers : List Backend) (d : Data) (v : PlainVersionDraft) (w : PlainVersion Member)
    → version_in f servers d ≡ Some v → stated_version v ≡ Some w → version_in g servers d ≡ Some v
version_same f g old more servers d v w h k =
    in_table (λ ms. if has_only (version_keys f) ms then version_draft f servers ms else None) (λ ms. if has_only (version_keys g) ms then version_draft g servers ms else None) (as_table d) v
    (λ ms. when_both (has_only (version_keys f) ms) (has_only (version_keys g) ms) (version_draft f servers ms) (version_draft g servers ms) v
    (keys_grow owner.Version f g more ms) (λ only e. version_draft_same f g old more servers ms v w only e k)) h

-- a version of these formats has no base
version_whole : (f : Format) → (f ≡ Three → ⊥) → (servers : List Backend) (d : Data) (v : PlainVersionDraft) → version_in f servers d ≡ Some v → v.base ≡ None
version_whole f old servers d v h =
    let c = chained (λ ms. if has_only (version_keys f) ms then version_draft f servers ms else None) (as_table d) v h in
    let k = kept_if (has_only (version_keys f) c.0) (version_draft f servers c.0) v c.2 in
    let p = whole_parts f servers c.0 v (base_missing f old c.0 k.0) k.1 in
    sym (ap (λ (u : PlainVersionDraft). u.base) p.5)

-- versions, one after another
first_written : (r : Result (PlainVersion Member) PoolsFault) (rest : PlainVersion Member → Result (List (PlainVersion Member)) PoolsFault) (ws : List (PlainVersion Member))
    → after_version r rest ≡ Ok ws → (w : PlainVersion Member) × (r ≡ Ok w) × (rest w ≡ Ok ws)
first_written (Ok w) rest ws h = (w, refl, h)
first_written (Err e) rest ws h = absurd cc

of_ok : (o : Option (PlainVersion Member)) (w : PlainVersion Member) → ok_or o fault.BadMember ≡ Ok w → o ≡ Some w
of_ok None w h = absurd cc
of_ok (Some v) w h = (let e : v ≡ w = cc in ap Some e)

versions_same : (f g : Format) → (f ≡ Three → ⊥) → HasMore f g → (servers : List Backend) (room : ℕ) (earlier : List (PlainVersion Member)) (items : Items) (ds : List PlainVersionDraft) (ws : List (PlainVersion Member))
    → all_items (version_in f servers) items ≡ Some ds → written_behind room earlier ds ≡ Ok ws → all_items (version_in g servers) items ≡ Some ds
versions_same f g old more servers room earlier no_items ds ws h k = h
versions_same f g old more servers room earlier (item d items) ds ws h k =
    let p = parts (version_in f servers d) (all_items (version_in f servers) items) ds h in
    let behind : written_behind room earlier (p.0 ∷ p.1) ≡ Ok ws = ap (written_behind room earlier) (sym p.4) ∙ k in
    let q = first_written (written_out room earlier p.0) (λ v. written_behind (left_by_version room v) (earlier ++ v ∷ []) p.1) ws behind in
    let good : stated_version p.0 ≡ Some q.0 = of_ok (stated_version p.0) q.0 (ap (beside room earlier p.0) (sym (version_whole f old servers d p.0 p.2)) ∙ q.1) in
    let here : version_in g servers d ≡ Some p.0 = version_same f g old more servers d p.0 q.0 p.2 good in
    let rest : all_items (version_in g servers) items ≡ Some p.1 = versions_same f g old more servers (left_by_version room q.0) (earlier ++ q.0 ∷ []) items p.1 ws p.3 q.2 in
    rw (here, rest) (ap Some (sym p.4))

-- drafts that are in order
ordered : (ds es : List PlainVersionDraft) → in_order ds ≡ Some es → ds ≡ es
ordered ds es h = (kept_same (are_in_order [] ds) h)
  where
    kept_same : (b : Bool) → (if b then Some ds else None) ≡ Some es → ds ≡ es
    kept_same true h = cc
    kept_same false h = absurd cc

-- The versions that a document means in format 1 or 2 it means in each later format too.
pub versions_mean_the_same : (f g : Format) → (f ≡ Three → ⊥) → HasMore f g → (ms : Members) (ds : List PlainVersionDraft) (ws : List (PlainVersion Member))
    → versions_in f ms ≡ Some ds → versions_of ds ≡ Ok ws → versions_in g ms ≡ Some ds
unfolding versions_of
versions_mean_the_same f g old more ms ds ws h k =
    let s = chained (λ servers. versions_with f servers ms) (servers_in ms) ds h in
    let o = chained in_order (option_and_then (all_items (version_in f s.0)) (items_at (key_name key.Versions) ms)) ds s.2 in
    let i = chained (all_items (version_in f s.0)) (items_at (key_name key.Versions) ms) o.0 o.1 in
    let same : o.0 ≡ ds = ordered o.0 ds o.2 in
    let read : all_items (version_in g s.0) i.0 ≡ Some o.0 = versions_same f g old more s.0 most_places [] i.0 o.0 ws i.2 (ap (written_behind most_places []) same ∙ k) in
    ap (option_and_then (λ servers. versions_with g servers ms)) s.1
    ∙ ap (λ (x : Option Items). option_and_then in_order (option_and_then (all_items (version_in g s.0)) x)) i.1
    ∙ ap (option_and_then in_order) read
    ∙ o.2
