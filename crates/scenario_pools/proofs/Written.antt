-- Differences are written out.
use Rattle.std.proofs.Common.{◌≡◌, ℕ, List, [], ◌∷◌, ◌++◌, map, Option, Some, None, Result, Ok, option_map, option_and_then, refl, sym, ap, ◌∙◌, append_assoc}
use Rattle.std.proofs.lemmas.List.{append-nil}
use Rattle.std.specs.Option.{ok_or}
use Rattle.pool_versions.specs.declared.backend.Member.{Member}
use Rattle.scenario_keys.specs.Lookups.{all_of}
use Rattle.version_drafts.specs.Plain.{PlainService, PlainVersion, service_of, version_of}
use Rattle.version_drafts.specs.Drafts.{PlainVersionDraft, whole_service, whole_version}
use Rattle.scenario_pools.specs.Writing.{stated, numbered_with, after_version, written_out, left_by_version, written_behind, most_places, versions_of}
use Rattle.scenario_pools.specs.Laws.{WholeVersionsAreStated, service_words, version_words, DifferencesAreWrittenOut}
use Rattle.scenario_pools.specs.declared.fault.PoolsFault.{PoolsFault}
use Rattle.scenario_pools.specs.declared.fault.PoolsFault.TheVariants as fault

-- whole services are stated
all_whole : (ss : List (PlainService (Option Member))) → all_of stated (map whole_service ss) ≡ all_of service_of ss
all_whole [] = refl
all_whole (s ∷ ss) = ap (λ (o : Option (List (PlainService Member))). option_and_then (λ b. option_map (λ rest. b ∷ rest) o) (service_of s)) (all_whole ss)

whole_out : (room : ℕ) (earlier : List (PlainVersion Member)) (v : PlainVersion (Option Member)) → written_out room earlier (whole_version v) ≡ ok_or (version_of v) fault.BadMember
whole_out room earlier v = ap (λ (o : Option (List (PlainService Member))). ok_or (option_map (numbered_with v.number) o) fault.BadMember) (all_whole v.services)

-- versions behind others
abbrev behind : List (PlainVersion Member) → Option (List (PlainVersion Member)) → Result (List (PlainVersion Member)) PoolsFault
behind earlier o = ok_or (option_map (λ vs. earlier ++ vs) o) fault.BadMember

one_more : (earlier : List (PlainVersion Member)) (v : PlainVersion Member) (o : Option (List (PlainVersion Member))) → behind (earlier ++ v ∷ []) o ≡ behind earlier (option_map (λ rest. v ∷ rest) o)
one_more earlier v None = refl
one_more earlier v (Some vs) = ap Ok (append_assoc earlier (v ∷ []) vs)

then_rest : (room : ℕ) (earlier : List (PlainVersion Member)) (o : Option (PlainVersion Member)) (vs : List (PlainVersion (Option Member)))
    → ((room : ℕ) (earlier : List (PlainVersion Member)) → written_behind room earlier (map whole_version vs) ≡ behind earlier (all_of version_of vs))
    → after_version (ok_or o fault.BadMember) (λ v. written_behind (left_by_version room v) (earlier ++ v ∷ []) (map whole_version vs))
    ≡ behind earlier (option_and_then (λ b. option_map (λ rest. b ∷ rest) (all_of version_of vs)) o)
then_rest room earlier None vs rest = refl
then_rest room earlier (Some v) vs rest = rest (left_by_version room v) (earlier ++ v ∷ []) ∙ one_more earlier v (all_of version_of vs)

whole_behind : (room : ℕ) (earlier : List (PlainVersion Member)) (vs : List (PlainVersion (Option Member))) → written_behind room earlier (map whole_version vs) ≡ behind earlier (all_of version_of vs)
whole_behind room earlier [] = ap Ok (sym (append-nil earlier))
whole_behind room earlier (v ∷ vs) =
    ap (λ r. after_version r (λ v. written_behind (left_by_version room v) (earlier ++ v ∷ []) (map whole_version vs))) (whole_out room earlier v)
    ∙ then_rest room earlier (version_of v) vs (λ room earlier. whole_behind room earlier vs)

none_before : (o : Option (List (PlainVersion Member))) → behind [] o ≡ ok_or o fault.BadMember
none_before None = refl
none_before (Some vs) = refl

pub whole_versions_are_stated : WholeVersionsAreStated
unfolding versions_of
whole_versions_are_stated vs = whole_behind most_places [] vs ∙ none_before (all_of version_of vs)

-- words of members are the members
words_of_all : (ms : List Member) → all_of (λ (o : Option Member). o) (map (λ m. Some m) ms) ≡ Some ms
words_of_all [] = refl
words_of_all (m ∷ ms) = ap (option_map (λ (rest : List Member). m ∷ rest)) (words_of_all ms)

words_of_service : (s : PlainService Member) → service_of (service_words s) ≡ Some s
words_of_service s = ap (option_map (λ (members : List Member). let t : PlainService Member = record { vip = s.vip; proto = s.proto; port = s.port; members = members } in t)) (words_of_all s.members)

first_and_rest : {A : Type 0} (a : A) (as' : List A) (o : Option A) (r : Option (List A)) → o ≡ Some a → r ≡ Some as' → option_and_then (λ b. option_map (λ rest. b ∷ rest) r) o ≡ Some (a ∷ as')
first_and_rest a as' o r h k = rw (h, k) refl

words_of_services : (ss : List (PlainService Member)) → all_of service_of (map service_words ss) ≡ Some ss
words_of_services [] = refl
words_of_services (s ∷ ss) = first_and_rest s ss (service_of (service_words s)) (all_of service_of (map service_words ss)) (words_of_service s) (words_of_services ss)

words_of_version : (v : PlainVersion Member) → version_of (version_words v) ≡ Some v
words_of_version v = ap (option_map (λ (services : List (PlainService Member)). let w : PlainVersion Member = record { number = v.number; services = services } in w)) (words_of_services v.services)

words_of_versions : (vs : List (PlainVersion Member)) → all_of version_of (map version_words vs) ≡ Some vs
words_of_versions [] = refl
words_of_versions (v ∷ vs) = first_and_rest v vs (version_of (version_words v)) (all_of version_of (map version_words vs)) (words_of_version v) (words_of_versions vs)

twice : (vs : List (PlainVersion Member)) → map (λ v. whole_version (version_words v)) vs ≡ map whole_version (map version_words vs)
twice [] = refl
twice (v ∷ vs) = ap (λ (ds : List PlainVersionDraft). whole_version (version_words v) ∷ ds) (twice vs)

pub differences_are_written_out : DifferencesAreWrittenOut
differences_are_written_out ds vs h =
    ap versions_of (twice vs) ∙ whole_versions_are_stated (map version_words vs)
    ∙ ap (λ (o : Option (List (PlainVersion Member))). ok_or o fault.BadMember) (words_of_versions vs)
