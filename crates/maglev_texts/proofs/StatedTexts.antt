-- Member words that may say that a member drains.
use Rattle.std.proofs.Common.{◌≡◌, ℕ, ◌<◌, ◌≤◌, ◌^◌, ◌==◌, Bool, true, false, List, [], ◌∷◌, ◌++◌, Option, Some, None, refl, sym, ap, ◌∙◌, subst, arith, append_assoc}
use Rattle.std.specs.Prelude.{option_map, option_and_then, if◌then◌else◌, codes}
use Rattle.std.specs.Fmt.{decimal}
use Rattle.std.specs.Str.{bytes_eq}
use Rattle.std.proofs.lemmas.Slice.Eq.{bytes_eq-Decides}
use Rattle.backend_names.specs.NameText.{is_name}
use Rattle.pool_versions.specs.declared.backend.Backend.{Backend}
use Rattle.pool_versions.specs.declared.backend.Member.{Member}
use Rattle.maglev_texts.specs.Parsing.{pieces, member_of, before_first, behind_first, weight_of, weighing, weighed_at, weighed_behind, weighed_member, weighed_member_of, draining_of, stated_member, stated_member_of}
use Rattle.maglev_texts.specs.Printing.{backend_text}
use Rattle.maglev_texts.specs.RoundTrips.{member_text, weighed_text, stated_text, StatedMembersAreReadBack, WeighedWordsMeanTheSame}
use Rattle.maglev_texts.proofs.Numerals.{decimal_digits}
use Rattle.maglev_texts.proofs.Joins.{Lacks, lacks_both, digits_lack, none_behind, before_at, behind_at, behind_lacking, parted, pieces_behind, first_piece}
use Rattle.maglev_texts.proofs.MemberTexts.{suffix, name_lacks, address_lacks, only_members_read}
use Rattle.maglev_texts.proofs.WeighedTexts.{weighed_read_back}

-- what stands behind a word's first slash doesn't say that it drains
abbrev pub Stays : Option (List ℕ) → Type 0
Stays None = Unit {0}
Stays (Some state) = bytes_eq state (codes "drain") ≡ false

stays_same : (text word : List ℕ) (o : Option (List ℕ)) → Stays o → stated_member text word o ≡ weighed_member_of text
stays_same text word None h = refl
stays_same text word (Some state) h = ap (λ (b : Bool). if b then option_map draining_of (weighed_member_of word) else weighed_member_of text) h

backend_lacks : (b : Backend) → is_name b.name ≡ true → b.addr < 2 ^ 32 → Lacks 47 (backend_text b)
backend_lacks b named few = lacks_both 47 b.name _ (name_lacks 47 b.name refl refl named) (refl, address_lacks 47 b.addr refl refl few)

suffix_stays : (up : Bool) → Stays (behind_first 47 (suffix up))
suffix_stays true = tt
suffix_stays false = refl

-- a word without a weight
plain_stays : (m : Member) (text : List ℕ) → member_of text ≡ Some m → Stays (behind_first 47 text)
plain_stays m text h =
    let r : (text ≡ member_text m) × (m.weight ≡ 1) × (is_name m.backend.name ≡ true) × (m.backend.addr < 2 ^ 32) × (m.draining ≡ false) = only_members_read m text h in
    let e : behind_first 47 text ≡ behind_first 47 (suffix m.up) = ap (behind_first 47) r.0 ∙ behind_lacking 47 (backend_text m.backend) (suffix m.up) (backend_lacks m.backend r.2 r.3) in
    subst Stays (sym e) (suffix_stays m.up)

-- what is behind the star
no_weight : (h m : Member) (word : List ℕ) → weighed_at h (word ∷ codes "drain" ∷ []) ≡ Some m → ⊥
no_weight h m word e = absurd cc

tail_stays : (h m : Member) (tail : List ℕ) (o : Option (List ℕ)) → behind_first 47 tail ≡ o → weighed_at h (pieces 47 tail) ≡ Some m → Stays o
tail_stays h m tail None e k = tt
tail_stays h m tail (Some state) e k = go (bytes_eq state (codes "drain")) refl
  where
    go : (b : Bool) → bytes_eq state (codes "drain") ≡ b → b ≡ false
    go false same = refl
    go true same =
        let s : state ≡ codes "drain" = (bytes_eq-Decides state (codes "drain")).0 same in
        let p : pieces 47 tail ≡ before_first 47 tail ∷ codes "drain" ∷ [] = first_piece 47 [] tail ∙ ap (λ (b : Option (List ℕ)). before_first 47 tail ∷ pieces_behind 47 b) (e ∙ ap Some s) in
        absurd (no_weight h m (before_first 47 tail) (ap (weighed_at h) (sym p) ∙ k))

-- a member of its text is up and has one behind its star
up_only : (h m : Member) (tail : List ℕ) (b : Bool) → h.up ≡ b → (if b then weighed_at h (pieces 47 tail) else None) ≡ Some m → (h.up ≡ true) × (weighed_at h (pieces 47 tail) ≡ Some m)
up_only h m tail true e k = (e, k)
up_only h m tail false e k = absurd cc

starred_stays : (m : Member) (text tail : List ℕ) (o : Option Member) → behind_first 42 text ≡ Some tail → member_of (before_first 42 text) ≡ o → option_and_then (weighed_behind tail) o ≡ Some m → Stays (behind_first 47 text)
starred_stays m text tail None e g k = absurd cc
starred_stays m text tail (Some h) e g k =
    let r : (before_first 42 text ≡ member_text h) × (h.weight ≡ 1) × (is_name h.backend.name ≡ true) × (h.backend.addr < 2 ^ 32) × (h.draining ≡ false) = only_members_read h (before_first 42 text) g in
    let u : (h.up ≡ true) × (weighed_at h (pieces 47 tail) ≡ Some m) = up_only h m tail h.up refl k in
    let head : before_first 42 text ≡ backend_text h.backend = r.0 ∙ ap (λ (b : Bool). backend_text h.backend ++ suffix b) u.0 ∙ none_behind (backend_text h.backend) in
    let whole : text ≡ backend_text h.backend ++ 42 ∷ tail = parted 42 text tail e ∙ ap (λ (l : List ℕ). l ++ 42 ∷ tail) head in
    let behind : behind_first 47 text ≡ behind_first 47 tail = ap (behind_first 47) whole ∙ behind_lacking 47 (backend_text h.backend) (42 ∷ tail) (backend_lacks h.backend r.2 r.3) in
    subst Stays (sym behind) (tail_stays h m tail (behind_first 47 tail) refl u.1)

word_stays : (m : Member) (text : List ℕ) (o : Option (List ℕ)) → behind_first 42 text ≡ o → weighed_member (before_first 42 text) o ≡ Some m → (before : o ≡ None → before_first 42 text ≡ text) → Stays (behind_first 47 text)
word_stays m text None e h before = plain_stays m text (ap member_of (sym (before refl)) ∙ h)
word_stays m text (Some tail) e h before = starred_stays m text tail (member_of (before_first 42 text)) e refl h

all_before : (c : ℕ) (text : List ℕ) → behind_first c text ≡ None → before_first c text ≡ text
all_before c [] h = refl
all_before c (b ∷ bs) h = go (b == c) (λ k. all_before c bs k) h
  where
    go : (t : Bool) → (behind_first c bs ≡ None → before_first c bs ≡ bs) → (if t then Some bs else behind_first c bs) ≡ None → (if t then [] else b ∷ before_first c bs) ≡ b ∷ bs
    go true later k = absurd cc
    go false later k = ap (λ (l : List ℕ). b ∷ l) (later k)

-- no such word drains
weighed_stays : (h m : Member) (up : Bool) (o : Option ℕ) → option_map (weighing h up) o ≡ Some m → m.draining ≡ false
weighed_stays h m up None k = absurd cc
weighed_stays h m up (Some n) k =
    let d : weighing h up n ≡ m = cc in
    sym (ap (λ (x : Member). x.draining) d)

none_member : (m : Member) → ◌≡◌ {A = Option Member} None (Some m) → ⊥
none_member m h = cc

at_stays : (h m : Member) (ps : List (List ℕ)) → weighed_at h ps ≡ Some m → m.draining ≡ false
at_stays h m [] k = absurd (none_member m k)
at_stays h m (word ∷ []) k = weighed_stays h m true (weight_of word) k
at_stays h m (word ∷ state ∷ []) k = go (bytes_eq state (codes "down")) k
  where
    go : (b : Bool) → (if b then option_map (weighing h false) (weight_of word) else None) ≡ Some m → m.draining ≡ false
    go true g = weighed_stays h m false (weight_of word) g
    go false g = absurd (none_member m g)
at_stays h m (word ∷ state ∷ more ∷ ps) k = absurd (none_member m k)

none_drains : (m : Member) (word : List ℕ) (tail : Option (List ℕ)) (o : Option Member) → member_of word ≡ o → weighed_member word tail ≡ Some m → m.draining ≡ false
none_drains m word None o e k = (only_members_read m word k).4
none_drains m word (Some tail) None e k =
    let none : ◌≡◌ {A = Option Member} None (Some m) = sym (ap (option_and_then (weighed_behind tail)) e) ∙ k in
    absurd (none_member m none)
none_drains m word (Some tail) (Some h) e k =
    let behind : weighed_behind tail h ≡ Some m = sym (ap (option_and_then (weighed_behind tail)) e) ∙ k in
    at_stays h m (pieces 47 tail) (up_only h m tail h.up refl behind).1

pub weighed_words_mean_the_same : WeighedWordsMeanTheSame
weighed_words_mean_the_same m text h = (
  stays_same text (before_first 47 text) (behind_first 47 text) (word_stays m text (behind_first 42 text) refl h (all_before 42 text)) ∙ h,
  none_drains m (before_first 42 text) (behind_first 42 text) (member_of (before_first 42 text)) refl h,
)

-- a member of each of the three states
abbrev pub stated : Backend → Bool → Bool → ℕ → Member
stated b up draining weight = record { backend = b; up = up; draining = draining; weight = weight }

read_stated : (b : Backend) (up draining : Bool) (n : ℕ) → 1 ≤ n → n ≤ 16 → (up ≡ true → draining ≡ false) → is_name b.name ≡ true → b.addr < 2 ^ 32 → stated_member_of (stated_text (stated b up draining n)) ≡ Some (stated b up draining n)
read_stated b true true n low high one named few = let e : true ≡ false = one refl in absurd cc
read_stated b true false n low high one named few =
    (weighed_words_mean_the_same (stated b true false n) (weighed_text (stated b true false n)) (weighed_read_back (stated b true false n) low high refl named few)).0
read_stated b false false n low high one named few =
    (weighed_words_mean_the_same (stated b false false n) (weighed_text (stated b false false n)) (weighed_read_back (stated b false false n) low high refl named few)).0
read_stated b false true n low high one named few =
    let word : List ℕ = backend_text b ++ 42 ∷ decimal n in
    let lacks : Lacks 47 word = lacks_both 47 (backend_text b) (42 ∷ decimal n) (backend_lacks b named few) (refl, digits_lack 47 (decimal n) refl (decimal_digits n (omega arith))) in
    let whole : stated_text (stated b false true n) ≡ word ++ codes "/drain" = sym (append_assoc (backend_text b) (42 ∷ decimal n) (codes "/drain")) in
    let behind : behind_first 47 (word ++ codes "/drain") ≡ Some (codes "drain") = behind_at 47 word (codes "drain") lacks in
    let before : before_first 47 (word ++ codes "/drain") ≡ word = before_at 47 word (codes "drain") lacks in
    let up : word ≡ weighed_text (stated b true false n) = ap (λ (l : List ℕ). backend_text b ++ 42 ∷ l) (sym (none_behind (decimal n))) in
    ap stated_member_of whole
    ∙ ap (stated_member (word ++ codes "/drain") (before_first 47 (word ++ codes "/drain"))) behind
    ∙ ap (λ (l : List ℕ). option_map draining_of (weighed_member_of l)) (before ∙ up)
    ∙ ap (option_map draining_of) (weighed_read_back (stated b true false n) low high refl named few)

pub stated_read_back : StatedMembersAreReadBack
stated_read_back m low high one named few = read_stated m.backend m.up m.draining m.weight low high one named few
