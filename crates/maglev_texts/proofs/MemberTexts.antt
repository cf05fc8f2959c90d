-- Members are read from what is printed of them, and from nothing else.
use Rattle.std.proofs.Common.{◌≡◌, ℕ, ◌<◌, ◌^◌, Bool, true, false, List, [], ◌∷◌, ◌++◌, length, Option, Some, None, refl, sym, ap, ◌∙◌, arith, append_assoc}
use Rattle.std.specs.Prelude.{◌==◌, ◌&&◌, ◌/◌, ◌%◌, nat_lt, option_map, if◌then◌else◌, codes}
use Rattle.std.specs.List.{list_all}
use Rattle.std.specs.Char.{is_ascii_alphanumeric}
use Rattle.std.specs.Fmt.{decimal}
use Rattle.std.specs.Str.{bytes_eq}
use Rattle.std.proofs.lemmas.Bool.{and_parts, ne_eqb}
use Rattle.std.proofs.lemmas.Slice.Eq.{bytes_eq-Decides}
use Rattle.backend_names.specs.NameText.{is_name, is_name_byte}
use Rattle.pool_versions.specs.declared.backend.Member.{Member}
use Rattle.maglev_texts.specs.Parsing.{pieces, address_of, weighing, member_with, member_at_address, member_at, member_of_pieces, member_of}
use Rattle.maglev_texts.specs.Printing.{address_text}
use Rattle.maglev_texts.specs.RoundTrips.{member_text, MembersAreReadBack, OnlyMembersAreRead}
use Rattle.maglev_texts.proofs.Numerals.{is_digit, decimal_digits}
use Rattle.maglev_texts.proofs.Joins.{Lacks, lacks_both, cut, last, joined, join_pieces, digits_lack, none_behind}
use Rattle.maglev_texts.proofs.Addresses.{addresses_read_back, only_addresses_read}

-- what passes a test lacks every byte that doesn't
lacks_by : (test : ℕ → Bool) (c : ℕ) (xs : List ℕ) → test c ≡ false → list_all test xs ≡ true → Lacks c xs
lacks_by test c [] other h = tt
lacks_by test c (x ∷ xs) other h =
    let p : (test x ≡ true) × (list_all test xs ≡ true) = and_parts (test x) (list_all test xs) h in
    (ne_eqb x c (λ e. let f : true ≡ false = sym p.0 ∙ ap test e ∙ other in absurd cc), lacks_by test c xs other p.1)

pub name_lacks : (c : ℕ) (name : List ℕ) → is_name_byte c ≡ false → is_ascii_alphanumeric c ≡ false → is_name name ≡ true → Lacks c name
name_lacks c [] other first h = tt
name_lacks c (x ∷ xs) other first h =
    let p : ((is_ascii_alphanumeric x && nat_lt (length xs) 32) ≡ true) × (list_all is_name_byte xs ≡ true) = and_parts (is_ascii_alphanumeric x && nat_lt (length xs) 32) (list_all is_name_byte xs) h in
    let q : (is_ascii_alphanumeric x ≡ true) × (nat_lt (length xs) 32 ≡ true) = and_parts (is_ascii_alphanumeric x) (nat_lt (length xs) 32) p.0 in
    (ne_eqb x c (λ e. let f : true ≡ false = sym q.0 ∙ ap is_ascii_alphanumeric e ∙ first in absurd cc), lacks_by is_name_byte c xs other p.1)

pub address_lacks : (c a : ℕ) → is_digit c ≡ false → (46 == c) ≡ false → a < 2 ^ 32 → Lacks c (address_text a)
address_lacks c a other dot few =
    let number : (n : ℕ) → n < 2 ^ 64 → Lacks c (decimal n) = λ n small. digits_lack c (decimal n) other (decimal_digits n small) in
    lacks_both c (decimal (a / 16777216)) _ (number (a / 16777216) (omega arith)) (
      dot,
      lacks_both c (decimal (a / 65536 % 256)) _ (number (a / 65536 % 256) (omega arith)) (
        dot,
        lacks_both c (decimal (a / 256 % 256)) _ (number (a / 256 % 256) (omega arith)) (dot, number (a % 256) (omega arith)),
      ),
    )

-- the text behind the name
abbrev pub suffix : Bool → List ℕ
suffix up = if up then [] else codes "/down"

abbrev pub place_text : ℕ → Bool → List ℕ
place_text a up = address_text a ++ suffix up

place_lacks : (a : ℕ) (up : Bool) → a < 2 ^ 32 → Lacks 64 (place_text a up)
place_lacks a true few = lacks_both 64 (address_text a) [] (address_lacks 64 a refl refl few) tt
place_lacks a false few = lacks_both 64 (address_text a) (codes "/down") (address_lacks 64 a refl refl few) (refl, (refl, (refl, (refl, (refl, tt)))))

-- the text of a member, as a name and a place
text_is : (name : List ℕ) (a : ℕ) (up : Bool) → member_text (member_with name up a) ≡ name ++ (64 ∷ place_text a up)
text_is name a up = append_assoc name (64 ∷ address_text a) (suffix up)

at_place : (name : List ℕ) (a : ℕ) (up : Bool) → a < 2 ^ 32 → member_at name (pieces 47 (place_text a up)) ≡ Some (member_with name up a)
at_place name a true few =
    ap (λ (l : List ℕ). member_at name (pieces 47 l)) (none_behind (address_text a))
    ∙ ap (member_at name) (last 47 [] (address_text a) (address_lacks 47 a refl refl few))
    ∙ ap (option_map (member_with name true)) (addresses_read_back a few)
at_place name a false few =
    ap (member_at name) (cut 47 [] (address_text a) (codes "down") (address_lacks 47 a refl refl few))
    ∙ ap (option_map (member_with name false)) (addresses_read_back a few)

-- a member that drains or doesn't
abbrev pub with_draining : Member → Bool → Member
with_draining m draining = record { backend = m.backend; up = m.up; draining = draining; weight = m.weight }

pub members_read_back : MembersAreReadBack
members_read_back m one stays named few =
    ap member_of (text_is m.backend.name m.backend.addr m.up)
    ∙ ap member_of_pieces (cut 64 [] m.backend.name (place_text m.backend.addr m.up) (name_lacks 64 m.backend.name refl refl named) ∙ ap (λ (l : List (List ℕ)). m.backend.name ∷ l) (last 64 [] (place_text m.backend.addr m.up) (place_lacks m.backend.addr m.up few)))
    ∙ ap (λ (b : Bool). if b then member_at m.backend.name (pieces 47 (place_text m.backend.addr m.up)) else None) named
    ∙ at_place m.backend.name m.backend.addr m.up few
    ∙ ap (λ (w : ℕ). Some (weighing m m.up w)) (sym one)
    ∙ ap (λ (b : Bool). Some (with_draining m b)) (sym stays)

-- what is read
abbrev pub IsTextOf : Member → List ℕ → Type 0
IsTextOf m text = (text ≡ member_text m) × (m.weight ≡ 1) × (is_name m.backend.name ≡ true) × (m.backend.addr < 2 ^ 32) × (m.draining ≡ false)

none_member : (m : Member) → ◌≡◌ {A = Option Member} None (Some m) → ⊥
none_member m h = cc

-- an address that was read, and what the member is
pub record IsAt (m : Member) (name : List ℕ) (up : Bool) (address : List ℕ) : Type 0 where
  pub name_is : m.backend.name ≡ name
  pub up_is : m.up ≡ up
  pub weight_is : m.weight ≡ 1
  pub printed : address ≡ address_text m.backend.addr
  pub small : m.backend.addr < 2 ^ 32
  pub stays : m.draining ≡ false

address_read : (m : Member) (name : List ℕ) (up : Bool) (address : List ℕ) (o : Option ℕ) → address_of address ≡ o → option_map (member_with name up) o ≡ Some m → IsAt m name up address
address_read m name up address None e h = absurd (none_member m h)
address_read m name up address (Some a) e h =
    let r : (address ≡ address_text a) × (a < 2 ^ 32) = only_addresses_read a address e in
    let d : member_with name up a ≡ m = cc in
    let at : m.backend.addr ≡ a = sym (ap (λ (x : Member). x.backend.addr) d) in
    record {
      name_is = sym (ap (λ (x : Member). x.backend.name) d);
      up_is = sym (ap (λ (x : Member). x.up) d);
      weight_is = sym (ap (λ (x : Member). x.weight) d);
      printed = r.0 ∙ ap address_text (sym at);
      small = (let q : a < 2 ^ 32 = r.1 in omega arith);
      stays = sym (ap (λ (x : Member). x.draining) d);
    }

-- a place that was read
abbrev pub ReadsPlace : Member → List ℕ → List (List ℕ) → Type 0
ReadsPlace m name ps = (m.backend.name ≡ name) × (joined 47 ps ≡ 47 ∷ place_text m.backend.addr m.up) × (m.weight ≡ 1) × (m.backend.addr < 2 ^ 32) × (m.draining ≡ false)

with_word : (m : Member) (name address word : List ℕ) (b : Bool) → bytes_eq word (codes "down") ≡ b → (if b then member_at_address name false address else None) ≡ Some m → ReadsPlace m name (address ∷ word ∷ [])
with_word m name address word false e h = absurd (none_member m h)
with_word m name address word true e h =
    let r : IsAt m name false address = address_read m name false address (address_of address) refl h in
    let w : word ≡ codes "down" = (bytes_eq-Decides word (codes "down")).0 e in
    let j : 47 ∷ (address ++ 47 ∷ (word ++ [])) ≡ 47 ∷ (address_text m.backend.addr ++ codes "/down") = ap (λ (l : List ℕ). 47 ∷ (l ++ 47 ∷ (word ++ []))) r.printed ∙ ap (λ (l : List ℕ). 47 ∷ (address_text m.backend.addr ++ 47 ∷ l)) (none_behind word ∙ w) in
    (r.name_is, j ∙ ap (λ (b : Bool). 47 ∷ place_text m.backend.addr b) (sym r.up_is), r.weight_is, r.small, r.stays)

place_read : (m : Member) (name : List ℕ) (ps : List (List ℕ)) → member_at name ps ≡ Some m → ReadsPlace m name ps
place_read m name [] h = absurd (none_member m h)
place_read m name (address ∷ []) h =
    let r : IsAt m name true address = address_read m name true address (address_of address) refl h in
    (r.name_is, ap (λ (l : List ℕ). 47 ∷ (l ++ [])) r.printed ∙ ap (λ (b : Bool). 47 ∷ place_text m.backend.addr b) (sym r.up_is), r.weight_is, r.small, r.stays)
place_read m name (address ∷ word ∷ []) h = with_word m name address word (bytes_eq word (codes "down")) refl h
place_read m name (address ∷ word ∷ more ∷ ps) h = absurd (none_member m h)

named_read : (m : Member) (name place : List ℕ) (b : Bool) → is_name name ≡ b → (if b then member_at name (pieces 47 place) else None) ≡ Some m → (m.backend.name ≡ name) × (place ≡ place_text m.backend.addr m.up) × (m.weight ≡ 1) × (is_name m.backend.name ≡ true) × (m.backend.addr < 2 ^ 32) × (m.draining ≡ false)
named_read m name place false e h = absurd (none_member m h)
named_read m name place true e h =
    let r : ReadsPlace m name (pieces 47 place) = place_read m name (pieces 47 place) h in
    let j : 47 ∷ place ≡ 47 ∷ place_text m.backend.addr m.up = sym (join_pieces 47 place) ∙ r.1 in
    let p : place ≡ place_text m.backend.addr m.up = cc in
    (r.0, p, r.2, ap is_name r.0 ∙ e, r.3, r.4)

pieces_read : (m : Member) (ps : List (List ℕ)) → member_of_pieces ps ≡ Some m → (joined 64 ps ≡ 64 ∷ member_text m) × (m.weight ≡ 1) × (is_name m.backend.name ≡ true) × (m.backend.addr < 2 ^ 32) × (m.draining ≡ false)
pieces_read m [] h = absurd (none_member m h)
pieces_read m (name ∷ []) h = absurd (none_member m h)
pieces_read m (name ∷ place ∷ []) h =
    let r : (m.backend.name ≡ name) × (place ≡ place_text m.backend.addr m.up) × (m.weight ≡ 1) × (is_name m.backend.name ≡ true) × (m.backend.addr < 2 ^ 32) × (m.draining ≡ false) = named_read m name place (is_name name) refl h in
    let j : 64 ∷ (name ++ 64 ∷ (place ++ [])) ≡ 64 ∷ (m.backend.name ++ 64 ∷ place_text m.backend.addr m.up) = ap (λ (l : List ℕ). 64 ∷ (l ++ 64 ∷ (place ++ []))) (sym r.0) ∙ ap (λ (l : List ℕ). 64 ∷ (m.backend.name ++ 64 ∷ l)) (none_behind place ∙ r.1) in
    (j ∙ ap (λ (l : List ℕ). 64 ∷ l) (sym (text_is m.backend.name m.backend.addr m.up)), r.2, r.3, r.4, r.5)
pieces_read m (name ∷ place ∷ more ∷ ps) h = absurd (none_member m h)

pub only_members_read : OnlyMembersAreRead
only_members_read m text h =
    let r : (joined 64 (pieces 64 text) ≡ 64 ∷ member_text m) × (m.weight ≡ 1) × (is_name m.backend.name ≡ true) × (m.backend.addr < 2 ^ 32) × (m.draining ≡ false) = pieces_read m (pieces 64 text) h in
    let j : 64 ∷ text ≡ 64 ∷ member_text m = sym (join_pieces 64 text) ∙ r.0 in
    let t : text ≡ member_text m = cc in
    (t, r.1, r.2, r.3, r.4)
