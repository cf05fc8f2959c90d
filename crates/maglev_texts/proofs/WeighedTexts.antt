-- Member words that may bear weights.
use Rattle.std.proofs.Common.{◌≡◌, ℕ, ◌<◌, ◌≤◌, ◌^◌, Bool, true, false, List, [], ◌++◌, Option, Some, None, refl, sym, ap, ◌∙◌, arith}
use Rattle.std.specs.Prelude.{nat_lt, option_map, option_and_then, if◌then◌else◌, codes}
use Rattle.std.specs.Fmt.{decimal}
use Rattle.std.proofs.lemmas.Bool.Decides.{nat_tests}
use Rattle.backend_names.specs.NameText.{is_name}
use Rattle.pool_versions.specs.declared.backend.Backend.{Backend}
use Rattle.pool_versions.specs.declared.backend.Member.{Member}
use Rattle.maglev_texts.specs.Parsing.{pieces, member_with, member_of, before_star, behind_star, weight_of, weighing, weighed_at, weighed_behind, weighed_member, weighed_member_of}
use Rattle.maglev_texts.specs.Printing.{backend_text}
use Rattle.maglev_texts.specs.RoundTrips.{member_text, weighed_text, WeighedMembersAreReadBack, MemberWordsMeanTheSame}
use Rattle.maglev_texts.proofs.Numerals.{read_back, decimal_digits}
use Rattle.maglev_texts.proofs.Joins.{Lacks, lacks_both, cut, last, digits_lack, none_behind, before_none, behind_none, before_at, behind_at}
use Rattle.maglev_texts.proofs.MemberTexts.{name_lacks, address_lacks, with_draining, members_read_back, only_members_read}

-- a text without a star is read as a member word
pub plain_word : (text : List ℕ) → Lacks 42 text → weighed_member_of text ≡ member_of text
plain_word text h = ap (λ (o : Option (List ℕ)). weighed_member (before_star text) o) (behind_none 42 text h) ∙ ap member_of (before_none 42 text h)

down_lacks : (up : Bool) → Lacks 42 (if up then [] else codes "/down")
down_lacks true = tt
down_lacks false = (refl, (refl, (refl, (refl, (refl, tt)))))

backend_lacks : (b : Backend) → is_name b.name ≡ true → b.addr < 2 ^ 32 → Lacks 42 (backend_text b)
backend_lacks b named few = lacks_both 42 b.name _ (name_lacks 42 b.name refl refl named) (refl, address_lacks 42 b.addr refl refl few)

member_lacks : (m : Member) → is_name m.backend.name ≡ true → m.backend.addr < 2 ^ 32 → Lacks 42 (member_text m)
member_lacks m named few = lacks_both 42 (backend_text m.backend) _ (backend_lacks m.backend named few) (down_lacks m.up)

pub words_mean_the_same : MemberWordsMeanTheSame
words_mean_the_same m text h =
    let r : (text ≡ member_text m) × (m.weight ≡ 1) × (is_name m.backend.name ≡ true) × (m.backend.addr < 2 ^ 32) × (m.draining ≡ false) = only_members_read m text h in
    ap weighed_member_of r.0 ∙ plain_word (member_text m) (member_lacks m r.2 r.3) ∙ ap member_of (sym r.0) ∙ h

weight_read_back : (n : ℕ) → 1 ≤ n → n ≤ 16 → weight_of (decimal n) ≡ Some n
weight_read_back n low high =
    let some : nat_lt 0 n ≡ true = grind (arith, nat_tests) in
    ap (option_and_then (λ k. if nat_lt 0 k then Some k else None)) (read_back 16 n (omega arith) high) ∙ ap (λ (b : Bool). if b then Some n else None) some

-- what stands behind the star is read back
tail_read_back : (m : Member) (up : Bool) (n : ℕ) → 1 ≤ n → n ≤ 16 → weighed_at m (pieces 47 (decimal n ++ (if up then [] else codes "/down"))) ≡ Some (weighing m up n)
tail_read_back m true n low high =
    ap (λ (l : List ℕ). weighed_at m (pieces 47 l)) (none_behind (decimal n))
    ∙ ap (weighed_at m) (last 47 [] (decimal n) (digits_lack 47 (decimal n) refl (decimal_digits n (omega arith))))
    ∙ ap (option_map (weighing m true)) (weight_read_back n low high)
tail_read_back m false n low high =
    ap (weighed_at m) (cut 47 [] (decimal n) (codes "down") (digits_lack 47 (decimal n) refl (decimal_digits n (omega arith))))
    ∙ ap (option_map (weighing m false)) (weight_read_back n low high)

-- a backend's text is a member word
backend_read_back : (b : Backend) → is_name b.name ≡ true → b.addr < 2 ^ 32 → member_of (backend_text b) ≡ Some (member_with b.name true b.addr)
backend_read_back b named few = ap member_of (sym (none_behind (backend_text b))) ∙ members_read_back (member_with b.name true b.addr) refl refl named few

pub weighed_read_back : WeighedMembersAreReadBack
weighed_read_back m low high stays named few =
    let lacks : Lacks 42 (backend_text m.backend) = backend_lacks m.backend named few in
    ap (λ (l : List ℕ). weighed_member l (behind_star (weighed_text m))) (before_at 42 (backend_text m.backend) (decimal m.weight ++ (if m.up then [] else codes "/down")) lacks)
    ∙ ap (weighed_member (backend_text m.backend)) (behind_at 42 (backend_text m.backend) (decimal m.weight ++ (if m.up then [] else codes "/down")) lacks)
    ∙ ap (option_and_then (weighed_behind (decimal m.weight ++ (if m.up then [] else codes "/down")))) (backend_read_back m.backend named few)
    ∙ tail_read_back (member_with m.backend.name true m.backend.addr) m.up m.weight low high
    ∙ ap (λ (b : Bool). Some (with_draining m b)) (sym stays)
