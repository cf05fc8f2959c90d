-- Backends among others.
use Rattle.std.specs.Prelude.{IfOk, Result, Ok, Err}
use Rattle.std.proofs.Common.{◌≡◌, ℕ, ◌+◌, ◌++◌, ◌<◌, cond, filter, not, take, Bool, true, false, ◌&&◌, ◌||◌, ◌==◌, List, [], ◌∷◌, length, get_or, refl, sym, ◌∙◌, ap, nat_eq, map}
use Rattle.std.specs.Cmp.{nat_eq_equiv}
use Rattle.std.specs.Cmp.Lexicographic.{pointwise, nat_list_eq_equiv}
use Rattle.std.specs.List.{list_any}
use Rattle.pool_versions.specs.Pool.{up_members}
use Rattle.pool_versions.specs.declared.backend.Backend.{Backend}
use Rattle.pool_versions.specs.declared.backend.Member.{Member}
use Rattle.selection.specs.Readied.{same_backend}
use Rattle.std.proofs.lemmas.List.{append-nil}
use Rattle.std.proofs.lemmas.List.Elements.{filter_more}
use Rattle.rollout_plan.specs.Text.{as_up, has_member, members_gone}

same_flip : (a b : Backend) → same_backend a b ≡ same_backend b a
same_flip a b =
    ap (λ v. v && (a.addr == b.addr)) (nat_list_eq_equiv.symm a.name b.name)
    ∙ ap (λ v. pointwise nat_eq b.name a.name && v) (nat_eq_equiv.symm a.addr b.addr)

-- which of two is named first doesn't matter
pub any_flip : (b : Backend) (bs : List Backend) → list_any (same_backend b) bs ≡ list_any (λ up. same_backend up b) bs
any_flip b [] = refl
any_flip b (c ∷ cs) = ap (λ v. v || list_any (same_backend b) cs) (same_flip b c) ∙ ap (λ v. same_backend c b || v) (any_flip b cs)

-- members that are made ones that are up have the same backends
pub any_as_up : (b : Backend) (ms : List Member) → list_any (λ m. same_backend m.backend b) (up_members (map as_up ms)) ≡ has_member ms b
any_as_up b [] = refl
any_as_up b (m ∷ ms) = ap (λ v. same_backend m.backend b || v) (any_as_up b ms)

pub any_of_backends : (b : Backend) (ms : List Member) → list_any (λ up. same_backend up b) (map (λ m. m.backend) ms) ≡ list_any (λ m. same_backend m.backend b) ms
any_of_backends b [] = refl
any_of_backends b (m ∷ ms) = ap (λ v. same_backend m.backend b || v) (any_of_backends b ms)

-- what a test finds in a list that an answer has
pub if_ok_by_items : {V E : Type 0} (items : V → List Backend) (bs : List Backend) (f : Backend → Bool) (r : Result V E) → IfOk r (λ v. items v ≡ bs) → ((b : Backend) → list_any (λ up. same_backend up b) bs ≡ f b) →
    IfOk r (λ v. (b : Backend) → list_any (λ up. same_backend up b) (items v) ≡ f b)
if_ok_by_items items bs f (Ok v) is h = λ b. ap (list_any (λ up. same_backend up b)) is ∙ h b
if_ok_by_items items bs f (Err e) is h = tt

-- the members of one more place, where the other list lacks it
pub gone_more : (before after : List Member) (i : ℕ) (m : Member) (old : List Member) → i < length before → m ≡ get_or before i m → has_member after m.backend ≡ false → old ≡ members_gone (take i before) after →
    old ++ m ∷ [] ≡ members_gone (take (i + 1) before) after
gone_more before after i m old low read lacks held =
    let q : Member → Bool = λ n. not (has_member after n.backend) in
    ap (λ (l : List Member). l ++ m ∷ []) held
    ∙ sym (filter_more q before i m low ∙ ap (λ (n : Member). filter q (take i before) ++ cond (q n) (n ∷ []) []) (sym read) ∙ ap (λ (b : Bool). filter q (take i before) ++ cond (not b) (m ∷ []) []) lacks)

-- and where it has it
pub gone_kept : (before after : List Member) (i : ℕ) (m : Member) (old : List Member) → i < length before → m ≡ get_or before i m → has_member after m.backend ≡ true → old ≡ members_gone (take i before) after →
    old ≡ members_gone (take (i + 1) before) after
gone_kept before after i m old low read has held =
    let q : Member → Bool = λ n. not (has_member after n.backend) in
    held
    ∙ sym (filter_more q before i m low ∙ ap (λ (n : Member). filter q (take i before) ++ cond (q n) (n ∷ []) []) (sym read) ∙ ap (λ (b : Bool). filter q (take i before) ++ cond (not b) (m ∷ []) []) has ∙ append-nil (filter q (take i before)))
