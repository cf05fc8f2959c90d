-- Records of which the first are kept, and one more.
use Rattle.std.proofs.Common.{◌≡◌, ◌≤◌, ◌<◌, ◌⊎◌, inl, inr, ℕ, Bool, true, false, List, [], ◌∷◌, ◌++◌, length, map, reverse, refl, sym, ap, ◌∙◌, subst, arith, append_assoc, append-nil, length-append}
use Rattle.std.specs.Prelude.{nat_lt, if◌then◌else◌}
use Rattle.std.proofs.lemmas.Bool.{le-ltb, ltb-true}
use Rattle.std.proofs.lemmas.List.{length-map, length-reverse, reverse-append}
use Rattle.pcap_file.specs.declared.format.Frame.{Frame}
use Rattle.pcap_file.specs.Format.{Record, packet}
use Rattle.run_records.specs.Firsts.{Sparing, one_more, stopped, IsBounded, IsSplit}

none_of : {X : Type 0} (xs : List X) → length xs ≡ 0 → xs ≡ []
none_of [] h = refl
none_of (x ∷ xs) h = absurd (omega (arith, h))

-- what isn't kept, the first in front
abbrev pub rest_of : List Frame → List Record
rest_of items = reverse (map packet items)

-- one that is kept, where all are
pub kept_more : (kept : List Record) (items : List Frame) (p : Record) → length items ≡ 0 → (kept ++ p ∷ []) ++ rest_of items ≡ (kept ++ rest_of items) ++ p ∷ []
kept_more kept items p h =
    let none : rest_of items ≡ [] = ap rest_of (none_of items h) in
    ap (λ (l : List Record). (kept ++ p ∷ []) ++ l) none ∙ append-nil (kept ++ p ∷ [])
    ∙ sym (ap (λ (l : List Record). (kept ++ l) ++ p ∷ []) none ∙ ap (λ (l : List Record). l ++ p ∷ []) (append-nil kept))

-- one that isn't
pub others_more : (kept : List Record) (items : List Frame) (f : Frame) → kept ++ rest_of (f ∷ items) ≡ (kept ++ rest_of items) ++ packet f ∷ []
others_more kept items f =
    ap (λ (l : List Record). kept ++ l) (reverse-append (packet f ∷ []) (map packet items))
    ∙ sym (append_assoc kept (rest_of items) (packet f ∷ []))

-- where fewer are kept than may be, there are no others
pub none_yet : (others limit kept : ℕ) (items : List Frame) → others ≡ length items → (others ≡ 0) ⊎ (limit ≤ kept) → kept < limit → length items ≡ 0
none_yet others limit kept items count full room = elim full [
  | inl none ↦ omega (arith, count, none)
  | inr all ↦ absurd (omega (arith, all, room))
]

pub split_at : (limit : ℕ) (all kept : List Record) (others : ℕ) (items : List Frame) → all ≡ kept ++ rest_of items → others ≡ length items → (others ≡ 0) ⊎ (limit ≤ length kept) → IsSplit (λ rs. ⊥) limit all kept others
split_at limit all kept others items is count full =
    let many : length (rest_of items) ≡ length items = length-reverse (map packet items) ∙ length-map items packet in
    record {
      rest = rest_of items;
      is = is;
      count = omega (arith, count, many);
      full = elim full [
        | inl none ↦ inl (none_of (rest_of items) (omega (arith, many, count, none)))
        | inr enough ↦ inr (inl enough)
      ];
    }

-- a record is kept only where there is room for it
most_kept : (limit : ℕ) (f : Sparing) (p : Record) (b : Bool) → nat_lt (length f.kept) f.limit ≡ b → f.limit ≤ limit → length f.kept ≤ limit → length (if b then f.kept ++ p ∷ [] else f.kept) ≤ limit
most_kept limit f p false full under most = most
most_kept limit f p true room under most = omega (arith, length-append f.kept (p ∷ []), ltb-true (length f.kept) f.limit room, under)

module _ (Settle : List Record → Type 0) (limit : ℕ) where
  -- one record more changes nothing of what may be kept
  pub bounded_more : (f : Sparing) (p : Record) → IsBounded Settle limit f → IsBounded Settle limit (one_more f p)
  bounded_more f p b = elim b.1 [
    | inl same ↦ (most_kept limit f p (nat_lt (length f.kept) f.limit) refl (omega (arith, same)) b.0, inl same)
    | inr settled ↦
        let none : nat_lt (length f.kept) f.limit ≡ false = le-ltb (length f.kept) f.limit settled.1 in
        let kept : (one_more f p).kept ≡ f.kept = ap (λ (b : Bool). if b then f.kept ++ p ∷ [] else f.kept) none in
        subst (λ (rs : List Record). (length rs ≤ limit) × ((f.limit ≡ limit) ⊎ (Settle rs × (f.limit ≤ length rs)))) (sym kept) (b.0, inr settled)
  ]

  pub bounded_stopped : (f g : Sparing) → (g ≡ f) ⊎ ((g ≡ stopped f) × Settle f.kept) → IsBounded Settle limit f → IsBounded Settle limit g
  bounded_stopped f g asked b = elim asked [
    | inl same ↦ subst (λ (h : Sparing). IsBounded Settle limit h) (sym same) b
    | inr stop ↦ subst (λ (h : Sparing). IsBounded Settle limit h) (sym stop.0) (b.0, inr (stop.1, omega arith))
  ]

  pub split_by : (f : Sparing) (kept : List Record) (others : ℕ) → kept ≡ f.kept → IsSplit (λ rs. ⊥) f.limit f.all kept others → IsBounded Settle limit f → IsSplit Settle limit f.all kept others
  split_by f kept others is split b = record {
    rest = split.rest;
    is = split.is;
    count = split.count;
    full = elim split.full [
      | inl none ↦ inl none
      | inr full ↦ inr (elim full [
        | inl enough ↦ elim b.1 [
          | inl same ↦ inl (omega (arith, enough, same))
          | inr settled ↦ inr (subst (λ (rs : List Record). Settle rs) (sym is) settled.0)
        ]
        | inr never ↦ absurd never
      ])
    ];
  }
