-- The changes of a record, without the numbers on which no cause depends, are those between what is kept of its sends.
use Rattle.std.proofs.Common.{◌≡◌, ℕ, ◌+◌, Bool, true, false, List, [], ◌∷◌, ◌++◌, length, map, Option, Some, None, refl, sym, ap, ◌∙◌}
use Rattle.std.specs.Prelude.{option_map, is_some, if◌then◌else◌}
use Rattle.std.proofs.lemmas.List.{append-nil, length_push, map-append}
use Rattle.five_tuple.specs.declared.Flow.{Flow}
use Rattle.connection_table.specs.Touches.{same_flow}
use Rattle.selection.specs.Readied.{same_backend}
use Rattle.run_report.specs.declared.noted.Beside.{Beside}
use Rattle.run_report.specs.declared.noted.Noted.{Noted}
use Rattle.run_report.specs.declared.sending.Split.{Split}
use Rattle.run_report.specs.Noting.{last_noted, split_with, beside_with, splits_noted, besides_noted, count_noted}
use Rattle.connection_changes.specs.declared.causes.Change.{Change}
use Rattle.connection_changes.specs.declared.sites.Site.{Site}
use Rattle.connection_changes.specs.Books.{placed_changes}
use Rattle.summary_book.specs.declared.sent.Sent.{Sent}
use Rattle.summary_book.specs.Bare.{bare_change}
use Rattle.summary_book.specs.Sents.{sent_of, last_in, changes_in, changes_with, count_in}

pub last_kept : (ns : List (Noted Site)) (x : Flow) → last_in (map sent_of ns) x ≡ option_map sent_of (last_noted ns x)
last_kept [] x = refl
last_kept (n ∷ ns) x = go (same_flow n.sending.flow x) (last_kept ns x)
  where
    go : (b : Bool) → last_in (map sent_of ns) x ≡ option_map sent_of (last_noted ns x)
        → (if b then Some (sent_of n) else last_in (map sent_of ns) x) ≡ option_map sent_of (if b then Some n else last_noted ns x)
    go true h = refl
    go false h = h

pub count_kept : (ns : List (Noted Site)) → count_in (map sent_of ns) ≡ count_noted ns
count_kept [] = refl
count_kept (n ∷ ns) =
    ap (λ (o : Option Sent). count_in (map sent_of ns) + (if is_some o then 0 else 1)) (last_kept ns n.sending.flow)
    ∙ same (last_noted ns n.sending.flow) ∙ ap (λ (k : ℕ). k + (if is_some (last_noted ns n.sending.flow) then 0 else 1)) (count_kept ns)
  where
    same : (o : Option (Noted Site)) → count_in (map sent_of ns) + (if is_some (option_map sent_of o) then 0 else 1) ≡ count_in (map sent_of ns) + (if is_some o then 0 else 1)
    same None = refl
    same (Some m) = refl

-- the changes of some splits and of those behind them
both_placed : (o : Option (Noted Site)) (n : Noted Site) (ps : List Split) (bs : List (Beside Site)) → length ps ≡ length bs
    → placed_changes (ps ++ split_with o n) (bs ++ beside_with o n) ≡ placed_changes ps bs ++ placed_changes (split_with o n) (beside_with o n)
both_placed o n [] [] e = refl
both_placed o n [] (b ∷ bs) e = absurd cc
both_placed o n (p ∷ ps) [] e = absurd cc
both_placed o n (p ∷ ps) (b ∷ bs) e = ap (λ (cs : List Change). record { split = p; first = b.first; later = b.later } ∷ cs) (both_placed o n ps bs cc)

as_many : (ns : List (Noted Site)) → length (splits_noted ns) ≡ length (besides_noted ns)
as_many [] = refl
as_many (n ∷ ns) = go (last_noted ns n.sending.flow) (splits_noted ns) (besides_noted ns) (as_many ns)
  where
    more : {X Y : Type 0} (xs : List X) (ys : List Y) (x : X) (y : Y) → length xs ≡ length ys → length (xs ++ x ∷ []) ≡ length (ys ++ y ∷ [])
    more xs ys x y e = length_push xs x ∙ ap (λ (k : ℕ). k + 1) e ∙ sym (length_push ys y)

    none : {X Y : Type 0} (xs : List X) (ys : List Y) → length xs ≡ length ys → length (xs ++ []) ≡ length (ys ++ [])
    none xs ys e = ap length (append-nil xs) ∙ e ∙ sym (ap length (append-nil ys))

    by : (m : Noted Site) (ps : List Split) (bs : List (Beside Site)) (c : Bool) → length ps ≡ length bs
        → length (ps ++ (if c then [] else record { first = m.sending; later = n.sending } ∷ [])) ≡ length (bs ++ (if c then [] else record { first = m.beside; later = n.beside } ∷ []))
    by m ps bs true e = none ps bs e
    by m ps bs false e = more ps bs _ _ e

    go : (o : Option (Noted Site)) (ps : List Split) (bs : List (Beside Site)) → length ps ≡ length bs → length (ps ++ split_with o n) ≡ length (bs ++ beside_with o n)
    go None ps bs e = none ps bs e
    go (Some m) ps bs e = by m ps bs (same_backend m.sending.backend n.sending.backend) e

-- one change
one_kept : (o : Option (Noted Site)) (n : Noted Site) → changes_with (option_map sent_of o) (sent_of n) ≡ map bare_change (placed_changes (split_with o n) (beside_with o n))
one_kept None n = refl
one_kept (Some m) n = go (same_backend m.sending.backend n.sending.backend) refl
  where
    go : (b : Bool) → same_backend m.sending.backend n.sending.backend ≡ b → changes_with (Some (sent_of m)) (sent_of n) ≡ map bare_change (placed_changes (split_with (Some m) n) (beside_with (Some m) n))
    go true e = rw e refl
    go false e = rw e refl

pub changes_kept : (ns : List (Noted Site)) → changes_in (map sent_of ns) ≡ map bare_change (placed_changes (splits_noted ns) (besides_noted ns))
changes_kept [] = refl
changes_kept (n ∷ ns) =
    let o = last_noted ns n.sending.flow in
    ap (λ (cs : List Change). cs ++ changes_with (last_in (map sent_of ns) n.sending.flow) (sent_of n)) (changes_kept ns)
    ∙ ap (λ (p : Option Sent). map bare_change (placed_changes (splits_noted ns) (besides_noted ns)) ++ changes_with p (sent_of n)) (last_kept ns n.sending.flow)
    ∙ ap (λ (cs : List Change). map bare_change (placed_changes (splits_noted ns) (besides_noted ns)) ++ cs) (one_kept o n)
    ∙ sym (map-append bare_change (placed_changes (splits_noted ns) (besides_noted ns)) (placed_changes (split_with o n) (beside_with o n)))
    ∙ sym (ap (map bare_change) (both_placed o n (splits_noted ns) (besides_noted ns) (as_many ns)))
