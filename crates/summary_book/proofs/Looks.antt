-- One send more among those that were seen.
use Rattle.std.proofs.Common.{◌≡◌, ℕ, ◌+◌, Bool, true, List, [], ◌∷◌, ◌++◌, length, map, Option, Some, None, Result, Ok, Err, refl, sym, ap, ◌∙◌, subst, arith}
use Rattle.std.specs.Prelude.{option_map, is_some, OnOk, if◌then◌else◌}
use Rattle.std.proofs.lemmas.List.{append-nil, map-append}
use Rattle.selection.specs.Readied.{same_backend}
use Rattle.selection.proofs.Among.{is_same}
use Rattle.pool_versions.specs.declared.backend.Backend.{Backend}
use Rattle.run_report.specs.declared.sending.Split.{Split}
use Rattle.connection_changes.specs.declared.causes.Change.{Change}
use Rattle.summary_book.specs.declared.last.Lasts.{Lasts}
use Rattle.summary_book.specs.declared.seen.SeenSends.{SeenSends}
use Rattle.summary_book.specs.declared.sent.Sent.{Sent}
use Rattle.summary_book.specs.Lasts.{AreLast, with_sent, RenewedAs}
use Rattle.summary_book.specs.Looks.{AreSeen}
use Rattle.summary_book.specs.Sents.{last_in, changes_in, changes_with, change_if, change_of, unversioned}

-- the split of each change
abbrev splits_of : List Change → List Split
splits_of cs = map (λ c. c.split) cs

seen_more : (done : List Sent) (later : Sent) (a b : SeenSends) → AreSeen done a → AreLast (with_sent (λ x. last_in done x) later) b.last
    → length b.last.sends ≡ length a.last.sends + (if is_some (last_in done later.flow) then 0 else 1)
    → b.splits.items ≡ a.splits.items ++ splits_of (changes_with (last_in done later.flow) later)
    → b.changes.items ≡ a.changes.items ++ changes_with (last_in done later.flow) later → AreSeen (later ∷ done) b
seen_more done later a b s last flows splits changes = record {
  last = record { each = last.each };
  flows = flows ∙ ap (λ (k : ℕ). k + (if is_some (last_in done later.flow) then 0 else 1)) s.flows;
  splits = splits ∙ ap (λ (ps : List Split). ps ++ splits_of (changes_with (last_in done later.flow) later)) s.splits
      ∙ sym (map-append (λ (c : Change). c.split) (changes_in done) (changes_with (last_in done later.flow) later));
  changes = changes ∙ ap (λ (cs : List Change). cs ++ changes_with (last_in done later.flow) later) s.changes;
}

-- a send that is no change leaves them
unchanged : (done : List Sent) (later : Sent) (a : SeenSends) (last : Lasts) → AreSeen done a → AreLast (with_sent (λ x. last_in done x) later) last
    → length last.sends ≡ length a.last.sends + (if is_some (last_in done later.flow) then 0 else 1) → changes_with (last_in done later.flow) later ≡ []
    → AreSeen (later ∷ done) (record a { last = last })
unchanged done later a last s h flows none =
    seen_more done later a (record a { last = last }) s h flows
    (sym (ap (λ (cs : List Change). a.splits.items ++ splits_of cs) none ∙ append-nil a.splits.items))
    (sym (ap (λ (cs : List Change). a.changes.items ++ cs) none ∙ append-nil a.changes.items))

pub renewed : (later : Sent) (done : List Sent) (a : SeenSends) (last : Lasts) → AreSeen done a → RenewedAs (λ x. last_in done x) later a.last last
    → AreSeen (later ∷ done) (record a { last = last })
renewed later done a last s h =
    let one : same_backend h.first.backend later.backend ≡ true = ap (λ (b : Backend). same_backend b later.backend) h.same ∙ is_same later.backend in
    unchanged done later a last s h.last
    (h.flows ∙ (let e : length a.last.sends ≡ length a.last.sends + 0 = omega arith in e) ∙ ap (λ (o : Option Sent). length a.last.sends + (if is_some o then 0 else 1)) (sym h.was))
    (ap (λ (o : Option Sent). changes_with o later) h.was ∙ ap (λ (b : Bool). if b then [] else change_of (unversioned h.first) later ∷ []) one)

pub not_renewed : (done : List Sent) (a : SeenSends) (last : Lasts) → AreSeen done a → last ≡ a.last → AreSeen done (record a { last = last })
not_renewed done a last s same = record {
  last = subst (λ (l : Lasts). AreLast (λ x. last_in done x) l) (sym same) s.last;
  flows = ap (λ (l : Lasts). length l.sends) same ∙ s.flows;
  splits = s.splits;
  changes = s.changes;
}

-- a flow's first send
pub came_first : (done : List Sent) (later : Sent) (a : SeenSends) (last : Lasts) → AreSeen done a → AreLast (with_sent (λ x. last_in done x) later) last
    → length last.sends ≡ length a.last.sends + (if is_some (last_in done later.flow) then 0 else 1) → None ≡ option_map unversioned (last_in done later.flow)
    → AreSeen (later ∷ done) (record a { last = last })
came_first done later a last s h flows none = unchanged done later a last s h flows (go (last_in done later.flow) none)
  where
    go : (o : Option Sent) → None ≡ option_map unversioned o → changes_with o later ≡ []
    go None e = refl
    go (Some t) e = absurd cc

-- a send that is compared with the one before it, of which no version is kept
pub compared : {E : Type 0} (r : Result (Unit {0}) E) (done : List Sent) (first later : Sent) (a : SeenSends) (last : Lasts) (b : SeenSends) → AreSeen done a
    → AreLast (with_sent (λ x. last_in done x) later) last → length last.sends ≡ length a.last.sends + (if is_some (last_in done later.flow) then 0 else 1)
    → Some first ≡ option_map unversioned (last_in done later.flow)
    → OnOk r (b.changes.items ≡ a.changes.items ++ change_if first later) → OnOk r (b.splits.items ≡ a.splits.items ++ splits_of (change_if first later))
    → b.last ≡ last → OnOk r (AreSeen (later ∷ done) b)
compared (Err e) done first later a last b s h flows is changes splits same = tt
compared (Ok u) done first later a last b s h flows is changes splits same =
    let made : change_if first later ≡ changes_with (last_in done later.flow) later = go (last_in done later.flow) is in
    seen_more done later a b s (subst (λ (l : Lasts). AreLast (with_sent (λ x. last_in done x) later) l) (sym same) h) (ap (λ (l : Lasts). length l.sends) same ∙ flows)
    (splits ∙ ap (λ (cs : List Change). a.splits.items ++ splits_of cs) made) (changes ∙ ap (λ (cs : List Change). a.changes.items ++ cs) made)
  where
    go : (o : Option Sent) → Some first ≡ option_map unversioned o → change_if first later ≡ changes_with o later
    go None e = absurd cc
    go (Some t) e =
        let same : first ≡ unversioned t = cc in
        ap (λ (f : Sent). change_if f later) same
