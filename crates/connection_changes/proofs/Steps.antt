-- The changes after one event more.
use Rattle.std.proofs.Common.{◌≡◌, ℕ, ◌<◌, Bool, true, false, List, [], ◌∷◌, ◌++◌, length, map, Option, Some, None, refl, sym, ap, ◌∙◌, arith}
use Rattle.std.specs.Prelude.{◌==◌, if◌then◌else◌, option_map}
use Rattle.std.specs.List.{All}
use Rattle.std.proofs.lemmas.Bool.{cond-true, cond-false, eq-eqb, ne_eqb}
use Rattle.std.proofs.lemmas.Option.{same_Some}
use Rattle.std.proofs.lemmas.List.{append-nil, map-append}
use Rattle.std.proofs.lemmas.List.Elements.{All-head, All-tail, All-weaker}
use Rattle.five_tuple.specs.declared.Flow.{Flow}
use Rattle.connection_table.specs.Touches.{same_flow}
use Rattle.selection.specs.Readied.{same_backend}
use Rattle.cluster_node.specs.declared.events.LogEntry.{LogEntry}
use Rattle.run_report.specs.declared.noted.Beside.{Beside}
use Rattle.run_report.specs.declared.noted.Noted.{Noted}
use Rattle.run_report.specs.declared.sending.Sending.{Sending}
use Rattle.run_report.specs.declared.sending.Split.{Split}
use Rattle.run_report.specs.Splits.{sent_by, last_after, last_sent, split_after, split_by, splits_of}
use Rattle.run_report.specs.Noting.{last_noted, noted_with, beside_with, besides_noted}
use Rattle.run_report.specs.Pairs.{IsSplit}
use Rattle.run_report.proofs.Pairs.{sent_number, at_below, each_split}
use Rattle.connection_changes.specs.declared.causes.Change.{Change}
use Rattle.connection_changes.specs.declared.sites.Site.{Site}
use Rattle.connection_changes.specs.Sites.{site_in, site_at}
use Rattle.connection_changes.specs.Changes.{change_in, changes_of, changed_with, changed_of}
use Rattle.connection_changes.specs.Books.{placed_changes, placed_of}

abbrev newest : LogEntry → List LogEntry → Option Sending
newest s past = sent_by (length past) s.event s.outcome

-- ---- the sites of earlier sends stay

site_head : (s : LogEntry) (past : List LogEntry) (k : ℕ) → k ≡ length past → site_at (s ∷ past) k ≡ site_in (s ∷ past) s.outcome
site_head s past k e = cond-true (k == length past) (site_in (s ∷ past) s.outcome) (site_at past k) (eq-eqb k (length past) e)

site_rest : (s : LogEntry) (past : List LogEntry) (k : ℕ) → k < length past → site_at (s ∷ past) k ≡ site_at past k
site_rest s past k low = cond-false (k == length past) (site_in (s ∷ past) s.outcome) (site_at past k) (ne_eqb k (length past) (λ e. absurd (omega arith)))

last_below : (past : List LogEntry) (x : Flow) (f : Sending) → last_sent past x ≡ Some f → f.number < length past
last_below [] x f h = absurd cc
last_below (s ∷ past) x f h = go (last_below past x f) (newest s past) refl h
  where
    by : (last_sent past x ≡ Some f → f.number < length past) → (t : Sending) → newest s past ≡ Some t → (b : Bool) → (if b then Some t else last_sent past x) ≡ Some f → f.number < length (s ∷ past)
    by older t e true h =
        let at : t.number ≡ length past = sent_number (length past) s.event s.outcome t e in
        let is : t.number ≡ f.number = ap (λ (z : Sending). z.number) (same_Some t f h) in
        let g : f.number < length (s ∷ past) = omega arith in g
    by older t e false h = let low : f.number < length past = older h in let g : f.number < length (s ∷ past) = omega arith in g

    go : (last_sent past x ≡ Some f → f.number < length past) → (o : Option Sending) → newest s past ≡ o → last_after x o (last_sent past x) ≡ Some f → f.number < length (s ∷ past)
    go older None e h = let low : f.number < length past = older h in let g : f.number < length (s ∷ past) = omega arith in g
    go older (Some t) e h = by older t e (same_flow t.flow x) h

-- a send with where it was sent
abbrev put_at : List LogEntry → Sending → Noted Site
put_at past f = record { sending = f; beside = site_at past f.number }

put_yet : (s : LogEntry) (past : List LogEntry) (x : Flow) → option_map (λ f. put_at (s ∷ past) f) (last_sent past x) ≡ option_map (λ f. put_at past f) (last_sent past x)
put_yet s past x = go (last_sent past x) refl
  where
    placed : Sending → Site → Noted Site
    placed f site = record { sending = f; beside = site }

    go : (o : Option Sending) → last_sent past x ≡ o → option_map (λ f. put_at (s ∷ past) f) o ≡ option_map (λ f. put_at past f) o
    go None e = refl
    go (Some f) e = ap (λ (site : Site). Some (placed f site)) (site_rest s past f.number (last_below past x f e))

-- ---- each flow's last send with where it was sent

pub last_placed : (past : List LogEntry) (x : Flow) → last_noted (placed_of past) x ≡ option_map (λ f. put_at past f) (last_sent past x)
last_placed [] x = refl
last_placed (s ∷ past) x = go (last_placed past x ∙ sym (put_yet s past x)) (newest s past) refl
  where
    site : Site
    site = site_in (s ∷ past) s.outcome

    Older : Type 0
    Older = last_noted (placed_of past) x ≡ option_map (λ f. put_at (s ∷ past) f) (last_sent past x)

    placed : Sending → Site → Noted Site
    placed f here = record { sending = f; beside = here }

    one : Older → (t : Sending) → newest s past ≡ Some t → (b : Bool)
        → (if b then Some (placed t site) else last_noted (placed_of past) x) ≡ option_map (λ f. put_at (s ∷ past) f) (if b then Some t else last_sent past x)
    one older t e true = ap (λ (here : Site). Some (placed t here)) (sym (site_head s past t.number (sent_number (length past) s.event s.outcome t e)))
    one older t e false = older

    go : Older → (o : Option Sending) → newest s past ≡ o → last_noted (noted_with o site (placed_of past)) x ≡ option_map (λ f. put_at (s ∷ past) f) (last_after x o (last_sent past x))
    go older None e = older
    go older (Some t) e = one older t e (same_flow t.flow x)

-- ---- where the packets of each split were sent

abbrev both_at : List LogEntry → Split → Beside Site
both_at past p = record { first = site_at past p.first.number; later = site_at past p.later.number }

both_yet : (s : LogEntry) (past : List LogEntry) (p : Split) → IsSplit past p → both_at (s ∷ past) p ≡ both_at past p
both_yet s past p is =
    ap (λ (a : Site). made a (site_at (s ∷ past) p.later.number)) (site_rest s past p.first.number (at_below past p.first.number p.first is.first))
    ∙ ap (λ (b : Site). made (site_at past p.first.number) b) (site_rest s past p.later.number (at_below past p.later.number p.later is.later))
  where
    made : Site → Site → Beside Site
    made a b = record { first = a; later = b }

map_same : {X Y : Type 0} (f g : X → Y) (xs : List X) → All (λ x. f x ≡ g x) xs → map f xs ≡ map g xs
map_same f g [] h = refl
map_same f g (x ∷ xs) h = ap (λ y. y ∷ map f xs) (All-head (λ x. f x ≡ g x) x xs h) ∙ ap (λ ys. g x ∷ ys) (map_same f g xs (All-tail (λ x. f x ≡ g x) x xs h))

all_yet : (s : LogEntry) (past : List LogEntry) → map (λ p. both_at (s ∷ past) p) (splits_of past) ≡ map (λ p. both_at past p) (splits_of past)
all_yet s past = map_same (λ p. both_at (s ∷ past) p) (λ p. both_at past p) (splits_of past)
    (All-weaker (IsSplit past) (λ p. both_at (s ∷ past) p ≡ both_at past p) (both_yet s past) (splits_of past) (each_split past))

pub besides_placed : (past : List LogEntry) → besides_noted (placed_of past) ≡ map (λ p. both_at past p) (splits_of past)
besides_placed [] = refl
besides_placed (s ∷ past) = go (besides_placed past ∙ sym (all_yet s past)) (newest s past) refl
  where
    site : Site
    site = site_in (s ∷ past) s.outcome

    here : Sending → Noted Site
    here t = record { sending = t; beside = site }

    made : Site → Site → Beside Site
    made a b = record { first = a; later = b }

    pair : Sending → Sending → Split
    pair f t = record { first = f; later = t }

    -- what the newest send is beside
    apart : (t f : Sending) → newest s past ≡ Some t → f.number < length past → (b : Bool)
        → (if b then [] else made (site_at past f.number) site ∷ []) ≡ map (λ p. both_at (s ∷ past) p) (if b then [] else pair f t ∷ [])
    apart t f e low true = refl
    apart t f e low false =
        ap (λ (a : Site). made a site ∷ []) (sym (site_rest s past f.number low))
        ∙ ap (λ (b : Site). made (site_at (s ∷ past) f.number) b ∷ []) (sym (site_head s past t.number (sent_number (length past) s.event s.outcome t e)))

    behind : (t : Sending) → newest s past ≡ Some t → (o : Option Sending) → last_sent past t.flow ≡ o
        → beside_with (option_map (λ f. put_at past f) o) (here t) ≡ map (λ p. both_at (s ∷ past) p) (split_after o t)
    behind t e None is = refl
    behind t e (Some f) is = apart t f e (last_below past t.flow f is) (same_backend f.backend t.backend)

    go : besides_noted (placed_of past) ≡ map (λ p. both_at (s ∷ past) p) (splits_of past) → (o : Option Sending) → newest s past ≡ o
        → besides_noted (noted_with o site (placed_of past)) ≡ map (λ p. both_at (s ∷ past) p) (splits_of past ++ split_by (λ x. last_sent past x) o)
    go older None e = older ∙ ap (λ (ps : List Split). map (λ p. both_at (s ∷ past) p) ps) (sym (append-nil (splits_of past)))
    go older (Some t) e =
        ap (λ (bs : List (Beside Site)). bs ++ beside_with (last_noted (placed_of past) t.flow) (here t)) older
        ∙ ap (λ (o : Option (Noted Site)). map (λ p. both_at (s ∷ past) p) (splits_of past) ++ beside_with o (here t)) (last_placed past t.flow)
        ∙ ap (λ (bs : List (Beside Site)). map (λ p. both_at (s ∷ past) p) (splits_of past) ++ bs) (behind t e (last_sent past t.flow) refl)
        ∙ sym (map-append (λ p. both_at (s ∷ past) p) (splits_of past) (split_after (last_sent past t.flow) t))

-- ---- the changes and the flows that changed

placed_each : (past : List LogEntry) (ps : List Split) → placed_changes ps (map (λ p. both_at past p) ps) ≡ map (λ p. change_in past p) ps
placed_each past [] = refl
placed_each past (p ∷ ps) = ap (λ (cs : List Change). change_in past p ∷ cs) (placed_each past ps)

pub changes_placed : (past : List LogEntry) → placed_changes (splits_of past) (besides_noted (placed_of past)) ≡ changes_of past
changes_placed past = ap (λ (bs : List (Beside Site)). placed_changes (splits_of past) bs) (besides_placed past) ∙ placed_each past (splits_of past)

pub changed_append : (ps qs : List Split) (xs : List Flow) → changed_with (ps ++ qs) xs ≡ changed_with qs (changed_with ps xs)
changed_append [] qs xs = refl
changed_append (p ∷ ps) qs xs = changed_append ps qs _

pub changed_whole : (past : List LogEntry) → changed_with (splits_of past) [] ≡ changed_of past
changed_whole [] = refl
changed_whole (s ∷ past) =
    changed_append (splits_of past) (split_by (λ x. last_sent past x) (newest s past)) []
    ∙ ap (λ (xs : List Flow). changed_with (split_by (λ x. last_sent past x) (newest s past)) xs) (changed_whole past)
