-- What a book of all sends of a record answers.
use Rattle.std.proofs.Common.{◌≡◌, ℕ, ◌+◌, Bool, true, false, List, [], ◌∷◌, length, map, Option, Some, None, refl, ap, ◌∙◌, subst, arith}
use Rattle.std.specs.Prelude.{option_map, is_some, if◌then◌else◌}
use Rattle.std.specs.List.{list_any}
use Rattle.five_tuple.specs.declared.Flow.{Flow}
use Rattle.connection_table.specs.Touches.{same_flow}
use Rattle.change_share.specs.declared.counts.ChangeCounts.{ChangeCounts}
use Rattle.cluster_node.specs.declared.events.LogEntry.{LogEntry}
use Rattle.run_report.specs.declared.noted.Noted.{Noted}
use Rattle.run_report.specs.declared.sending.Sending.{Sending}
use Rattle.run_report.specs.declared.sending.Split.{Split}
use Rattle.run_report.specs.Splits.{sent_by, last_sent, splits_of, flows_with, flows_of}
use Rattle.run_report.specs.Noting.{noted_with, besides_noted, sends_with, sends_of}
use Rattle.run_report.proofs.Noting.{splits_told}
use Rattle.connection_changes.specs.declared.causes.Change.{Change}
use Rattle.connection_changes.specs.declared.changed.ChangedFlows.{ChangedFlows}
use Rattle.connection_changes.specs.declared.sites.Site.{Site}
use Rattle.connection_changes.specs.Books.{AreChanged, placed_of, placed_changes}
use Rattle.connection_changes.specs.Changes.{change_in, changes_of, changed_with, changed_of, counts_of}
use Rattle.connection_changes.specs.Sites.{site_at, site_in}
use Rattle.connection_changes.specs.Turns.{Reckoning, reckoning_of}
use Rattle.connection_changes.proofs.Steps.{last_placed, changes_placed, changed_whole}
use Rattle.summary_book.specs.declared.seen.SeenSends.{SeenSends}
use Rattle.summary_book.specs.Bare.{bare_split, bare_change, bare_reckoning}
use Rattle.summary_book.specs.Books.{sents_of}
use Rattle.summary_book.specs.Looks.{AreSeen}
use Rattle.summary_book.specs.Sents.{sent_of, last_in, changes_in, count_in}
use Rattle.summary_book.proofs.Bare.{last_kept, changes_kept}

placed_sends : (past : List LogEntry) → map (λ n. n.sending) (placed_of past) ≡ sends_of past
placed_sends [] = refl
placed_sends (s ∷ past) = go (sent_by (length past) s.event s.outcome) (placed_sends past)
  where
    site : Site
    site = site_in (s ∷ past) s.outcome

    go : (o : Option Sending) → map (λ n. n.sending) (placed_of past) ≡ sends_of past → map (λ n. n.sending) (noted_with o site (placed_of past)) ≡ sends_with o (sends_of past)
    go None h = h
    go (Some t) h = ap (λ (ss : List Sending). t ∷ ss) h

changes_told : (past : List LogEntry) → changes_in (sents_of past) ≡ map bare_change (changes_of past)
changes_told past =
    changes_kept (placed_of past)
    ∙ ap (λ (ps : List Split). map bare_change (placed_changes ps (besides_noted (placed_of past)))) (splits_told past (placed_of past) (placed_sends past))
    ∙ ap (map bare_change) (changes_placed past)

splits_kept : (past : List LogEntry) (ps : List Split) → map (λ c. c.split) (map bare_change (map (λ p. change_in past p) ps)) ≡ map bare_split ps
splits_kept past [] = refl
splits_kept past (p ∷ ps) = ap (λ (qs : List Split). bare_split p ∷ qs) (splits_kept past ps)

-- the splits of the changes
splits_bare : (past : List LogEntry) → map (λ c. c.split) (changes_in (sents_of past)) ≡ map bare_split (splits_of past)
splits_bare past = ap (λ (cs : List Change). map (λ c. c.split) cs) (changes_told past) ∙ splits_kept past (splits_of past)

-- a send with where it was sent
abbrev put_at : List LogEntry → Sending → Noted Site
put_at past f = record { sending = f; beside = site_at past f.number }

same_known : (past : List LogEntry) (x : Flow) → is_some (last_in (sents_of past) x) ≡ is_some (last_sent past x)
same_known past x = ap is_some (last_kept (placed_of past) x ∙ ap (option_map sent_of) (last_placed past x)) ∙ go (last_sent past x)
  where
    go : (o : Option Sending) → is_some (option_map sent_of (option_map (λ f. put_at past f) o)) ≡ is_some o
    go None = refl
    go (Some f) = refl

count_told : (past : List LogEntry) → count_in (sents_of past) ≡ length (flows_of past)
count_told [] = refl
count_told (s ∷ past) = go (sent_by (length past) s.event s.outcome) (count_told past)
  where
    site : Site
    site = site_in (s ∷ past) s.outcome

    one : (b : Bool) (x : Flow) → length (flows_of past) + (if b then 0 else 1) ≡ length (if b then flows_of past else x ∷ flows_of past)
    one true x = omega arith
    one false x = omega arith

    go : (o : Option Sending) → count_in (sents_of past) ≡ length (flows_of past)
        → count_in (map sent_of (noted_with o site (placed_of past))) ≡ length (flows_with (λ x. last_sent past x) o (flows_of past))
    go None h = h
    go (Some t) h =
        ap (λ (k : ℕ). k + (if is_some (last_in (sents_of past) t.flow) then 0 else 1)) h
        ∙ ap (λ (b : Bool). length (flows_of past) + (if b then 0 else 1)) (same_known past t.flow)
        ∙ one (is_some (last_sent past t.flow)) t.flow

-- what a book says of all sends of a record
pub changes_are : (past : List LogEntry) (b : SeenSends) → AreSeen (sents_of past) b → b.changes.items ≡ map bare_change (changes_of past)
changes_are past b h = h.changes ∙ changes_told past

pub splits_are : (past : List LogEntry) (b : SeenSends) → AreSeen (sents_of past) b → b.splits.items ≡ map bare_split (splits_of past)
splits_are past b h = h.splits ∙ splits_bare past

pub flows_are : (past : List LogEntry) (b : SeenSends) → AreSeen (sents_of past) b → length b.last.sends ≡ length (flows_of past)
flows_are past b h = h.flows ∙ count_told past

same_changed : (ps : List Split) (xs : List Flow) → changed_with (map bare_split ps) xs ≡ changed_with ps xs
same_changed [] xs = refl
same_changed (p ∷ ps) xs = same_changed ps (if list_any (same_flow p.later.flow) xs then xs else p.later.flow ∷ xs)

pub changed_are : (past : List LogEntry) (b : SeenSends) (splits : List Split) (c : ChangedFlows) → AreSeen (sents_of past) b → splits ≡ b.splits.items → AreChanged (changed_with splits []) c → AreChanged (changed_of past) c
changed_are past b splits c h is changed =
    subst (λ (xs : List Flow). AreChanged xs c)
    (ap (λ (ps : List Split). changed_with ps []) (is ∙ splits_are past b h) ∙ same_changed (splits_of past) [] ∙ changed_whole past) changed

abbrev made : ℕ → ℕ → List Split → List Change → Reckoning
made connections changed splits changes = record { connections = connections; changed = changed; splits = splits; changes = changes }

pub reckoned_are : (past : List LogEntry) (b : SeenSends) (connections changed : ℕ) (splits : List Split) (changes : List Change) → AreSeen (sents_of past) b
    → connections ≡ length b.last.sends → changed ≡ length (changed_of past) → splits ≡ b.splits.items → changes ≡ b.changes.items
    → record { connections = connections; changed = changed; splits = splits; changes = changes } ≡ bare_reckoning (reckoning_of past)
reckoned_are past b connections changed splits changes h a c p q =
    ap (λ (k : ℕ). made k changed splits changes) (a ∙ flows_are past b h)
    ∙ ap (λ (k : ℕ). made (length (flows_of past)) k splits changes) c
    ∙ ap (λ (ps : List Split). made (length (flows_of past)) (length (changed_of past)) ps changes) (p ∙ splits_are past b h)
    ∙ ap (λ (cs : List Change). made (length (flows_of past)) (length (changed_of past)) (map bare_split (splits_of past)) cs) (q ∙ changes_are past b h)

abbrev counted : ℕ → ℕ → ChangeCounts
counted m n = record { connections = m; changed = n }

pub counts_are : (past : List LogEntry) (b : SeenSends) (connections changed : ℕ) → AreSeen (sents_of past) b → connections ≡ length b.last.sends → changed ≡ length (changed_of past)
    → record { connections = connections; changed = changed } ≡ counts_of past
counts_are past b connections changed h a c = ap (λ (k : ℕ). counted k changed) (a ∙ flows_are past b h) ∙ ap (λ (k : ℕ). counted (length (flows_of past)) k) c
