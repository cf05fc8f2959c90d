-- One send more among the last sends.
use Rattle.std.proofs.Common.{◌≡◌, ℕ, Bool, true, false, List, Option, Some, None, refl, sym, ap, ◌∙◌, subst}
use Rattle.std.specs.Prelude.{option_map, slice_get, is_some, if◌then◌else◌}
use Rattle.std.proofs.lemmas.Option.{same_Some, none-some}
use Rattle.five_tuple.specs.declared.Flow.{Flow}
use Rattle.connection_table.specs.Touches.{same_flow}
use Rattle.connection_table.proofs.Standing.{same_flow-true}
use Rattle.flow_map.specs.Maps.{value_of}
use Rattle.pool_versions.specs.declared.backend.Backend.{Backend}
use Rattle.backend_places.specs.Places.{Keeps}
use Rattle.summary_book.specs.declared.last.Last.{Last}
use Rattle.summary_book.specs.declared.last.Lasts.{Lasts}
use Rattle.summary_book.specs.declared.sent.Sent.{Sent}
use Rattle.summary_book.specs.Lasts.{told, AreLast}
use Rattle.summary_book.specs.Sents.{unversioned}

abbrev sent_from : Flow → Last → Backend → Sent
sent_from x l b = record { flow = x; backend = b; version = 0; origin = l.origin; node = l.node; worker = l.worker; life = l.life }

-- what an entry represents of a send
abbrev kept : Option Sent → Option (Option Sent)
kept o = option_map (λ s. Some (unversioned s)) o

-- an entry represents the same send while its backend keeps its place
told_yet : (old new : List Backend) → Keeps old new → (x : Flow) (o : Option Last) (s : Option Sent)
    → option_map (λ l. told old x l) o ≡ kept s → option_map (λ l. told new x l) o ≡ kept s
told_yet old new k x None s h = h
told_yet old new k x (Some l) None h = absurd cc
told_yet old new k x (Some l) (Some t) h = go (slice_get old l.place) refl
  where
    go : (b : Option Backend) → slice_get old l.place ≡ b → Some (told new x l) ≡ Some (Some (unversioned t))
    go None n = absurd (none-some (unversioned t) (same_Some None (Some (unversioned t)) (sym (ap (λ (y : Option Backend). Some (option_map (sent_from x l) y)) n) ∙ h)))
    go (Some b) n = ap (λ (y : Option Backend). Some (option_map (sent_from x l) y)) (k l.place b n ∙ sym n) ∙ h

-- the entry of a send at its backend's place
abbrev pub entry_of : ℕ → Sent → Last
entry_of place s = record { place = place; origin = s.origin; node = s.node; worker = s.worker; life = s.life }

-- a send is its flow's last
told_now : (new : List Backend) (place : ℕ) (later : Sent) → slice_get new place ≡ Some later.backend → (x : Flow) → same_flow later.flow x ≡ true
    → told new x (entry_of place later) ≡ Some (unversioned later)
told_now new place later at x is =
    subst (λ (y : Flow). told new y (entry_of place later) ≡ Some (unversioned later)) (same_flow-true later.flow x is)
    (ap (λ (b : Option Backend). option_map (sent_from later.flow (entry_of place later)) b) at)

pub last_more : (sent : Flow → Option Sent) (old new : Lasts) (place : ℕ) (later : Sent) → AreLast sent old → Keeps old.backends new.backends
    → slice_get new.backends place ≡ Some later.backend
    → ((x : Flow) → value_of x new.sends ≡ (if same_flow later.flow x then Some (entry_of place later) else value_of x old.sends))
    → AreLast (λ x. if same_flow later.flow x then Some later else sent x) new
last_more sent old new place later h k at put = record { each = λ x. go x (same_flow later.flow x) refl }
  where
    go : (x : Flow) (b : Bool) → same_flow later.flow x ≡ b
        → option_map (λ s. told new.backends x s) (value_of x new.sends) ≡ kept (if b then Some later else sent x)
    go x true is =
        ap (λ (o : Option Last). option_map (λ s. told new.backends x s) o)
        (put x ∙ ap (λ (c : Bool). if c then Some (entry_of place later) else value_of x old.sends) is)
        ∙ ap Some (told_now new.backends place later at x is)
    go x false is =
        ap (λ (o : Option Last). option_map (λ s. told new.backends x s) o)
        (put x ∙ ap (λ (c : Bool). if c then Some (entry_of place later) else value_of x old.sends) is)
        ∙ told_yet old.backends new.backends k x (value_of x old.sends) (sent x) (h.each x)

-- the flow has a last send, where its entry has this backend, and it went there
pub first_is : (sent : Flow → Option Sent) (old : Lasts) (flow : Flow) (l : Last) (b : Backend) → AreLast sent old → value_of flow old.sends ≡ Some l
    → slice_get old.backends l.place ≡ Some b → (first : Sent) × (sent flow ≡ Some first) × (first.backend ≡ b)
first_is sent old flow l b h found at =
    go (sent flow) refl
    (sym (h.each flow) ∙ ap (λ (o : Option Last). option_map (λ s. told old.backends flow s) o) found ∙ ap (λ (o : Option Backend). Some (option_map (sent_from flow l) o)) at)
  where
    go : (o : Option Sent) → sent flow ≡ o → kept o ≡ Some (Some (sent_from flow l b)) → (first : Sent) × (sent flow ≡ Some first) × (first.backend ≡ b)
    go None is e = absurd cc
    go (Some s) is e =
        let same : unversioned s ≡ sent_from flow l b = same_Some (unversioned s) (sent_from flow l b) (same_Some (Some (unversioned s)) (Some (sent_from flow l b)) e) in
        (s, is, ap (λ (t : Sent). t.backend) same)

-- the send that a flow's entry represents is its last one
pub first_told : (sent : Flow → Option Sent) (old : Lasts) (new : List Backend) (flow : Flow) (l : Last) → AreLast sent old → Keeps old.backends new → value_of flow old.sends ≡ Some l
    → told new flow l ≡ option_map unversioned (sent flow)
first_told sent old new flow l h k found =
    go (sent flow) (told_yet old.backends new k flow (Some l) (sent flow) (sym (ap (λ (o : Option Last). option_map (λ s. told old.backends flow s) o) found) ∙ h.each flow))
  where
    go : (o : Option Sent) → Some (told new flow l) ≡ kept o → told new flow l ≡ option_map unversioned o
    go None e = absurd cc
    go (Some t) e = same_Some (told new flow l) (Some (unversioned t)) e

-- a flow with no entry has no last send, and one with an entry has one
pub no_last : (sent : Flow → Option Sent) (l : Lasts) (flow : Flow) → AreLast sent l → value_of flow l.sends ≡ None → None ≡ option_map unversioned (sent flow)
no_last sent l flow h none = go (sent flow) (sym (h.each flow) ∙ ap (λ (o : Option Last). option_map (λ s. told l.backends flow s) o) none)
  where
    go : (o : Option Sent) → kept o ≡ None → None ≡ option_map unversioned o
    go None e = refl
    go (Some t) e = absurd cc

pub same_some : (sent : Flow → Option Sent) (l : Lasts) (flow : Flow) → AreLast sent l → is_some (value_of flow l.sends) ≡ is_some (sent flow)
same_some sent l flow h = go (value_of flow l.sends) (sent flow) (h.each flow)
  where
    go : (o : Option Last) (s : Option Sent) → option_map (λ e. told l.backends flow e) o ≡ kept s → is_some o ≡ is_some s
    go None None e = refl
    go None (Some t) e = absurd cc
    go (Some e) None h = absurd cc
    go (Some e) (Some t) h = refl
