-- One send more among the last sends.
use Rattle.std.proofs.Common.{◌≡◌, ℕ, Bool, true, false, List, Option, Some, None, refl, sym, ap, ◌∙◌, subst}
use Rattle.std.specs.Prelude.{option_map, slice_get, is_some, if◌then◌else◌}
use Rattle.std.proofs.lemmas.Option.{same_Some, none-some}
use Rattle.five_tuple.specs.declared.Flow.{Flow}
use Rattle.connection_table.specs.Touches.{same_flow}
use Rattle.flow_map.specs.Maps.{value_of}
use Rattle.connection_table.proofs.Standing.{same_flow-true}
use Rattle.pool_versions.specs.declared.backend.Backend.{Backend}
use Rattle.backend_places.specs.Places.{Keeps}
use Rattle.run_report.specs.declared.last_sends.LastSend.{LastSend}
use Rattle.run_report.specs.declared.last_sends.LastSends.{LastSends}
use Rattle.run_report.specs.declared.noted.Noted.{Noted}
use Rattle.run_report.specs.Books.{told, AreLast}

module _ {T : Type 0} where
  abbrev sending_of : Flow → LastSend T → Backend → Noted T
  sending_of x l b = record { sending = record { number = l.number; flow = x; version = l.version; backend = b; origin = l.origin }; beside = l.beside }

  -- an entry represents the same send while its backend keeps its place
  told_yet : (old new : List Backend) → Keeps old new → (x : Flow) (o : Option (LastSend T)) (s : Option (Noted T))
      → option_map (λ l. told old x l) o ≡ option_map Some s → option_map (λ l. told new x l) o ≡ option_map Some s
  told_yet old new k x None s h = h
  told_yet old new k x (Some l) None h = absurd cc
  told_yet old new k x (Some l) (Some t) h = go (slice_get old l.place) refl
    where
      go : (b : Option Backend) → slice_get old l.place ≡ b → Some (told new x l) ≡ Some (Some t)
      go None n = absurd (none-some t (same_Some None (Some t) (sym (ap (λ (y : Option Backend). Some (option_map (sending_of x l) y)) n) ∙ h)))
      go (Some b) n = ap (λ (y : Option Backend). Some (option_map (sending_of x l) y)) (k l.place b n ∙ sym n) ∙ h

  -- the entry of a send at its backend's place
  abbrev pub entry_of : ℕ → Noted T → LastSend T
  entry_of place n = record { number = n.sending.number; place = place; version = n.sending.version; origin = n.sending.origin; beside = n.beside }

  -- a send is its flow's last
  told_now : (new : List Backend) (place : ℕ) (later : Noted T) → slice_get new place ≡ Some later.sending.backend → (x : Flow) → same_flow later.sending.flow x ≡ true
      → told new x (entry_of place later) ≡ Some later
  told_now new place later at x is =
      subst (λ (y : Flow). told new y (entry_of place later) ≡ Some later) (same_flow-true later.sending.flow x is)
      (ap (λ (b : Option Backend). option_map (sending_of later.sending.flow (entry_of place later)) b) at)

  pub last_more : (sent : Flow → Option (Noted T)) (old new : LastSends T) (place : ℕ) (later : Noted T) → AreLast sent old → Keeps old.backends new.backends
      → slice_get new.backends place ≡ Some later.sending.backend
      → ((x : Flow) → value_of x new.sends ≡ (if same_flow later.sending.flow x then Some (entry_of place later) else value_of x old.sends))
      → AreLast (λ x. if same_flow later.sending.flow x then Some later else sent x) new
  last_more sent old new place later h k at put = record { each = λ x. go x (same_flow later.sending.flow x) refl }
    where
      go : (x : Flow) (b : Bool) → same_flow later.sending.flow x ≡ b
          → option_map (λ s. told new.backends x s) (value_of x new.sends) ≡ option_map Some (if b then Some later else sent x)
      go x true is =
          ap (λ (o : Option (LastSend T)). option_map (λ s. told new.backends x s) o)
          (put x ∙ ap (λ (c : Bool). if c then Some (entry_of place later) else value_of x old.sends) is)
          ∙ ap Some (told_now new.backends place later at x is)
      go x false is =
          ap (λ (o : Option (LastSend T)). option_map (λ s. told new.backends x s) o)
          (put x ∙ ap (λ (c : Bool). if c then Some (entry_of place later) else value_of x old.sends) is)
          ∙ told_yet old.backends new.backends k x (value_of x old.sends) (sent x) (h.each x)

  -- the flow's last send, where its entry has this backend
  pub first_is : (sent : Flow → Option (Noted T)) (old : LastSends T) (flow : Flow) (l : LastSend T) (b : Backend) → AreLast sent old → value_of flow old.sends ≡ Some l
      → slice_get old.backends l.place ≡ Some b → sent flow ≡ Some (sending_of flow l b)
  first_is sent old flow l b h found at = go (sent flow) (sym (h.each flow) ∙ ap (λ (o : Option (LastSend T)). option_map (λ s. told old.backends flow s) o) found ∙ ap (λ (o : Option Backend). Some (option_map (sending_of flow l) o)) at)
    where
      go : (o : Option (Noted T)) → option_map Some o ≡ Some (Some (sending_of flow l b)) → o ≡ Some (sending_of flow l b)
      go None e = absurd cc
      go (Some s) e = same_Some (Some s) (Some (sending_of flow l b)) e

  -- the send that a flow's entry represents is its last one
  pub first_told : (sent : Flow → Option (Noted T)) (old : LastSends T) (new : List Backend) (flow : Flow) (l : LastSend T) → AreLast sent old → Keeps old.backends new → value_of flow old.sends ≡ Some l
      → told new flow l ≡ sent flow
  first_told sent old new flow l h k found =
      go (sent flow) (told_yet old.backends new k flow (Some l) (sent flow) (sym (ap (λ (o : Option (LastSend T)). option_map (λ s. told old.backends flow s) o) found) ∙ h.each flow))
    where
      go : (o : Option (Noted T)) → Some (told new flow l) ≡ option_map Some o → told new flow l ≡ o
      go None e = absurd cc
      go (Some t) e = same_Some (told new flow l) (Some t) e

  -- a flow with no entry has no last send, and one with an entry has one
  pub no_last : (sent : Flow → Option (Noted T)) (l : LastSends T) (flow : Flow) → AreLast sent l → value_of flow l.sends ≡ None → None ≡ sent flow
  no_last sent l flow h none = go (sent flow) (sym (h.each flow) ∙ ap (λ (o : Option (LastSend T)). option_map (λ s. told l.backends flow s) o) none)
    where
      go : (o : Option (Noted T)) → option_map Some o ≡ None → None ≡ o
      go None e = refl
      go (Some t) e = absurd cc

  pub not_there : (sent : Flow → Option (Noted T)) (l : LastSends T) (flow : Flow) → AreLast sent l → value_of flow l.sends ≡ None → false ≡ is_some (sent flow)
  not_there sent l flow h none = go (sent flow) (sym (h.each flow) ∙ ap (λ (o : Option (LastSend T)). option_map (λ s. told l.backends flow s) o) none)
    where
      go : (o : Option (Noted T)) → option_map Some o ≡ None → false ≡ is_some o
      go None e = refl
      go (Some t) e = absurd cc

  pub is_there : (sent : Flow → Option (Noted T)) (l : LastSends T) (flow : Flow) (s : LastSend T) → AreLast sent l → value_of flow l.sends ≡ Some s → true ≡ is_some (sent flow)
  is_there sent l flow s h found = go (sent flow) (sym (ap (λ (o : Option (LastSend T)). option_map (λ s. told l.backends flow s) o) found) ∙ h.each flow)
    where
      go : (o : Option (Noted T)) → Some (told l.backends flow s) ≡ option_map Some o → true ≡ is_some o
      go None e = absurd cc
      go (Some t) e = refl

  pub same_some : (sent : Flow → Option (Noted T)) (l : LastSends T) (flow : Flow) → AreLast sent l → is_some (value_of flow l.sends) ≡ is_some (sent flow)
  same_some sent l flow h = go (value_of flow l.sends) refl
    where
      go : (o : Option (LastSend T)) → value_of flow l.sends ≡ o → is_some o ≡ is_some (sent flow)
      go None e = not_there sent l flow h e
      go (Some s) e = is_there sent l flow s h e
