-- A forwarder's bounded list, turn and clock stand for all that it has served.
use Rattle.std.proofs.Common.{◌≡◌, ℕ, ◌+◌, ◌%◌, ◌^◌, max, Bool, true, false, List, [], ◌∷◌, take, zero, suc, Option, Some, None, refl, sym, ap, ◌∙◌}
use Rattle.std.specs.Prelude.{if◌then◌else◌}
use Rattle.std.proofs.Math.Nat.{mod-add-mod}
use Rattle.connection_table.specs.declared.table.Entry.{Entry}
use Rattle.connection_table.specs.Touches.{Touch, newest_each}
use Rattle.connection_table.proofs.Standing.{standing-table}
use Rattle.forwarder.specs.declared.Choice.{Choice}
use Rattle.forwarder.specs.Forwarding.{Forwarding, unused}
use Rattle.forwarder.specs.Serving.{Pick, Serving, Reply, serve_as, with_touch, touches, asked_count, clock_of, told_after, told_in, told, forwarding_of, entries_after, after_told}
use Rattle.forwarder.proofs.Tables.{stored-table}

-- what is told by the table is what is told by the history
pub told-table : (pick : Pick) (capacity : ℕ) (idle : Option ℕ) (past : List Serving) (s : Serving) → told_in pick (forwarding_of pick capacity idle past) s ≡ told_after pick capacity idle (told pick capacity idle past) s
told-table pick capacity idle past s =
    let ts = told pick capacity idle past in
    let clock = max (clock_of ts) s.at in
    ap (λ (o : Option Entry). serve_as pick clock s o (asked_count ts % 2 ^ 64)) (standing-table capacity idle clock s.flow (touches ts))

entries-step : (capacity : ℕ) (o : Option Touch) (ts : List Touch) → take capacity (newest_each (with_touch o ts)) ≡ entries_after capacity o (take capacity (newest_each ts))
entries-step capacity None ts = refl
entries-step capacity (Some t) ts = stored-table capacity t ts

turn-step : (n : ℕ) (b : Bool) → (if b then n + 1 else n) % 2 ^ 64 ≡ (if b then (n % 2 ^ 64 + 1) % 2 ^ 64 else n % 2 ^ 64)
turn-step n true = sym (mod-add-mod n (2 ^ 64) 1)
turn-step n false = refl

pub history-step : (pick : Pick) (capacity : ℕ) (idle : Option ℕ) (past : List Serving) (s : Serving) → forwarding_of pick capacity idle (s ∷ past) ≡ after_told (told_in pick (forwarding_of pick capacity idle past) s) (forwarding_of pick capacity idle past)
history-step pick capacity idle past s = go (told_after pick capacity idle (told pick capacity idle past) s) (told pick capacity idle past) ∙ ap (λ (t : Reply). after_told t (forwarding_of pick capacity idle past)) (sym (told-table pick capacity idle past s))
  where
    go : (t : Reply) (ts : List Reply) → ◌≡◌ {A = Forwarding} (record { capacity = capacity; idle = idle; entries = take capacity (newest_each (with_touch t.touch (touches ts))); turn = (if t.asked then asked_count ts + 1 else asked_count ts) % 2 ^ 64; clock = t.clock }) (after_told t (record { capacity = capacity; idle = idle; entries = take capacity (newest_each (touches ts)); turn = asked_count ts % 2 ^ 64; clock = clock_of ts }))
    go t ts =
        let e = entries-step capacity t.touch (touches ts) in
        let n = turn-step (asked_count ts) t.asked in
        ap (λ (l : List Touch). let r : Forwarding = record { capacity = capacity; idle = idle; entries = l; turn = (if t.asked then asked_count ts + 1 else asked_count ts) % 2 ^ 64; clock = t.clock } in r) e
        ∙ ap (λ (k : ℕ). let r : Forwarding = record { capacity = capacity; idle = idle; entries = entries_after capacity t.touch (take capacity (newest_each (touches ts))); turn = k; clock = t.clock } in r) n

-- nothing was served
pub history-none : (pick : Pick) (capacity : ℕ) (idle : Option ℕ) → unused capacity idle ≡ forwarding_of pick capacity idle []
history-none pick capacity idle = ap (λ (l : List Touch). record (unused capacity idle) { entries = l }) (none capacity)
  where
    none : (n : ℕ) → ◌≡◌ {A = List Touch} [] (take n [])
    none zero = refl
    none (suc n) = refl

-- one serving by the table is one serving by the history
pub by-history : (pick : Pick) (capacity : ℕ) (idle : Option ℕ) (f g : Forwarding) (s u : Serving) (choice : Choice) (past : List Serving) → choice ≡ (told_in pick f s).choice → g ≡ after_told (told_in pick f u) f → f ≡ forwarding_of pick capacity idle past → (choice ≡ (told_after pick capacity idle (told pick capacity idle past) s).choice) × (g ≡ forwarding_of pick capacity idle (u ∷ past))
by-history pick capacity idle f g s u choice past a b e = (
  a ∙ ap (λ (h : Forwarding). (told_in pick h s).choice) e ∙ ap (λ (t : Reply). t.choice) (told-table pick capacity idle past s),
  b ∙ ap (λ (h : Forwarding). after_told (told_in pick h u) h) e ∙ sym (history-step pick capacity idle past u),
)
