-- The packets of all rows are those that were sent.
use Rattle.std.proofs.Common.{◌≡◌, ℕ, ◌+◌, Bool, true, false, List, [], ◌∷◌, map, Option, Some, None, cond, refl, sym, ap, ◌∙◌, subst, arith}
use Rattle.std.specs.Prelude.{◌==◌, is_some, if◌then◌else◌}
use Rattle.std.specs.List.{sum_by, count_by}
use Rattle.std.proofs.lemmas.Bool.{ne_eqb, eqb-true}
use Rattle.std.proofs.lemmas.List.Sums.{sum_by-cons}
use Rattle.five_tuple.specs.declared.Flow.{Flow}
use Rattle.cluster_node.specs.declared.events.LogEntry.{LogEntry}
use Rattle.traffic_shares.specs.declared.holders.ShareKey.{ShareKey}
use Rattle.traffic_shares.specs.declared.holders.ShareKind.{ShareKind}
use Rattle.traffic_shares.specs.declared.sends.Sent.{Sent}
use Rattle.traffic_shares.specs.Holders.{key_of, same_share, is_before, placed}
use Rattle.traffic_shares.specs.Laws.{sent_count, PacketsAddUp}
use Rattle.traffic_shares.specs.Sends.{length_of, sent_by}
use Rattle.traffic_shares.specs.Shares.{Portion, one_more, put_into, portion_with, portion_of, keys_after, keys_of, row_with}
use Rattle.traffic_shares.proofs.Same.{same_share-true, same_share-refl}

-- ---- one key more

placed_step : (f : ShareKey → ℕ) (key k : ShareKey) (ks : List ShareKey) → sum_by f (placed key ks) ≡ f key + sum_by f ks → (b : Bool)
    → sum_by f (if b then key ∷ k ∷ ks else k ∷ placed key ks) ≡ f key + sum_by f (k ∷ ks)
placed_step f key k ks h true = sum_by-cons f key (k ∷ ks)
placed_step f key k ks h false =
    let a = sum_by-cons f k (placed key ks) in
    let b = sum_by-cons f k ks in
    omega (arith, a, b, h)

placed_sum : (f : ShareKey → ℕ) (key : ShareKey) (ks : List ShareKey) → sum_by f (placed key ks) ≡ f key + sum_by f ks
placed_sum f key [] = sum_by-cons f key []
placed_sum f key (k ∷ ks) = placed_step f key k ks (placed_sum f key ks) (is_before key k)

-- ---- one packet more

packets_more : (x : Flow) (len : ℕ) (p : Portion) (b : Bool) → (if b then one_more x len p else p).packets ≡ p.packets + cond b 1 0
packets_more x len p true = refl
packets_more x len p false = omega arith

sum_more : (portion : ShareKey → Portion) (key : ShareKey) (x : Flow) (len : ℕ) (ks : List ShareKey)
    → sum_by (λ k. (put_into portion key x len k).packets) ks ≡ sum_by (λ k. (portion k).packets) ks + count_by (λ k. same_share key k) ks
sum_more portion key x len [] = refl
sum_more portion key x len (k ∷ ks) =
    let a = sum_by-cons (λ k. (put_into portion key x len k).packets) k ks in
    let b = sum_by-cons (λ k. (portion k).packets) k ks in
    let c = sum_by-cons (λ k. cond (same_share key k) 1 0) k ks in
    let d = packets_more x len (portion k) (same_share key k) in
    let h = sum_more portion key x len ks in
    omega (arith, a, b, c, d, h)

-- ---- each key is there once, where it took something

abbrev once : ℕ → ℕ
once n = cond (n == 0) 0 1

once_more : (n : ℕ) → once (n + 1) ≡ 1
once_more n = ap (λ (b : Bool). cond b 0 1) (ne_eqb (n + 1) 0 (λ e. omega (arith, e)))

module _ (portion : ShareKey → Portion) (key : ShareKey) (x : Flow) (len : ℕ) (keys : List ShareKey) (each : (k : ShareKey) → count_by (λ y. same_share k y) keys ≡ once (portion k).packets) where
  abbrev now : ShareKey → ℕ
  now k = (put_into portion key x len k).packets

  -- another key
  other : (k : ShareKey) → same_share key k ≡ false → now k ≡ (portion k).packets
  other k e = ap (λ (b : Bool). (if b then one_more x len (portion k) else portion k).packets) e

  same : now key ≡ (portion key).packets + 1
  same = ap (λ (b : Bool). (if b then one_more x len (portion key) else portion key).packets) (same_share-refl key)

  turned : (k : ShareKey) → same_share key k ≡ false → same_share k key ≡ false
  turned k e = go (same_share k key) refl
    where
      go : (b : Bool) → same_share k key ≡ b → b ≡ false
      go false h = refl
      go true h = let is : k ≡ key = same_share-true k key h in sym (same_share-refl key) ∙ subst (λ (y : ShareKey). same_share key y ≡ false) is e

  -- the key is new
  fresh : (portion key).packets ≡ 0 → (k : ShareKey) → count_by (λ y. same_share k y) (placed key keys) ≡ once (now k)
  fresh none k = go (same_share key k) refl
    where
      counted : count_by (λ y. same_share k y) (placed key keys) ≡ cond (same_share k key) 1 0 + once (portion k).packets
      counted = placed_sum (λ y. cond (same_share k y) 1 0) key keys ∙ ap (λ (n : ℕ). cond (same_share k key) 1 0 + n) (each k)

      at_key : cond (same_share key key) 1 0 + once (portion key).packets ≡ once (now key)
      at_key = ap (λ (b : Bool). cond b 1 0 + once (portion key).packets) (same_share-refl key) ∙ ap (λ (n : ℕ). 1 + once n) none ∙ sym (ap once same ∙ once_more (portion key).packets)

      go : (b : Bool) → same_share key k ≡ b → count_by (λ y. same_share k y) (placed key keys) ≡ once (now k)
      go true e = counted ∙ subst (λ (y : ShareKey). cond (same_share y key) 1 0 + once (portion y).packets ≡ once (now y)) (same_share-true key k e) at_key
      go false e =
          let zero : 0 + once (portion k).packets ≡ once (portion k).packets = omega arith in
          counted ∙ ap (λ (b : Bool). cond b 1 0 + once (portion k).packets) (turned k e) ∙ zero ∙ ap once (sym (other k e))

  -- the key is there
  known : ((portion key).packets == 0) ≡ false → (k : ShareKey) → count_by (λ y. same_share k y) keys ≡ once (now k)
  known some k = go (same_share key k) refl
    where
      at_key : once (portion key).packets ≡ once (now key)
      at_key = ap (λ (b : Bool). cond b 0 1) some ∙ sym (ap once same ∙ once_more (portion key).packets)

      go : (b : Bool) → same_share key k ≡ b → count_by (λ y. same_share k y) keys ≡ once (now k)
      go true e = each k ∙ subst (λ (y : ShareKey). once (portion y).packets ≡ once (now y)) (same_share-true key k e) at_key
      go false e = each k ∙ ap once (sym (other k e))

  keys_more : (b : Bool) → ((portion key).packets == 0) ≡ b → (k : ShareKey) → count_by (λ y. same_share k y) (if b then placed key keys else keys) ≡ once (now k)
  keys_more true e k = fresh (eqb-true (portion key).packets 0 e) k
  keys_more false e k = known e k

  -- one packet more in all
  total : (b : Bool) → ((portion key).packets == 0) ≡ b → sum_by now (if b then placed key keys else keys) ≡ sum_by (λ k. (portion k).packets) keys + 1
  total true e =
      let none : (portion key).packets ≡ 0 = eqb-true (portion key).packets 0 e in
      let a = sum_more portion key x len (placed key keys) in
      let b = placed_sum (λ k. (portion k).packets) key keys in
      let c : count_by (λ y. same_share key y) (placed key keys) ≡ 1 = fresh none key ∙ ap once same ∙ once_more (portion key).packets in
      omega (arith, none, a, b, c)
  total false e =
      let a = sum_more portion key x len keys in
      let c : count_by (λ y. same_share key y) keys ≡ 1 = each key ∙ ap (λ (b : Bool). cond b 0 1) e in
      omega (arith, a, c)

-- ---- a record

module _ (kind : ShareKind) where
  each_after : (len : ℕ → ℕ) (o : Option Sent) (portion : ShareKey → Portion) (keys : List ShareKey) → ((k : ShareKey) → count_by (λ y. same_share k y) keys ≡ once (portion k).packets)
      → (k : ShareKey) → count_by (λ y. same_share k y) (keys_after kind portion o keys) ≡ once (portion_with kind len o portion k).packets
  each_after len None portion keys each k = each k
  each_after len (Some s) portion keys each k = keys_more portion (key_of kind s) s.flow (len s.packet) keys each ((portion (key_of kind s)).packets == 0) refl k

  each_once : (past : List LogEntry) (k : ShareKey) → count_by (λ y. same_share k y) (keys_of kind past) ≡ once (portion_of kind past k).packets
  each_once [] k = refl
  each_once (s ∷ past) k = each_after (λ n. length_of (s ∷ past) n) (sent_by s.event s.outcome) (λ x. portion_of kind past x) (keys_of kind past) (each_once past) k

  sum_after : (len : ℕ → ℕ) (o : Option Sent) (portion : ShareKey → Portion) (keys : List ShareKey) → ((k : ShareKey) → count_by (λ y. same_share k y) keys ≡ once (portion k).packets)
      → sum_by (λ k. (portion_with kind len o portion k).packets) (keys_after kind portion o keys) ≡ sum_by (λ k. (portion k).packets) keys + (if is_some o then 1 else 0)
  sum_after len None portion keys each = omega arith
  sum_after len (Some s) portion keys each = total portion (key_of kind s) s.flow (len s.packet) keys each ((portion (key_of kind s)).packets == 0) refl

  sum_keys : (past : List LogEntry) → sum_by (λ k. (portion_of kind past k).packets) (keys_of kind past) ≡ sent_count past
  sum_keys [] = refl
  sum_keys (s ∷ past) =
      sum_after (λ n. length_of (s ∷ past) n) (sent_by s.event s.outcome) (λ x. portion_of kind past x) (keys_of kind past) (each_once past)
      ∙ ap (λ (n : ℕ). n + (if is_some (sent_by s.event s.outcome) then 1 else 0)) (sum_keys past)

  sum_rows : (portion : ShareKey → Portion) (keys : List ShareKey) → sum_by (λ r. r.packets) (map (λ k. row_with portion k) keys) ≡ sum_by (λ k. (portion k).packets) keys
  sum_rows portion [] = refl
  sum_rows portion (k ∷ keys) =
      sum_by-cons (λ r. r.packets) (row_with portion k) (map (λ k. row_with portion k) keys) ∙ ap (λ (n : ℕ). (portion k).packets + n) (sum_rows portion keys)
      ∙ sym (sum_by-cons (λ k. (portion k).packets) k keys)

pub packets_add : PacketsAddUp
packets_add kind past = sum_rows kind (λ k. portion_of kind past k) (keys_of kind past) ∙ sum_keys kind past
