-- What is kept of the events is that of one event more.
use Rattle.std.proofs.Common.{◌≡◌, ℕ, ◌+◌, Bool, true, false, List, ◌∷◌, length, Option, Some, None, refl, sym, ap, ◌∙◌, subst, arith, cond, not}
use Rattle.std.specs.Prelude.{◌==◌, ◌||◌, if◌then◌else◌}
use Rattle.std.specs.List.{list_any}
use Rattle.std.specs.HashMap.{get}
use Rattle.std.specs.HashSet.{contains, hash_set_len}
use Rattle.std.proofs.lemmas.Bool.{false≢true, false_from_ne_true, ne_eqb}
use Rattle.five_tuple.specs.declared.Flow.{Flow}
use Rattle.connection_table.specs.Touches.{same_flow}
use Rattle.connection_table.proofs.Standing.{same_flow-true, same_flow-refl}
use Rattle.traffic_shares.specs.declared.flows.FlowSet.{FlowSet}
use Rattle.traffic_shares.specs.declared.holders.ShareKey.{ShareKey}
use Rattle.traffic_shares.specs.declared.shares.Share.{Share}
use Rattle.traffic_shares.specs.declared.shares.Shares.{Shares}
use Rattle.traffic_shares.specs.Holders.{same_share, placed}
use Rattle.traffic_shares.specs.Shares.{Portion, nothing, one_more, put_into, with_flow, keys_with, taken}
use Rattle.traffic_shares.specs.Books.{AreFlows, IsPortion, IsHeld, AreShares, Renewed}
use Rattle.traffic_shares.proofs.Same.{same_share-true}

-- ---- a flow among others

other_way : (x y : Flow) → same_flow x y ≡ false → same_flow y x ≡ false
other_way x y h = false_from_ne_true (same_flow y x) (λ e. false≢true (sym h ∙ ap (λ (z : Flow). same_flow x z) (same_flow-true y x e) ∙ same_flow-refl x))

pub flow_put : (xs : List Flow) (flow : Flow) (added : Bool) (a b : FlowSet) → AreFlows xs a → ((x : Flow) → contains same_flow b.all x ≡ cond (same_flow flow x) true (contains same_flow a.all x))
    → added ≡ not (contains same_flow a.all flow) → hash_set_len b.all ≡ hash_set_len a.all + (if added then 1 else 0) → AreFlows (with_flow flow xs) b
flow_put xs flow added a b was puts new len = go (list_any (same_flow flow) xs) refl
  where
    more : (t : Bool) → list_any (same_flow flow) xs ≡ t → hash_set_len b.all ≡ length xs + (if not t then 1 else 0)
    more t known = len ∙ ap (λ (n : ℕ). n + (if added then 1 else 0)) was.count ∙ ap (λ (u : Bool). length xs + (if u then 1 else 0)) (new ∙ ap not (was.each flow ∙ known))

    old : list_any (same_flow flow) xs ≡ true → (x : Flow) (t : Bool) → same_flow flow x ≡ t → cond t true (contains same_flow a.all x) ≡ list_any (same_flow x) xs
    old known x true e = sym (subst (λ (y : Flow). list_any (same_flow y) xs ≡ true) (same_flow-true flow x e) known)
    old known x false e = was.each x

    fresh : (x : Flow) (t : Bool) → same_flow flow x ≡ t → cond t true (contains same_flow a.all x) ≡ list_any (same_flow x) (flow ∷ xs)
    fresh x true e = sym (ap (λ (u : Bool). u || list_any (same_flow x) xs) (ap (λ (y : Flow). same_flow y flow) (sym (same_flow-true flow x e)) ∙ same_flow-refl flow))
    fresh x false e = was.each x ∙ sym (ap (λ (u : Bool). u || list_any (same_flow x) xs) (other_way flow x e))

    go : (t : Bool) → list_any (same_flow flow) xs ≡ t → AreFlows (if t then xs else flow ∷ xs) b
    go true known = record {
      each = λ x. puts x ∙ old known x (same_flow flow x) refl;
      count = let n : hash_set_len b.all ≡ length xs + 0 = more true known in omega (arith, n);
    }
    go false known = record {
      each = λ x. puts x ∙ fresh x (same_flow flow x) refl;
      count = let n : hash_set_len b.all ≡ length xs + 1 = more false known in omega (arith, n);
    }

-- ---- a share among others

some_packets : (n : ℕ) → (n + 1 == 0) ≡ false
some_packets n = ne_eqb (n + 1) 0 (λ e. omega (arith, e))

pub share_put : (keys : List ShareKey) (portion : ShareKey → Portion) (key : ShareKey) (x : Flow) (len : ℕ) (a b : Shares) (share : Share) → AreShares keys portion a → IsPortion (one_more x len (portion key)) share
    → ((q : ShareKey) → get same_share b.shares q ≡ cond (same_share key q) (Some share) (get same_share a.shares q)) → (k : ShareKey) → IsHeld (put_into portion key x len k) (get same_share b.shares k)
share_put keys portion key x len a b share was is puts k = subst (λ (o : Option Share). IsHeld (put_into portion key x len k) o) (sym (puts k)) (go (same_share key k) refl)
  where
    go : (t : Bool) → same_share key k ≡ t → IsHeld (if t then one_more x len (portion k) else portion k) (cond t (Some share) (get same_share a.shares k))
    go true e = (subst (λ (y : ShareKey). IsPortion (one_more x len (portion y)) share) (same_share-true key k e) is, some_packets (portion k).packets)
    go false e = was.each k

-- where a share is there it took something, and else nothing
pub held_some : (p : Portion) (o : Option Share) (s : Share) → IsHeld p o → o ≡ Some s → IsPortion p s × ((p.packets == 0) ≡ false)
held_some p o s h e = subst (λ (q : Option Share). IsHeld p q) e h

pub held_none : (p : Portion) (o : Option Share) → IsHeld p o → o ≡ None → p ≡ nothing
held_none p o h e = subst (λ (q : Option Share). IsHeld p q) e h

pub put_yet : (keys : List ShareKey) (portion : ShareKey → Portion) (key : ShareKey) (x : Flow) (len : ℕ) (s : Shares) → Renewed true keys portion key x len s → AreShares (keys_with (portion key) key keys) (put_into portion key x len) s
put_yet keys portion key x len s h = subst (λ (b : Bool). AreShares (if b then placed key keys else keys) (put_into portion key x len) s) (sym h.1) h.0

pub put_new : (keys : List ShareKey) (portion : ShareKey → Portion) (key : ShareKey) (x : Flow) (len : ℕ) (s : Shares) → portion key ≡ nothing → AreShares (placed key keys) (put_into portion key x len) s
    → AreShares (keys_with (portion key) key keys) (put_into portion key x len) s
put_new keys portion key x len s none h = subst (λ (p : Portion). AreShares (keys_with p key keys) (put_into portion key x len) s) (sym none) h

pub taken_some : (p : Portion) (o : Option Share) (s : Share) (n : ℕ) → IsHeld p o → o ≡ Some s → ((xs : List Flow) → AreFlows xs s.flows → n ≡ length xs) → (s.packets, s.bytes, n) ≡ taken p
taken_some p o s n h e flows =
    let i = held_some p o s h e in
    ap (λ (k : ℕ). let t : ℕ × ℕ × ℕ = (k, s.bytes, n) in t) i.0.packets ∙ ap (λ (k : ℕ). let t : ℕ × ℕ × ℕ = (p.packets, k, n) in t) i.0.bytes ∙ ap (λ (k : ℕ). let t : ℕ × ℕ × ℕ = (p.packets, p.bytes, k) in t) (flows p.flows i.0.flows)
