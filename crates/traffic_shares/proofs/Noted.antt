-- A packet more in the book.
use Rattle.std.proofs.Common.{◌≡◌, ℕ, List, ◌∷◌, Option, Some, None, sym, ap, ◌∙◌, subst, Result}
use Rattle.std.specs.Prelude.{OnOk, slice_index}
use Rattle.std.specs.HashMap.{get}
use Rattle.std.proofs.lemmas.Result.{on_ok_weaker}
use Rattle.cluster_node.specs.declared.events.LogEntry.{LogEntry}
use Rattle.traffic_shares.specs.declared.holders.ShareKey.{ShareKey}
use Rattle.traffic_shares.specs.declared.holders.ShareKind.{ShareKind}
use Rattle.traffic_shares.specs.declared.sends.Sent.{Sent}
use Rattle.traffic_shares.specs.declared.book.ShareBook.{ShareBook}
use Rattle.traffic_shares.specs.declared.shares.Shares.{Shares}
use Rattle.traffic_shares.specs.Holders.{key_of, same_share}
use Rattle.traffic_shares.specs.Sends.{length_of, sent_by}
use Rattle.traffic_shares.specs.Shares.{Portion, put_into, portion_with, portion_of, keys_with, keys_after, keys_of}
use Rattle.traffic_shares.specs.Books.{IsHeld, AreShares, AreLengthsOf, IsShareBookOf}

module _ (kind : ShareKind) (s : LogEntry) (past : List LogEntry) where
  before : ShareKey → Portion
  before k = portion_of kind past k

  none_more : (b : Shares) → sent_by s.event s.outcome ≡ None → AreShares (keys_of kind past) (λ k. portion_of kind past k) b → AreShares (keys_of kind (s ∷ past)) (λ k. portion_of kind (s ∷ past) k) b
  none_more b is h = record {
    holders = h.holders ∙ sym (ap (λ (o : Option Sent). keys_after kind (λ k. portion_of kind past k) o (keys_of kind past)) is);
    each = λ k. subst (λ (p : Portion). IsHeld p (get same_share b.shares k)) (sym (ap (λ (o : Option Sent). portion_with kind (λ n. length_of (s ∷ past) n) o (λ x. portion_of kind past x) k) is)) (h.each k);
  }

  one_more : (sent : Sent) (b : Shares) → sent_by s.event s.outcome ≡ Some sent
      → AreShares (keys_with (portion_of kind past (key_of kind sent)) (key_of kind sent) (keys_of kind past)) (put_into (λ k. portion_of kind past k) (key_of kind sent) sent.flow (length_of (s ∷ past) sent.packet)) b
      → AreShares (keys_of kind (s ∷ past)) (λ k. portion_of kind (s ∷ past) k) b
  one_more sent b is h = record {
    holders = h.holders ∙ sym (ap (λ (o : Option Sent). keys_after kind (λ k. portion_of kind past k) o (keys_of kind past)) is);
    each = λ k. subst (λ (p : Portion). IsHeld p (get same_share b.shares k)) (sym (ap (λ (o : Option Sent). portion_with kind (λ n. length_of (s ∷ past) n) o (λ x. portion_of kind past x) k) is)) (h.each k);
  }

  pub unsent_noted : (old new : ShareBook) → IsShareBookOf kind past old → sent_by s.event s.outcome ≡ None → new.kind ≡ old.kind → AreLengthsOf (s ∷ past) new.lengths → new.shares ≡ old.shares → IsShareBookOf kind (s ∷ past) new
  unsent_noted old new was is same lengths shares = record {
    of_kind = same ∙ was.of_kind;
    lengths = lengths;
    shares = none_more new.shares is (subst (λ (b : Shares). AreShares (keys_of kind past) (λ k. portion_of kind past k) b) (sym shares) was.shares);
  }

  pub sent_noted : {E : Type 0} (r : Result (Unit {0}) E) (old new : ShareBook) (sent : Sent) (key : ShareKey) (len : ℕ) → IsShareBookOf kind past old → sent_by s.event s.outcome ≡ Some sent → new.kind ≡ old.kind
      → AreLengthsOf (s ∷ past) new.lengths → key ≡ key_of old.kind sent → len ≡ slice_index new.lengths.all.items sent.packet
      → OnOk r (AreShares (keys_with (portion_of kind past key) key (keys_of kind past)) (put_into (λ k. portion_of kind past k) key sent.flow len) new.shares) → OnOk r (IsShareBookOf kind (s ∷ past) new)
  sent_noted r old new sent key len was is same lengths key_is len_is h = on_ok_weaker r
      (λ shares. record {
        of_kind = same ∙ was.of_kind;
        lengths = lengths;
        shares = one_more sent new.shares is
            (subst (λ (n : ℕ). AreShares (keys_with (portion_of kind past (key_of kind sent)) (key_of kind sent) (keys_of kind past)) (put_into (λ k. portion_of kind past k) (key_of kind sent) sent.flow n) new.shares)
            (len_is ∙ lengths.each sent.packet)
            (subst (λ (q : ShareKey). AreShares (keys_with (portion_of kind past q) q (keys_of kind past)) (put_into (λ k. portion_of kind past k) q sent.flow len) new.shares)
            (key_is ∙ ap (λ (d : ShareKind). key_of d sent) was.of_kind) shares));
      })
      h
