-- Records that are taken some at a time.
use Rattle.std.proofs.Common.{◌≡◌, ℕ, zero, suc, ◌+◌, ◌-◌, ◌^◌, List, [], ◌∷◌, ◌++◌, length, take, drop, min, refl, sym, ap, ◌∙◌, arith, subst, length-drop}
use Rattle.std.proofs.lemmas.List.{take_min}
use Rattle.cluster_node.specs.declared.packets.Packet.{Packet}
use Rattle.event_trace.specs.declared.steps.ScenarioStep.TheVariants.{Take}
use Rattle.event_trace.specs.Trace.{Trace}
use Rattle.event_trace.specs.Room.{Counted}
use Rattle.event_trace.specs.Steps.{World, deliver, take_all, next_ones, after}
use Rattle.event_trace.proofs.Moves.{Handed, deliver_hands}
use Rattle.event_trace.proofs.Bounds.{counted_after}

all_both : (w : World) (ps qs : List Packet) (c : Trace) → take_all w (ps ++ qs) c ≡ take_all w qs (take_all w ps c)
unfolding take_all
all_both w [] qs c = refl
all_both w (p ∷ ps) qs c = all_both w ps qs (deliver w c.read p (record c { read = c.read + 1 }))

all_read : (w : World) (ps : List Packet) (c : Trace) → (take_all w ps c).read ≡ c.read + length ps
unfolding take_all
all_read w [] c = omega arith
all_read w (p ∷ ps) c =
    let h : Handed (record c { read = c.read + 1 }) (deliver w c.read p (record c { read = c.read + 1 })) = deliver_hands w c.read p (record c { read = c.read + 1 }) in
    omega (arith, h.read, all_read w ps (deliver w c.read p (record c { read = c.read + 1 })))

drop_both : (i j : ℕ) (ps : List Packet) → drop j (drop i ps) ≡ drop (i + j) ps
drop_both zero j ps = let e : j ≡ zero + j = omega arith in ap (λ (n : ℕ). drop n ps) e
drop_both (suc i) j [] = drop_none j ∙ sym (drop_none (suc i + j))
  where
    drop_none : (n : ℕ) → drop {A = Packet} n [] ≡ []
    drop_none zero = refl
    drop_none (suc n) = refl
drop_both (suc i) j (p ∷ ps) = let e : suc (i + j) ≡ suc i + j = omega arith in drop_both i j ps ∙ ap (λ (n : ℕ). drop n (p ∷ ps)) e

-- what is taken first and what is taken of the rest are what is taken of both
take_both : (i j : ℕ) (ps : List Packet) → take (i + j) ps ≡ take i ps ++ take j (drop (length (take i ps)) ps)
take_both zero j ps = let e : zero + j ≡ j = omega arith in ap (λ (n : ℕ). take n ps) e
take_both (suc i) j [] = take_none (suc i + j) ∙ sym (take_none j)
  where
    take_none : (n : ℕ) → take {A = Packet} n [] ≡ []
    take_none zero = refl
    take_none (suc n) = refl
take_both (suc i) j (p ∷ ps) = let e : suc i + j ≡ suc (i + j) = omega arith in ap (λ (n : ℕ). take n (p ∷ ps)) e ∙ ap (λ (l : List Packet). p ∷ l) (take_both i j ps)

-- records that are taken in two goes are those that are taken at once
taken_both : (w : World) (i j : ℕ) (c : Trace) → after w (Take j) (after w (Take i) c) ≡ after w (Take (i + j)) c
unfolding after
taken_both w i j c =
    let first : List Packet = next_ones w i c in
    let rest : next_ones w j (take_all w first c) ≡ take j (drop (length first) (drop c.read w.packets)) =
    ap (λ (n : ℕ). take j (drop n w.packets)) (all_read w first c) ∙ ap (take j) (sym (drop_both c.read (length first) w.packets)) in
    ap (λ (l : List Packet). take_all w l (take_all w first c)) rest
    ∙ sym (all_both w first (take j (drop (length first) (drop c.read w.packets))) c)
    ∙ ap (λ (l : List Packet). take_all w l c) (sym (take_both i j (drop c.read w.packets)))

-- where none is taken nothing is done
pub taken_none : (w : World) (c : Trace) → c ≡ after w (Take 0) c
unfolding after take_all
taken_none w c = refl

-- some more are taken
pub taken_more : (w : World) (i j n : ℕ) (c d e : Trace) → i + j ≡ n → d ≡ after w (Take i) c → e ≡ after w (Take j) d → e ≡ after w (Take n) c
taken_more w i j n c d e s p q = q ∙ ap (λ (x : Trace). after w (Take j) x) p ∙ taken_both w i j c ∙ ap (λ (k : ℕ). after w (Take k) c) s

-- no more are taken than are there
pub taken_least : (w : World) (packets : List Packet) (count n : ℕ) (c : Trace) → w.packets ≡ packets → n ≡ min count (length packets - c.read) → after w (Take n) c ≡ after w (Take count) c
unfolding after
taken_least w packets count n c e h =
    let left = length-drop c.read w.packets in
    let same : length packets ≡ length w.packets = ap (λ (l : List Packet). length l) (sym e) in
    let least : n ≡ min count (length (drop c.read w.packets)) = omega (arith, h, left, same) in
    ap (λ (l : List Packet). take_all w l c) (ap (λ (k : ℕ). take k (drop c.read w.packets)) least ∙ take_min count (drop c.read w.packets))

-- however many are taken, the counts are those after one step more
pub taken_counted : (w : World) (k : ℕ) (c d : Trace) → d ≡ after w (Take k) c → Counted (length w.packets) (2 ^ 32 - 1) c → Counted (length w.packets) (2 ^ 32) d
taken_counted w k c d e h = subst (λ (t : Trace). Counted (length w.packets) (2 ^ 32) t) (sym e) (counted_after w (2 ^ 32 - 1) (Take k) c h)
