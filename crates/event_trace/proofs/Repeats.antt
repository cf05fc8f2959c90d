-- What is left of a repetition.
use Rattle.std.proofs.Common.{◌≡◌, ℕ, suc, ◌+◌, ◌-◌, ◌<◌, List, [], ◌∷◌, length, drop, get_or, refl, sym, ap, ◌∙◌, arith, drop-cons, add-one}
use Rattle.cluster_node.specs.declared.packets.Packet.{Packet}
use Rattle.cluster_core.specs.Cluster.{waiting_on}
use Rattle.event_trace.specs.Trace.{Trace}
use Rattle.event_trace.specs.Steps.{World, serve, serve_times, drain_from, deliver, take_all}

serve_suc : (w : World) (n u m : ℕ) (c : Trace) → serve_times w n u (suc m) c ≡ serve_times w n u m (serve w n u c)
unfolding serve_times
serve_suc w n u m c = refl

pub serve_next : (w : World) (n u t k : ℕ) (c : Trace) → k < t → serve_times w n u (t - k) c ≡ serve_times w n u (t - (k + 1)) (serve w n u c)
serve_next w n u t k c h =
    let e : t - k ≡ suc (t - (k + 1)) = omega arith in
    ap (λ (m : ℕ). serve_times w n u m c) e ∙ serve_suc w n u (t - (k + 1)) c

pub serve_none : (w : World) (n u m : ℕ) (c : Trace) → m ≡ 0 → serve_times w n u m c ≡ c
unfolding serve_times
serve_none w n u m c e = ap (λ (k : ℕ). serve_times w n u k c) e

drain_suc : (w : World) (n u m : ℕ) (c : Trace) → drain_from w n u (suc m) c ≡ drain_from w n (u + 1) m (serve_times w n u (waiting_on w.cluster n u c.past) c)
unfolding drain_from
drain_suc w n u m c = refl

pub drain_next : (w : World) (n t k : ℕ) (c : Trace) → k < t → drain_from w n k (t - k) c ≡ drain_from w n (k + 1) (t - (k + 1)) (serve_times w n k (waiting_on w.cluster n k c.past) c)
drain_next w n t k c h =
    let e : t - k ≡ suc (t - (k + 1)) = omega arith in
    ap (λ (m : ℕ). drain_from w n k m c) e ∙ drain_suc w n k (t - (k + 1)) c

pub drain_none : (w : World) (n u m : ℕ) (c : Trace) → m ≡ 0 → drain_from w n u m c ≡ c
unfolding drain_from
drain_none w n u m c e = ap (λ (k : ℕ). drain_from w n u k c) e

take_cons : (w : World) (p : Packet) (ps : List Packet) (c : Trace) → take_all w (p ∷ ps) c ≡ take_all w ps (deliver w c.read p (record c { read = c.read + 1 }))
unfolding take_all
take_cons w p ps c = refl

pub take_next : (w : World) (ps : List Packet) (i : ℕ) (d : Packet) (c : Trace) → i < length ps → take_all w (drop i ps) c ≡ take_all w (drop (i + 1) ps) (deliver w c.read (get_or ps i d) (record c { read = c.read + 1 }))
take_next w ps i d c h =
    let e : drop i ps ≡ get_or ps i d ∷ drop (i + 1) ps = rw (add-one, drop-cons ps i d) refl in
    ap (λ (l : List Packet). take_all w l c) e ∙ take_cons w (get_or ps i d) (drop (i + 1) ps) c

pub take_none : (w : World) (c : Trace) → take_all w [] c ≡ c
unfolding take_all
take_none w c = refl

pub delivered_next : (w : World) (ps : List Packet) (i : ℕ) (d : Packet) (c s n : Trace) (place : ℕ) → i < length ps → place ≡ c.read → s ≡ record c { read = c.read + 1 } → n ≡ deliver w place (get_or ps i d) s
    → take_all w (drop (i + 1) ps) n ≡ take_all w (drop i ps) c
delivered_next w ps i d c s n place h e f k =
    ap (λ (x : Trace). take_all w (drop (i + 1) ps) x) (k ∙ ap (λ (m : ℕ). deliver w m (get_or ps i d) s) e ∙ ap (λ (x : Trace). deliver w c.read (get_or ps i d) x) f)
    ∙ sym (take_next w ps i d c h)
