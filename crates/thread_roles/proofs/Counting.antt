-- What lists of outcomes come to, put together.
use Rattle.std.proofs.Common.{◌≡◌, ℕ, zero, suc, ◌+◌, ◌%◌, ◌^◌, Bool, true, false, List, [], ◌∷◌, ◌++◌, map, length, Option, Some, None, refl, sym, ap, ◌∙◌, subst, arith}
use Rattle.std.specs.Prelude.{if◌then◌else◌, nat_lt, slice_get}
use Rattle.std.proofs.lemmas.Bool.{false≢true}
use Rattle.std.proofs.lemmas.List.{map_push, append-nil, append_assoc}
use Rattle.stats_book.specs.Counts.{Counted, one_more, sums}
use Rattle.forwarder.specs.declared.Choice.{Choice}
use Rattle.forwarder.specs.declared.Choice.TheVariants as choices
use Rattle.cluster_core.specs.OutcomeCounts.{is_arrival, is_forward, how_many, drops, drops_all, drop_counts, lost_of, lost_all}
use Rattle.cluster_node.specs.declared.outcomes.Outcome.{Outcome}
use Rattle.cluster_node.specs.declared.outcomes.Outcome.TheVariants.{Installed, Placed, Forward, Dropped, Restarted, Refused}
use Rattle.cluster_node.specs.declared.outcomes.Reason.{Reason}
use Rattle.cluster_node.specs.declared.outcomes.Reason.TheVariants.{NoPacket, UnknownVersion, NotNewer}
use Rattle.cluster_node.specs.declared.events.Event.TheVariants.{Install}
use Rattle.cluster_node.specs.declared.packets.Packet.{Packet}
use Rattle.cluster_node.specs.declared.packets.Packet.TheVariants.{Good, Bad}
use Rattle.cluster_node.specs.Records.{WasRead, of_reading}
use Rattle.cluster_node.specs.declared.outcomes.Cause.{Cause}
use Rattle.cluster_node.specs.declared.outcomes.Cause.TheVariants.{NotIpv4, Truncated, BadHeader, BadChecksum, Fragment, NotTcpUdp, BadTransport, TooLarge, NoService, NoBackend, NoVersion, RingsFull, LostAtRestart}
use Rattle.handled_list.specs.declared.handled.Handled.{Handled}
use Rattle.cluster_node.specs.declared.serving.Item.{Item}
use Rattle.cluster_node.specs.Record.{of_choice}
use Rattle.thread_records.specs.Histories.{outcome_of}
use Rattle.thread_records.specs.Arrivals.{ArrivesAs}
use Rattle.thread_records.specs.Journals.{JournalView, with_serve, with_event, with_install}
use Rattle.thread_records.specs.Ends.{with_serves, with_all_serves, with_life_ended, left_over}
use Rattle.thread_roles.specs.Counts.{counted, plus, Counts, AreRead, with_arrival, with_came, with_drop, with_lost, with_choice, CountsServed, served_from}

many_more : (b : Bool) (p : Outcome → Bool) (os ps : List Outcome) → how_many p (os ++ ps) ≡ how_many p os + how_many p ps → (if b then 1 + how_many p (os ++ ps) else how_many p (os ++ ps)) ≡ (if b then 1 + how_many p os else how_many p os) + how_many p ps
many_more true p os ps h = omega (arith, h)
many_more false p os ps h = h

pub many_append : (p : Outcome → Bool) (os ps : List Outcome) → how_many p (os ++ ps) ≡ how_many p os + how_many p ps
many_append p [] ps = omega arith
many_append p (o ∷ os) ps = many_more (p o) p os ps (many_append p os ps)

pub lost_append : (os ps : List Outcome) → lost_all (os ++ ps) ≡ lost_all os + lost_all ps
lost_append [] ps = omega arith
lost_append (o ∷ os) ps = let h : lost_all (os ++ ps) ≡ lost_all os + lost_all ps = lost_append os ps in omega arith

both : {x y : ℕ} {xs ys : List ℕ} → x ≡ y → xs ≡ ys → x ∷ xs ≡ y ∷ ys
both {x} {y} {xs} {ys} e f = ap (λ (n : ℕ). n ∷ xs) e ∙ ap (λ (ns : List ℕ). y ∷ ns) f

pub drops_append : (os ps : List Outcome) → drop_counts (os ++ ps) ≡ sums (drop_counts os) (drop_counts ps)
drops_append os ps =
    let a = many_append (λ o. drops 13 o) os ps in
    let l = lost_append os ps in
    let last : drops_all 13 (os ++ ps) + lost_all (os ++ ps) ≡ (drops_all 13 os + lost_all os) + (drops_all 13 ps + lost_all ps) = omega (arith, a, l) in
    both (many_append (λ o. drops 1 o) os ps)
    (both (many_append (λ o. drops 2 o) os ps)
    (both (many_append (λ o. drops 3 o) os ps)
    (both (many_append (λ o. drops 4 o) os ps)
    (both (many_append (λ o. drops 5 o) os ps)
    (both (many_append (λ o. drops 6 o) os ps)
    (both (many_append (λ o. drops 7 o) os ps)
    (both (many_append (λ o. drops 8 o) os ps)
    (both (many_append (λ o. drops 9 o) os ps)
    (both (many_append (λ o. drops 10 o) os ps)
    (both (many_append (λ o. drops 11 o) os ps)
    (both (many_append (λ o. drops 12 o) os ps)
    (both last refl))))))))))))

abbrev pub made : ℕ → ℕ → ℕ → List ℕ → Counted
made p r f ds = record { parts = p; received = r; forwarded = f; dropped = ds }

same : {p q r s f g : ℕ} {ds es : List ℕ} → p ≡ q → r ≡ s → f ≡ g → ds ≡ es → made p r f ds ≡ made q s g es
same {p} {q} {r} {s} {f} {g} {ds} {es} a b c d =
    ap (λ (n : ℕ). made n r f ds) a ∙ ap (λ (n : ℕ). made q n f ds) b ∙ ap (λ (n : ℕ). made q s n ds) c ∙ ap (λ (l : List ℕ). made q s g l) d

pub counted_append : (p q : ℕ) (os ps : List Outcome) → counted (p + q) (os ++ ps) ≡ plus (counted p os) (counted q ps)
counted_append p q os ps = same refl (many_append (λ o. is_arrival o) os ps) (many_append (λ o. is_forward o) os ps) (drops_append os ps)

-- one more, where a test says so
abbrev pub bumped : Bool → ℕ → ℕ
bumped true n = n + 1
bumped false n = n

if_more : (b : Bool) (x y : ℕ) → x ≡ y → (if b then 1 + x else x) ≡ (if b then 1 + y else y)
if_more b x y e = ap (λ (n : ℕ). if b then 1 + n else n) e

swap : (a b : Bool) (n : ℕ) → (if a then 1 + bumped b n else bumped b n) ≡ bumped b (if a then 1 + n else n)
swap true true n = omega arith
swap true false n = refl
swap false b n = refl

last_one : (b : Bool) → (if b then 1 + 0 else 0) ≡ bumped b 0
last_one true = refl
last_one false = refl

pub many_push : (p : Outcome → Bool) (os : List Outcome) (o : Outcome) → how_many p (os ++ o ∷ []) ≡ bumped (p o) (how_many p os)
many_push p [] o = last_one (p o)
many_push p (q ∷ os) o = if_more (p q) (how_many p (os ++ o ∷ [])) (bumped (p o) (how_many p os)) (many_push p os o) ∙ swap (p q) (p o) (how_many p os)

lost_push : (os : List Outcome) (o : Outcome) → lost_of o ≡ 0 → lost_all (os ++ o ∷ []) ≡ lost_all os
lost_push os o z = let h : lost_all (os ++ o ∷ []) ≡ lost_all os + lost_all (o ∷ []) = lost_append os (o ∷ []) in omega (arith, h, z)

last_push : (b : Bool) (x l m n : ℕ) → x ≡ bumped b n → m ≡ l → x + m ≡ bumped b (n + l)
last_push true x l m n e f = omega (arith, e, f)
last_push false x l m n e f = omega (arith, e, f)

drops_push : (os : List Outcome) (o : Outcome) → lost_of o ≡ 0 → drop_counts (os ++ o ∷ []) ≡
    bumped (drops 1 o) (drops_all 1 os) ∷ bumped (drops 2 o) (drops_all 2 os) ∷ bumped (drops 3 o) (drops_all 3 os) ∷ bumped (drops 4 o) (drops_all 4 os) ∷ bumped (drops 5 o) (drops_all 5 os) ∷ bumped (drops 6 o) (drops_all 6 os) ∷ bumped (drops 7 o) (drops_all 7 os)
    ∷ bumped (drops 8 o) (drops_all 8 os) ∷ bumped (drops 9 o) (drops_all 9 os) ∷ bumped (drops 10 o) (drops_all 10 os) ∷ bumped (drops 11 o) (drops_all 11 os) ∷ bumped (drops 12 o) (drops_all 12 os) ∷ bumped (drops 13 o) (drops_all 13 os + lost_all os) ∷ []
drops_push os o z =
    both (many_push (λ q. drops 1 q) os o)
    (both (many_push (λ q. drops 2 q) os o)
    (both (many_push (λ q. drops 3 q) os o)
    (both (many_push (λ q. drops 4 q) os o)
    (both (many_push (λ q. drops 5 q) os o)
    (both (many_push (λ q. drops 6 q) os o)
    (both (many_push (λ q. drops 7 q) os o)
    (both (many_push (λ q. drops 8 q) os o)
    (both (many_push (λ q. drops 9 q) os o)
    (both (many_push (λ q. drops 10 q) os o)
    (both (many_push (λ q. drops 11 q) os o)
    (both (many_push (λ q. drops 12 q) os o)
    (both (last_push (drops 13 o) (drops_all 13 (os ++ o ∷ [])) (lost_all os) (lost_all (os ++ o ∷ [])) (drops_all 13 os) (many_push (λ q. drops 13 q) os o) (lost_push os o z)) refl))))))))))))

drop_more : (c : Cause) (k : ℕ) (os : List Outcome) → drop_counts (os ++ Dropped k c ∷ []) ≡ one_more (drop_counts os) c
drop_more NotIpv4 k os = drops_push os (Dropped k NotIpv4) refl
drop_more Truncated k os = drops_push os (Dropped k Truncated) refl
drop_more BadHeader k os = drops_push os (Dropped k BadHeader) refl
drop_more BadChecksum k os = drops_push os (Dropped k BadChecksum) refl
drop_more Fragment k os = drops_push os (Dropped k Fragment) refl
drop_more NotTcpUdp k os = drops_push os (Dropped k NotTcpUdp) refl
drop_more BadTransport k os = drops_push os (Dropped k BadTransport) refl
drop_more TooLarge k os = drops_push os (Dropped k TooLarge) refl
drop_more NoService k os = drops_push os (Dropped k NoService) refl
drop_more NoBackend k os = drops_push os (Dropped k NoBackend) refl
drop_more NoVersion k os = drops_push os (Dropped k NoVersion) refl
drop_more RingsFull k os = drops_push os (Dropped k RingsFull) refl
drop_more LostAtRestart k os = drops_push os (Dropped k LostAtRestart) refl

-- one more outcome
one_pushed : (p : ℕ) (os : List Outcome) (o : Outcome) → lost_of o ≡ 0 → counted p (os ++ o ∷ []) ≡ made p (bumped (is_arrival o) (how_many (λ q. is_arrival q) os)) (bumped (is_forward o) (how_many (λ q. is_forward q) os))
    (bumped (drops 1 o) (drops_all 1 os) ∷ bumped (drops 2 o) (drops_all 2 os) ∷ bumped (drops 3 o) (drops_all 3 os) ∷ bumped (drops 4 o) (drops_all 4 os) ∷ bumped (drops 5 o) (drops_all 5 os) ∷ bumped (drops 6 o) (drops_all 6 os) ∷ bumped (drops 7 o) (drops_all 7 os)
    ∷ bumped (drops 8 o) (drops_all 8 os) ∷ bumped (drops 9 o) (drops_all 9 os) ∷ bumped (drops 10 o) (drops_all 10 os) ∷ bumped (drops 11 o) (drops_all 11 os) ∷ bumped (drops 12 o) (drops_all 12 os) ∷ bumped (drops 13 o) (drops_all 13 os + lost_all os) ∷ [])
one_pushed p os o z = same refl (many_push (λ q. is_arrival q) os o) (many_push (λ q. is_forward q) os o) (drops_push os o z)

none_more : (p : ℕ) (os : List Outcome) (r : Reason) → counted p (os ++ Refused r ∷ []) ≡ counted p os
none_more p os r = one_pushed p os (Refused r) refl

installed_more : (p : ℕ) (os : List Outcome) → counted p (os ++ Installed ∷ []) ≡ counted p os
installed_more p os = one_pushed p os Installed refl

arrival_more : (p : ℕ) (os : List Outcome) (o : Outcome) → is_arrival o ≡ true → counted p (os ++ o ∷ []) ≡ with_drop o (with_arrival (counted p os))
arrival_more p os Installed e = absurd (false≢true e)
arrival_more p os (Placed w f) e = one_pushed p os (Placed w f) refl
arrival_more p os (Forward n w k x b v) e = absurd (false≢true e)
arrival_more p os (Dropped k c) e =
    same refl
    (many_push (λ o. is_arrival o) os (Dropped k c) ∙ ap (λ (b : Bool). bumped b (how_many (λ o. is_arrival o) os)) e)
    (many_push (λ o. is_forward o) os (Dropped k c))
    (drop_more c k os)
arrival_more p os (Restarted l) e = absurd (false≢true e)
arrival_more p os (Refused r) e = absurd (false≢true e)

choice_more : (p : ℕ) (os : List Outcome) (n w : ℕ) (i : Item) (c : Choice) → counted p (os ++ of_choice n w i c ∷ []) ≡ with_choice c (counted p os)
choice_more p os n w i (choices.Forward b v) = one_pushed p os (Forward n w i.packet i.flow b v) refl
choice_more p os n w i choices.NoService = one_pushed p os (Dropped i.packet NoService) refl
choice_more p os n w i choices.NoBackend = one_pushed p os (Dropped i.packet NoBackend) refl

-- what comes to nothing
pub counts_refused : (lost : Bool) (s : Counted) (os : List Outcome) (r : Reason) → Counts lost s os → Counts lost s (os ++ Refused r ∷ [])
counts_refused lost s os r h = λ e. h e ∙ sym (none_more s.parts os r)

pub counts_installed : (lost : Bool) (s : Counted) (os : List Outcome) → Counts lost s os → Counts lost s (os ++ Installed ∷ [])
counts_installed lost s os h = λ e. h e ∙ sym (installed_more s.parts os)

lost_more : (lost p r f a b c d e g h i k l m n : ℕ) (x : ℕ) → with_lost lost (made p r f (a ∷ b ∷ c ∷ d ∷ e ∷ g ∷ h ∷ i ∷ k ∷ l ∷ m ∷ n ∷ x ∷ [])) ≡ made p r f (a ∷ b ∷ c ∷ d ∷ e ∷ g ∷ h ∷ i ∷ k ∷ l ∷ m ∷ n ∷ (x + lost) ∷ [])
lost_more zero p r f a b c d e g h i k l m n x = let z : x ≡ x + 0 = omega arith in ap (λ (y : ℕ). made p r f (a ∷ b ∷ c ∷ d ∷ e ∷ g ∷ h ∷ i ∷ k ∷ l ∷ m ∷ n ∷ y ∷ [])) z
lost_more (suc lost) p r f a b c d e g h i k l m n x =
    let z : x + lost + 1 ≡ x + suc lost = omega arith in
    ap (λ (s : Counted). record s { dropped = one_more s.dropped LostAtRestart }) (lost_more lost p r f a b c d e g h i k l m n x)
    ∙ ap (λ (y : ℕ). made p r f (a ∷ b ∷ c ∷ d ∷ e ∷ g ∷ h ∷ i ∷ k ∷ l ∷ m ∷ n ∷ y ∷ [])) z

restarted_more : (p : ℕ) (os : List Outcome) (lost : ℕ) → counted p (os ++ Restarted lost ∷ []) ≡ with_lost lost (counted p os)
restarted_more p os lost =
    let n = many_push (λ q. drops 13 q) os (Restarted lost) in
    let l : lost_all (os ++ Restarted lost ∷ []) ≡ lost_all os + lost_all (Restarted lost ∷ []) = lost_append os (Restarted lost ∷ []) in
    let last : drops_all 13 (os ++ Restarted lost ∷ []) + lost_all (os ++ Restarted lost ∷ []) ≡ (drops_all 13 os + lost_all os) + lost = omega (arith, n, l) in
    same refl (many_push (λ q. is_arrival q) os (Restarted lost)) (many_push (λ q. is_forward q) os (Restarted lost))
    (both (many_push (λ q. drops 1 q) os (Restarted lost))
    (both (many_push (λ q. drops 2 q) os (Restarted lost))
    (both (many_push (λ q. drops 3 q) os (Restarted lost))
    (both (many_push (λ q. drops 4 q) os (Restarted lost))
    (both (many_push (λ q. drops 5 q) os (Restarted lost))
    (both (many_push (λ q. drops 6 q) os (Restarted lost))
    (both (many_push (λ q. drops 7 q) os (Restarted lost))
    (both (many_push (λ q. drops 8 q) os (Restarted lost))
    (both (many_push (λ q. drops 9 q) os (Restarted lost))
    (both (many_push (λ q. drops 10 q) os (Restarted lost))
    (both (many_push (λ q. drops 11 q) os (Restarted lost))
    (both (many_push (λ q. drops 12 q) os (Restarted lost))
    (both last refl)))))))))))))
    ∙ sym (lost_more lost p (how_many (λ q. is_arrival q) os) (how_many (λ q. is_forward q) os) (drops_all 1 os) (drops_all 2 os) (drops_all 3 os) (drops_all 4 os) (drops_all 5 os) (drops_all 6 os) (drops_all 7 os) (drops_all 8 os) (drops_all 9 os) (drops_all 10 os) (drops_all 11 os) (drops_all 12 os) (drops_all 13 os + lost_all os))

lost_parts : (lost : ℕ) (s : Counted) → (with_lost lost s).parts ≡ s.parts
lost_parts zero s = refl
lost_parts (suc lost) s = lost_parts lost s

counts_lost : (lost : ℕ) (b : Bool) (s : Counted) (os : List Outcome) → Counts b s os → Counts b (with_lost lost s) (os ++ Restarted lost ∷ [])
counts_lost lost b s os h = λ e. ap (λ (c : Counted). with_lost lost c) (h e) ∙ sym (restarted_more s.parts os lost) ∙ ap (λ (n : ℕ). counted n (os ++ Restarted lost ∷ [])) (sym (lost_parts lost s))

-- an arrival of a packet that is there, counted in two steps
counts_arrival : (l0 l1 l2 : Bool) (s0 s1 s2 : Counted) (os : List Outcome) (o : Outcome) → is_arrival o ≡ true →
    (l1 ≡ false → (l0 ≡ false) × (s1 ≡ with_arrival s0)) → (l2 ≡ false → (l1 ≡ false) × (s2 ≡ with_drop o s1)) →
    Counts l0 s0 os → Counts l2 s2 (os ++ o ∷ [])
counts_arrival l0 l1 l2 s0 s1 s2 os o arrives first second h = λ e.
    let b = second e in
    let a = first b.0 in
    let is : s2 ≡ with_drop o (with_arrival s0) = b.1 ∙ ap (λ (s : Counted). with_drop o s) a.1 in
    let had : s0 ≡ counted s0.parts os = h a.0 in
    let more : s2 ≡ counted s0.parts (os ++ o ∷ []) = is ∙ ap (λ (s : Counted). with_drop o (with_arrival s)) had ∙ sym (arrival_more s0.parts os o arrives) in
    more ∙ ap (λ (n : ℕ). counted n (os ++ o ∷ [])) (sym (ap (λ (s : Counted). s.parts) more))

reads_as_arrival : (k : ℕ) (c : Cause) → of_reading c ≡ true → is_arrival (Dropped k c) ≡ true
reads_as_arrival k NotIpv4 h = refl
reads_as_arrival k Truncated h = refl
reads_as_arrival k BadHeader h = refl
reads_as_arrival k BadChecksum h = refl
reads_as_arrival k Fragment h = refl
reads_as_arrival k NotTcpUdp h = refl
reads_as_arrival k BadTransport h = refl
reads_as_arrival k TooLarge h = refl
reads_as_arrival k NoService h = absurd (false≢true h)
reads_as_arrival k NoBackend h = absurd (false≢true h)
reads_as_arrival k NoVersion h = refl
reads_as_arrival k RingsFull h = refl
reads_as_arrival k LostAtRestart h = refl

pub read_at : (packets : List Packet) → AreRead packets → (k : ℕ) → WasRead (slice_get packets k)
read_at packets h k = go (slice_get packets k) refl
  where
    go : (x : Option Packet) → slice_get packets k ≡ x → WasRead x
    go None e = tt
    go (Some p) e = h k p e

-- an arrival, counted in two steps
pub counts_offer : (x : Option Packet) (l0 l1 l2 : Bool) (s0 s1 s2 : Counted) (os qs : List Outcome) (o : Outcome) → WasRead x → ArrivesAs x o →
    (l1 ≡ false → (l0 ≡ false) × (s1 ≡ with_came x s0)) → (l2 ≡ false → (l1 ≡ false) × (s2 ≡ with_drop o s1)) → qs ≡ os ++ o ∷ [] →
    Counts l0 s0 os → Counts l2 s2 qs
counts_offer x l0 l1 l2 s0 s1 s2 os qs o read is first second all h = subst (λ (l : List Outcome). Counts l2 s2 l) (sym all) (go x read is first)
  where
    go : (x : Option Packet) → WasRead x → ArrivesAs x o → (l1 ≡ false → (l0 ≡ false) × (s1 ≡ with_came x s0)) → Counts l2 s2 (os ++ o ∷ [])
    go None r i f = λ e.
        let b = second e in
        let a = f b.0 in
        let same : s2 ≡ s0 = b.1 ∙ ap (λ (q : Outcome). with_drop q s1) i ∙ a.1 in
        let had : s0 ≡ counted s0.parts (os ++ o ∷ []) = h a.0 ∙ sym (none_more s0.parts os NoPacket) ∙ ap (λ (q : Outcome). counted s0.parts (os ++ q ∷ [])) (sym i) in
        same ∙ had ∙ ap (λ (s : Counted). counted s.parts (os ++ o ∷ [])) (sym same)
    go (Some (Bad c)) r i f = counts_arrival l0 l1 l2 s0 s1 s2 os o (ap (λ (q : Outcome). is_arrival q) i.1 ∙ reads_as_arrival i.0 c r) f second h
    go (Some (Good y n at)) r i f = counts_arrival l0 l1 l2 s0 s1 s2 os o i f second h

-- an installation
pub counts_install : (known : Bool) (v : ℕ) (j : JournalView) (lost : Bool) (s : Counted) → Counts lost s j.outcomes → Counts lost s (with_install known v j).outcomes
counts_install false v j lost s h = counts_refused lost s j.outcomes UnknownVersion h
counts_install true v j lost s h = go (nat_lt j.newest v)
  where
    go : (b : Bool) → Counts lost s (if b then with_event (record j { newest = v; installed = v ∷ j.installed }) (Install j.node v) Installed else with_event j (Install j.node v) (Refused NotNewer)).outcomes
    go true = counts_installed lost s j.outcomes h
    go false = counts_refused lost s j.outcomes NotNewer h

-- one more serving
pub counts_choice : (l0 l1 : Bool) (s0 s1 : Counted) (hs ks : List Handled) (h : Handled) → (l1 ≡ false → (l0 ≡ false) × (s1 ≡ with_choice h.choice s0)) → ks ≡ hs ++ h ∷ [] → CountsServed l0 s0 hs → CountsServed l1 s1 ks
counts_choice l0 l1 s0 s1 hs ks h step is had = λ n w e.
    let a = step e in
    let old : List Outcome = map (λ k. outcome_of n w k) hs in
    let was : s0 ≡ counted s0.parts old = had n w a.0 in
    let now : map (λ k. outcome_of n w k) ks ≡ old ++ outcome_of n w h ∷ [] = ap (λ (l : List Handled). map (λ k. outcome_of n w k) l) is ∙ map_push (λ k. outcome_of n w k) hs h in
    let more : s1 ≡ counted s0.parts (old ++ outcome_of n w h ∷ []) = a.1 ∙ ap (λ (s : Counted). with_choice h.choice s) was ∙ sym (choice_more s0.parts old n w h.item h.choice) in
    let all : s1 ≡ counted s0.parts (map (λ k. outcome_of n w k) ks) = more ∙ ap (λ (l : List Outcome). counted s0.parts l) (sym now) in
    all ∙ ap (λ (q : ℕ). counted q (map (λ k. outcome_of n w k) ks)) (sym (ap (λ (s : Counted). s.parts) all))

-- the servings of one more worker
pub served_push : (n w : ℕ) (hss : List (List Handled)) (hs : List Handled) → served_from n w (hss ++ hs ∷ []) ≡ served_from n w hss ++ map (λ h. outcome_of n (w + length hss) h) hs
served_push n w [] hs = append-nil (map (λ h. outcome_of n w h) hs) ∙ ap (λ (v : ℕ). map (λ h. outcome_of n v h) hs) (let e : w ≡ w + 0 = omega arith in e)
served_push n w (ks ∷ hss) hs =
    let e : (w + 1) + length hss ≡ w + length (ks ∷ hss) = omega arith in
    ap (λ (l : List Outcome). map (λ h. outcome_of n w h) ks ++ l) (served_push n (w + 1) hss hs
    ∙ ap (λ (v : ℕ). served_from n (w + 1) hss ++ map (λ h. outcome_of n v h) hs) e)
    ∙ sym (append_assoc (map (λ h. outcome_of n w h) ks) (served_from n (w + 1) hss) (map (λ h. outcome_of n (w + length (ks ∷ hss)) h) hs))

-- two counts put together
pub counts_plus : (l0 l1 l2 : Bool) (s0 s1 s2 : Counted) (os ps : List Outcome) → (l2 ≡ false → (l0 ≡ false) × (l1 ≡ false)) → s2 ≡ plus s0 s1 → Counts l0 s0 os → Counts l1 s1 ps → Counts l2 s2 (os ++ ps)
counts_plus l0 l1 l2 s0 s1 s2 os ps step is a b = λ e.
    let f = step e in
    let one : s0 ≡ counted s0.parts os = a f.0 in
    let two : s1 ≡ counted s1.parts ps = b f.1 in
    let all : s2 ≡ counted (s0.parts + s1.parts) (os ++ ps) =
    is ∙ ap (λ (s : Counted). plus s s1) one ∙ ap (λ (s : Counted). plus (counted s0.parts os) s) two ∙ sym (counted_append s0.parts s1.parts os ps) in
    all ∙ ap (λ (n : ℕ). counted n (os ++ ps)) (sym (ap (λ (s : Counted). s.parts) all))

-- the outcomes of a journal after the servings
pub serves_outcomes : (w : ℕ) (hs : List Handled) (j : JournalView) → ((with_serves w hs j).outcomes ≡ j.outcomes ++ map (λ h. outcome_of j.node w h) hs) × ((with_serves w hs j).node ≡ j.node)
serves_outcomes w [] j = (sym (append-nil j.outcomes), refl)
serves_outcomes w (h ∷ hs) j =
    let more = serves_outcomes w hs (with_serve w h j) in
    (more.0 ∙ append_assoc j.outcomes (outcome_of j.node w h ∷ []) (map (λ k. outcome_of j.node w k) hs), more.1)

pub all_serves_outcomes : (w : ℕ) (hss : List (List Handled)) (j : JournalView) → (with_all_serves w hss j).outcomes ≡ j.outcomes ++ served_from j.node w hss
all_serves_outcomes w [] j = sym (append-nil j.outcomes)
all_serves_outcomes w (hs ∷ hss) j =
    let one = serves_outcomes w hs j in
    all_serves_outcomes (w + 1) hss (with_serves w hs j)
    ∙ ap (λ (n : ℕ). (with_serves w hs j).outcomes ++ served_from n (w + 1) hss) one.1
    ∙ ap (λ (l : List Outcome). l ++ served_from j.node (w + 1) hss) one.0
    ∙ append_assoc j.outcomes (map (λ h. outcome_of j.node w h) hs) (served_from j.node (w + 1) hss)

-- what one more worker counted
pub counts_more : (l0 l1 l2 : Bool) (s0 s1 s2 : Counted) (os : List Outcome) (n : ℕ) (hss kss : List (List Handled)) (hs : List Handled) → (l2 ≡ false → (l0 ≡ false) × (l1 ≡ false)) → s2 ≡ plus s0 s1 → kss ≡ hss ++ hs ∷ [] →
    Counts l0 s0 (os ++ served_from n 0 hss) → CountsServed l1 s1 hs → Counts l2 s2 (os ++ served_from n 0 kss)
counts_more l0 l1 l2 s0 s1 s2 os n hss kss hs step put is had own =
    let last : List Outcome = map (λ h. outcome_of n (0 + length hss) h) hs in
    let all : os ++ served_from n 0 kss ≡ (os ++ served_from n 0 hss) ++ last =
    ap (λ (k : List (List Handled)). os ++ served_from n 0 k) is ∙ ap (λ (l : List Outcome). os ++ l) (served_push n 0 hss hs) ∙ sym (append_assoc os (served_from n 0 hss) last) in
    subst (λ (l : List Outcome). Counts l2 s2 l) (sym all) (counts_plus l0 l1 l2 s0 s1 s2 (os ++ served_from n 0 hss) last step put had (own n (0 + length hss)))

-- what is lost last
last_lost : List Outcome → ℕ
last_lost [] = 0
last_lost (o ∷ []) = lost_of o
last_lost (o ∷ q ∷ os) = last_lost (q ∷ os)

last_is : (os : List Outcome) (o : Outcome) → last_lost (os ++ o ∷ []) ≡ lost_of o
unfolding last_lost
last_is [] o = refl
last_is (q ∷ []) o = refl
last_is (q ∷ r ∷ os) o = last_is (r ∷ os) o

-- after a life ended: what was lost is to be counted
pub counts_ended : (k j : JournalView) (hss : List (List Handled)) (left : ℕ) (lost : Bool) (s : Counted) → k ≡ with_life_ended hss j → left ≡ left_over j.placed hss % 2 ^ 64 → Counts lost s (j.outcomes ++ served_from j.node 0 hss) → Counts lost (with_lost left s) k.outcomes
counts_ended k j hss left lost s is many h =
    let all : k.outcomes ≡ (j.outcomes ++ served_from j.node 0 hss) ++ Restarted left ∷ [] =
    ap (λ (v : JournalView). v.outcomes) is ∙ ap (λ (n : ℕ). (with_all_serves 0 hss j).outcomes ++ Restarted n ∷ []) (sym many) ∙ ap (λ (os : List Outcome). os ++ Restarted left ∷ []) (all_serves_outcomes 0 hss j) in
    subst (λ (os : List Outcome). Counts lost (with_lost left s) os) (sym all) (counts_lost left lost s (j.outcomes ++ served_from j.node 0 hss) h)

-- what was lost is counted, one by one
pub counts_told : (before after : Bool) (s t : Counted) (left : ℕ) (os : List Outcome) → (after ≡ false → (before ≡ false) × (t ≡ with_lost left s)) → Counts before (with_lost left s) os → Counts after t os
counts_told before after s t left os told h = λ e.
    let is = told e in
    subst (λ (c : Counted). c ≡ counted c.parts os) (sym is.1) (h is.0)

pub counts_served : (k j : JournalView) (hss : List (List Handled)) (lost : Bool) (s : Counted) → k ≡ with_all_serves 0 hss j → Counts lost s (j.outcomes ++ served_from j.node 0 hss) → Counts lost s k.outcomes
counts_served k j hss lost s is h = subst (λ (os : List Outcome). Counts lost s os) (sym (ap (λ (v : JournalView). v.outcomes) is ∙ all_serves_outcomes 0 hss j)) h
