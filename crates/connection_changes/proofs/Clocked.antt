-- The times, lives and clocks after one event more.
use Rattle.std.proofs.Common.{◌≡◌, ℕ, zero, suc, Bool, true, false, List, [], ◌∷◌, ◌++◌, Option, Some, None, refl, sym, ap, ◌∙◌}
use Rattle.std.specs.Prelude.{◌==◌, ◌&&◌, max, slice_get, slice_index, if◌then◌else◌}
use Rattle.std.proofs.lemmas.Bool.{eqb-true}
use Rattle.five_tuple.specs.declared.Flow.{Flow}
use Rattle.pool_versions.specs.declared.backend.Backend.{Backend}
use Rattle.cluster_node.specs.declared.events.Event.{Event}
use Rattle.cluster_node.specs.declared.events.Event.TheVariants.{Arrive, Serve}
use Rattle.cluster_node.specs.declared.events.LogEntry.{LogEntry}
use Rattle.cluster_node.specs.declared.outcomes.Outcome.{Outcome}
use Rattle.cluster_node.specs.declared.outcomes.Outcome.TheVariants.{Installed, Placed, Forward, Dropped, Restarted, Refused}
use Rattle.connection_changes.specs.declared.clocks.Clocks.{Clocks}
use Rattle.connection_changes.specs.declared.numbers.Numbers.{Numbers}
use Rattle.connection_changes.specs.declared.sites.Arrived.{Arrived}
use Rattle.connection_changes.specs.declared.sites.Served.{Served}
use Rattle.connection_changes.specs.Sites.{time_told, arrived_by, time_with, time_of, begun_by, life_with, life_of, served_by, clock_begun, clock_with, clock_of, is_sent, nowhere, site_in}
use Rattle.connection_changes.specs.Books.{number_in, life_in, clock_in, site_served, AreClocksOf}

both : (a b : Bool) → (a && b) ≡ true → (a ≡ true) × (b ≡ true)
both true b h = (refl, h)
both false b h = absurd cc

-- ---- numbers of workers

-- a node without numbers more
pub push_none : (ns : List Numbers) (x : Numbers) → ((k : ℕ) → slice_index x.all.items k ≡ 0) → (n w : ℕ) → number_in (slice_get (ns ++ x ∷ []) n) w ≡ number_in (slice_get ns n) w
push_none [] x none zero w = none w
push_none [] x none (suc n) w = refl
push_none (y ∷ ns) x none zero w = refl
push_none (y ∷ ns) x none (suc n) w = push_none ns x none n w

-- a worker's clock once it has served a packet
pub raised : (clock : ℕ → ℕ → ℕ) (time : ℕ → ℕ) (s : Served) (n w : ℕ)
    → (if s.node == n && s.worker == w then max (clock s.node s.worker) (time s.packet) else clock n w) ≡ clock_with (Some s) time n w (clock n w)
raised clock time s n w = go (s.node == n && s.worker == w) refl
  where
    go : (t : Bool) → (s.node == n && s.worker == w) ≡ t → (if t then max (clock s.node s.worker) (time s.packet) else clock n w) ≡ (if t then max (clock n w) (time s.packet) else clock n w)
    go true e =
        let b = both (s.node == n) (s.worker == w) e in
        ap (λ (m : ℕ). max (clock m s.worker) (time s.packet)) (eqb-true s.node n b.0) ∙ ap (λ (v : ℕ). max (clock n v) (time s.packet)) (eqb-true s.worker w b.1)
    go false e = refl

-- ---- one event more

clock_with_same : (o : Option Served) (f g : ℕ → ℕ) → ((k : ℕ) → f k ≡ g k) → (n w x : ℕ) → clock_with o f n w x ≡ clock_with o g n w x
clock_with_same None f g h n w x = refl
clock_with_same (Some s) f g h n w x = ap (λ (t : ℕ). if s.node == n && s.worker == w then max x t else x) (h s.packet)

module _ (s : LogEntry) (past : List LogEntry) (a b c d : Clocks) (was : AreClocksOf past a)
    (times : (k : ℕ) → slice_index b.times.all.items k ≡ time_with (arrived_by s.event s.packet) k (slice_index a.times.all.items k)) (b_is : b ≡ record a { times = b.times })
    (lives : (n : ℕ) → life_in c n ≡ life_with (begun_by s.event s.outcome) n (life_in b n))
    (begun : (n w : ℕ) → clock_in c n w ≡ clock_begun (begun_by s.event s.outcome) n (clock_in b n w)) (c_times : c.times ≡ b.times)
    (d_is : d ≡ record c { clocks = d.clocks }) where
  new_times : (k : ℕ) → slice_index c.times.all.items k ≡ time_of (s ∷ past) k
  new_times k = ap (λ (l : Numbers). slice_index l.all.items k) c_times ∙ times k ∙ ap (λ (t : ℕ). time_with (arrived_by s.event s.packet) k t) (was.times k)

  new_lives : (n : ℕ) → life_in c n ≡ life_of (s ∷ past) n
  new_lives n = lives n ∙ ap (λ (l : ℕ). life_with (begun_by s.event s.outcome) n l) (ap (λ (z : Clocks). life_in z n) b_is ∙ was.lives n)

  new_clock : (n w : ℕ) → clock_in c n w ≡ clock_begun (begun_by s.event s.outcome) n (clock_of past n w)
  new_clock n w = begun n w ∙ ap (λ (t : ℕ). clock_begun (begun_by s.event s.outcome) n t) (ap (λ (z : Clocks). clock_in z n w) b_is ∙ was.clocks n w)

  pub clocks_more : ((n w : ℕ) → clock_in d n w ≡ clock_with (served_by s.event s.outcome) (λ k. slice_index c.times.all.items k) n w (clock_in c n w)) → AreClocksOf (s ∷ past) d
  clocks_more clocks = record {
    times = λ k. ap (λ (z : Clocks). slice_index z.times.all.items k) d_is ∙ new_times k;
    lives = λ n. ap (λ (z : Clocks). life_in z n) d_is ∙ new_lives n;
    clocks = λ n w. clocks n w
        ∙ clock_with_same (served_by s.event s.outcome) (λ k. slice_index c.times.all.items k) (λ k. time_of (s ∷ past) k) new_times n w (clock_in c n w)
        ∙ ap (λ (t : ℕ). clock_with (served_by s.event s.outcome) (λ k. time_of (s ∷ past) k) n w t) (new_clock n w);
  }

-- the place of a packet that was sent is where it was served
pub sent_here : (s : LogEntry) (past : List LogEntry) (d : Clocks) (o : Outcome) → AreClocksOf (s ∷ past) d → (if is_sent o then site_served (served_by s.event o) d else nowhere) ≡ site_in (s ∷ past) o
sent_here s past d Installed h = refl
sent_here s past d (Placed w f) h = refl
sent_here s past d (Forward n w k x b v) h = rw (sym (h.times k), sym (h.lives n), sym (h.clocks n w)) refl
sent_here s past d (Dropped k c) h = refl
sent_here s past d (Restarted l) h = refl
sent_here s past d (Refused r) h = refl

-- the same, by what was told of the event
pub noted_by : (s : LogEntry) (past : List LogEntry) (a b c d : Clocks) (arrived : Option Arrived) (begun : Option ℕ) (served : Option Served) → AreClocksOf past a
    → arrived ≡ arrived_by s.event s.packet → begun ≡ begun_by s.event s.outcome → served ≡ served_by s.event s.outcome
    → ((k : ℕ) → slice_index b.times.all.items k ≡ time_with arrived k (slice_index a.times.all.items k)) → b ≡ record a { times = b.times }
    → ((n : ℕ) → life_in c n ≡ life_with begun n (life_in b n)) → ((n w : ℕ) → clock_in c n w ≡ clock_begun begun n (clock_in b n w)) → c.times ≡ b.times
    → ((n w : ℕ) → clock_in d n w ≡ clock_with served (λ k. slice_index c.times.all.items k) n w (clock_in c n w)) → d ≡ record c { clocks = d.clocks } → AreClocksOf (s ∷ past) d
noted_by s past a b c d arrived begun served was arrived_is begun_is served_is times b_is lives clocks_begun c_times clocks d_is =
    clocks_more s past a b c d was
    (λ k. times k ∙ ap (λ (o : Option Arrived). time_with o k (slice_index a.times.all.items k)) arrived_is) b_is
    (λ n. lives n ∙ ap (λ (o : Option ℕ). life_with o n (life_in b n)) begun_is)
    (λ n w. clocks_begun n w ∙ ap (λ (o : Option ℕ). clock_begun o n (clock_in b n w)) begun_is) c_times d_is
    (λ n w. clocks n w ∙ ap (λ (o : Option Served). clock_with o (λ k. slice_index c.times.all.items k) n w (clock_in c n w)) served_is)

-- an arrival that was placed tells a time and nothing else
pub placed_more : (s : LogEntry) (past : List LogEntry) (a b : Clocks) (n k : ℕ) (marks : List Bool) (w f : ℕ) → AreClocksOf past a → s.event ≡ Arrive n k marks → s.outcome ≡ Placed w f
    → ((j : ℕ) → slice_index b.times.all.items j ≡ time_with (time_told k s.packet) j (slice_index a.times.all.items j)) → b ≡ record a { times = b.times } → AreClocksOf (s ∷ past) b
placed_more s past a b n k marks w f was event outcome times b_is =
    noted_by s past a b b b (time_told k s.packet) None None was
    (sym (ap (λ (e : Event). arrived_by e s.packet) event)) (sym (ap (λ (e : Event). begun_by e s.outcome) event)) (sym (ap (λ (o : Outcome). served_by s.event o) outcome))
    times b_is (λ m. refl) (λ m v. refl) refl (λ m v. refl) refl

-- a serving whose packet was sent raises a clock and does nothing else
pub sent_more : (s : LogEntry) (past : List LogEntry) (a d : Clocks) (m u v : ℕ) (r : Bool) (n w k : ℕ) (x : Flow) (b : Backend) (o : ℕ) → AreClocksOf past a → s.event ≡ Serve m u v r → s.outcome ≡ Forward n w k x b o
    → ((i j : ℕ) → clock_in d i j ≡ clock_with (Some (record { node = n; worker = w; packet = k })) (λ l. slice_index a.times.all.items l) i j (clock_in a i j)) → d ≡ record a { clocks = d.clocks } → AreClocksOf (s ∷ past) d
sent_more s past a d m u v r n w k x b o was event outcome clocks d_is =
    noted_by s past a a a d None None (Some (record { node = n; worker = w; packet = k })) was
    (sym (ap (λ (e : Event). arrived_by e s.packet) event)) (sym (ap (λ (e : Event). begun_by e s.outcome) event)) (sym (ap (λ (p : Outcome). served_by s.event p) outcome))
    (λ j. refl) refl (λ i. refl) (λ i j. refl) refl clocks d_is

-- where it was served is where it was sent
pub sent_there : (s : LogEntry) (past : List LogEntry) (d : Clocks) (n w k : ℕ) (x : Flow) (b : Backend) (o : ℕ) → s.outcome ≡ Forward n w k x b o → AreClocksOf (s ∷ past) d
    → site_served (Some (record { node = n; worker = w; packet = k })) d ≡ site_in (s ∷ past) s.outcome
sent_there s past d n w k x b o outcome h = sent_here s past d (Forward n w k x b o) h ∙ sym (ap (λ (p : Outcome). site_in (s ∷ past) p) outcome)
