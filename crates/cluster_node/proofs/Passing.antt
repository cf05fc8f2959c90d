-- Serving at once is placing and then serving.
use Rattle.std.proofs.Common.{◌≡◌, ℕ, ◌<◌, Bool, true, false, List, [], ◌∷◌, length, zero, suc, Option, Some, None, refl, sym, ap, ◌∙◌, subst, Result, Ok, Err, get_or, find}
use Rattle.std.specs.Prelude.{slice_get, slice_set, ◌==◌, if◌then◌else◌, OnOk}
use Rattle.std.specs.List.{list_any}
use Rattle.std.specs.declared.alloc.AllocError.{AllocError}
use Rattle.std.proofs.lemmas.Bool.{eqb-true}
use Rattle.five_tuple.specs.declared.Flow.{Flow}
use Rattle.forwarder.specs.Serving.{Pick}
use Rattle.selection.specs.Readied.{Readied}
use Rattle.steering.specs.Steering.{home_of, refuses, place_for, cursor_after}
use Rattle.steering.specs.declared.Placed.{Placed as Placing}
use Rattle.steering.specs.declared.Placed.TheVariants as placings
use Rattle.cluster_node.specs.declared.serving.Item.{Item}
use Rattle.cluster_node.specs.WorkerView.{WorkerView}
use Rattle.cluster_node.specs.NodeView.{NodeView}
use Rattle.cluster_node.specs.Rules.{Rules}
use Rattle.cluster_node.specs.declared.packets.Packet.{Packet}
use Rattle.cluster_node.specs.declared.events.LogEntry.{LogEntry}
use Rattle.cluster_node.specs.declared.events.Event.{Event}
use Rattle.cluster_node.specs.declared.events.Event.TheVariants.{Arrive, Serve}
use Rattle.cluster_node.specs.declared.outcomes.Outcome.{Outcome}
use Rattle.cluster_node.specs.declared.outcomes.Outcome.TheVariants.{Installed, Placed, Forward, Dropped, Restarted, Refused}
use Rattle.cluster_node.specs.declared.outcomes.Cause.TheVariants.{NoVersion}
use Rattle.cluster_node.specs.declared.outcomes.Passed.{Passed}
use Rattle.cluster_node.specs.declared.outcomes.Passed.TheVariants.{Through}
use Rattle.cluster_node.specs.Record.{ArePrepared, installed_of, node_say, NodeStands, NodeGoes}
use Rattle.cluster_node.specs.Records.{NodePasses}
use Rattle.cluster_node.specs.PrivateSteps.{NodeStep, OneStep, PassStep, one_if, one_step, serve_at, serve_step, arrive_step, place_step, put_at, refuse, with_item, served_at, pass_then, pass_after, pass_on, pass_step}
use Rattle.cluster_node.proofs.Records.{arrive_goes, serve_goes, as_said}
use Rattle.cluster_node.proofs.Clearing.{get_of_or}

-- what was found has the number that was asked for
pub number_found : {S : Type 0} (v : ℕ) (ps : List (Readied S)) (p : Readied S) → find (λ q. q.number == v) ps ≡ Some p → p.number ≡ v
number_found v [] p h = absurd (cc)
number_found {S} v (q ∷ ps) p h = go (q.number == v) refl h (number_found v ps p)
  where
    go : (b : Bool) → (q.number == v) ≡ b → (if b then Some q else find (λ r. r.number == v) ps) ≡ Some p → (find (λ r. r.number == v) ps ≡ Some p → p.number ≡ v) → p.number ≡ v
    go true e f k = let same : q ≡ p = cc in ap (λ (r : Readied S). r.number) (sym same) ∙ eqb-true _ _ e
    go false e f k = k f

pub get_same : {A : Type 0} (ws : List A) (w : ℕ) (u x : A) → slice_get ws w ≡ Some u → slice_get (slice_set ws w x) w ≡ Some x
get_same [] w u x h = absurd (cc)
get_same (y ∷ ws) zero u x h = refl
get_same (y ∷ ws) (suc w) u x h = get_same ws w u x h

pub set_twice : {A : Type 0} (ws : List A) (w : ℕ) (x y : A) → slice_set (slice_set ws w x) w y ≡ slice_set ws w y
set_twice [] w x y = refl
set_twice (u ∷ ws) zero x y = refl
set_twice {A} (u ∷ ws) (suc w) x y = ap (λ (vs : List A). u ∷ vs) (set_twice ws w x y)

module _ {S : Type 0} (pick_of : S → ℕ → Pick) (ps : List (Readied S)) (plain : List ℕ → ℕ) (m : NodeView) (place k : ℕ) (marks : List Bool) (x : Flow) (t w : ℕ) (u : WorkerView) where
  abbrev pub Turned : ℕ
  Turned = cursor_after (refuses marks (home_of plain (length m.workers) x)) (length m.workers) m.cursor

  abbrev pub Here : Item
  Here = record { packet = k; flow = x; at = t; floor = m.newest }

  abbrev pub One : OneStep
  One = one_step pick_of ps m.installed place w (with_item u Here) m.newest false

  abbrev pub with_workers : List WorkerView → NodeView
  with_workers ws = record { newest = m.newest; installed = m.installed; cursor = Turned; workers = ws }

  -- a packet that is placed changes its worker alone
  pub placed_is : (m.newest == 0) ≡ false → place_for marks (length m.workers) (home_of plain (length m.workers) x) m.cursor ≡ placings.Worker w → slice_get m.workers w ≡ Some u → pass_on pick_of ps plain m place k marks x t ≡ record { passed = Through w m.newest One.outcome; after = with_workers (slice_set m.workers w One.after) }
  placed_is b e h =
      ap (λ (d : Bool). pass_after pick_of ps place (if d then refuse (Dropped k NoVersion) m else place_step m k x t Turned (place_for marks (length m.workers) (home_of plain (length m.workers) x) m.cursor))) b
      ∙ ap (λ (o : Placing). pass_after pick_of ps place (place_step m k x t Turned o)) e
      ∙ ap (λ (o : Option WorkerView). served_at w m.newest (serve_step pick_of ps (with_workers (put_at o m.workers w Here)) place w m.newest false)) h
      ∙ ap (λ (o : Option WorkerView). served_at w m.newest (serve_at pick_of ps (with_workers (slice_set m.workers w (with_item u Here))) place w m.newest false o)) (get_same m.workers w u (with_item u Here) h)
      ∙ ap (λ (ws : List WorkerView). let s : PassStep = record { passed = Through w m.newest One.outcome; after = with_workers ws } in s) (set_twice m.workers w (with_item u Here) One.after)

  -- the same, as the code finds it
  pub placed_passes : (z : NodeView) (after : WorkerView) (q : Passed) (has : Bool) (count cursor : ℕ) (r : Result (Unit {0}) AllocError) → m ≡ z → (m.newest == 0) ≡ false → length m.workers ≡ count → place_for marks count (home_of plain count x) m.cursor ≡ placings.Worker w → cursor ≡ cursor_after (refuses marks (home_of plain count x)) count m.cursor → w < length m.workers → u ≡ get_or m.workers w u → has ≡ list_any (λ j. j == m.newest) z.installed → OnOk r (q ≡ Through w m.newest (one_if pick_of ps has place w (with_item u Here) m.newest false).outcome) → OnOk r (after ≡ (one_if pick_of ps has place w (with_item u Here) m.newest false).after) →
      OnOk r (q ≡ (pass_on pick_of ps plain z place k marks x t).passed) × OnOk r (◌≡◌ {A = NodeView} (record { newest = m.newest; installed = m.installed; cursor = cursor; workers = slice_set m.workers w after }) (pass_on pick_of ps plain z place k marks x t).after)
  placed_passes z after q has count cursor (Err f) same b many e turned lt at known h j = (tt, tt)
  placed_passes z after q has count cursor (Ok d) same b many e turned lt at known h j =
      let is : pass_on pick_of ps plain m place k marks x t ≡ record { passed = Through w m.newest One.outcome; after = with_workers (slice_set m.workers w One.after) } =
      placed_is b (subst (λ (n : ℕ). place_for marks n (home_of plain n x) m.cursor ≡ placings.Worker w) (sym many) e) (get_of_or m.workers w u lt ∙ ap Some (sym at)) in
      let there : has ≡ list_any (λ i. i == m.newest) m.installed = known ∙ ap (λ (y : NodeView). list_any (λ i. i == m.newest) y.installed) (sym same) in
      let one : OneStep = one_if pick_of ps has place w (with_item u Here) m.newest false in
      let moved : cursor ≡ Turned = turned ∙ ap (λ (n : ℕ). cursor_after (refuses marks (home_of plain n x)) n m.cursor) (sym many) in (
        h
            ∙ ap (λ (d : Bool). Through w m.newest (one_if pick_of ps d place w (with_item u Here) m.newest false).outcome) there
            ∙ ap (λ (s : PassStep). s.passed) (sym is)
            ∙ ap (λ (y : NodeView). (pass_on pick_of ps plain y place k marks x t).passed) same,
        ap (λ (q : ℕ). let y : NodeView = record { newest = m.newest; installed = m.installed; cursor = q; workers = slice_set m.workers w after } in y) moved
            ∙ ap (λ (v : WorkerView). with_workers (slice_set m.workers w v)) j
            ∙ ap (λ (d : Bool). with_workers (slice_set m.workers w (one_if pick_of ps d place w (with_item u Here) m.newest false).after)) there
            ∙ ap (λ (s : PassStep). s.after) (sym is)
            ∙ ap (λ (y : NodeView). (pass_on pick_of ps plain y place k marks x t).after) same,
      )

-- what came of both is what the record gives
module _ {S : Type 0} (pick_of : S → ℕ → Pick) (rules : Rules) (ps : List (Readied S)) (past : List LogEntry) (m : NodeView) (n k : ℕ) (marks : List Bool) (p : Packet) (all : ArePrepared pick_of rules ps (installed_of past)) (st : NodeStands rules past m) where
  abbrev pub Come : Event
  Come = Arrive n k marks

  abbrev pub Before : List LogEntry
  Before = node_say rules past Come (Some p) ∷ past

  abbrev pub PassesAs : PassStep → Type 0
  PassesAs s = NodePasses rules past Come p (λ w. Serve n w m.newest false) s.passed s.after

  serving : (w f : ℕ) (after : NodeView) → after.newest ≡ m.newest → NodeGoes rules past Come (Some p) (Placed w f) after → PassesAs (pass_then pick_of ps n after (Placed w f))
  serving w f after same g =
      let s : NodeStep = serve_step pick_of ps after n w after.newest false in
      let goes : NodeGoes rules Before (Serve n w after.newest false) None s.outcome s.after = as_said rules Before (Serve n w after.newest false) None s.outcome s.after s refl refl (serve_goes pick_of rules ps Before after n w after.newest false None all g.1) in
      subst (λ (v : ℕ). NodePasses rules past Come p (λ u. Serve n u v false) (Through w f s.outcome) s.after) same ((g.0, goes.0), (after, g.1, goes.1))

  by_outcome : (o : Outcome) (after : NodeView) → after.newest ≡ m.newest → NodeGoes rules past Come (Some p) o after → PassesAs (pass_then pick_of ps n after o)
  by_outcome Installed after same g = ((refl, g.0), g.1)
  by_outcome (Placed w f) after same g = serving w f after same g
  by_outcome (Forward l w j x b v) after same g = ((refl, g.0), g.1)
  by_outcome (Dropped j c) after same g = ((refl, g.0), g.1)
  by_outcome (Restarted lost) after same g = ((refl, g.0), g.1)
  by_outcome (Refused r) after same g = ((refl, g.0), g.1)

  pub pass_goes : PassesAs (pass_step pick_of ps rules.plain m n k marks p)
  pass_goes =
      let s : NodeStep = arrive_step rules.plain m k marks (Some p) in
      let g : NodeGoes rules past Come (Some p) s.outcome s.after = as_said rules past Come (Some p) s.outcome s.after s refl refl (arrive_goes rules past m n k marks (Some p) st) in
      by_outcome s.outcome s.after (g.1.newest ∙ sym st.newest) g

pub pass_said : {S : Type 0} (pick_of : S → ℕ → Pick) (rules : Rules) (ps : List (Readied S)) (past : List LogEntry) (m after : NodeView) (n k : ℕ) (marks : List Bool) (p : Packet) (plain : List ℕ → ℕ) (q : Passed) (r : Result (Unit {0}) AllocError) → rules.plain ≡ plain → ArePrepared pick_of rules ps (installed_of past) → NodeStands rules past m → OnOk r (q ≡ (pass_step pick_of ps plain m n k marks p).passed) → OnOk r (after ≡ (pass_step pick_of ps plain m n k marks p).after) → OnOk r (NodePasses rules past (Arrive n k marks) p (λ w. Serve n w m.newest false) q after)
pass_said pick_of rules ps past m after n k marks p plain q (Ok u) f all st h j =
    subst (λ (o : Passed). NodePasses rules past (Arrive n k marks) p (λ w. Serve n w m.newest false) o after) (sym h)
    (subst (λ (z : NodeView). NodePasses rules past (Arrive n k marks) p (λ w. Serve n w m.newest false) (pass_step pick_of ps plain m n k marks p).passed z) (sym j)
    (subst (λ (g : List ℕ → ℕ). let s : PassStep = pass_step pick_of ps g m n k marks p in NodePasses rules past (Arrive n k marks) p (λ w. Serve n w m.newest false) s.passed s.after) f
    (pass_goes pick_of rules ps past m n k marks p all st)))
pass_said pick_of rules ps past m after n k marks p plain q (Err e) f all st h j = tt
