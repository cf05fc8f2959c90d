-- A driver's steps: installations and arrivals.
use Rattle.std.proofs.Common.{◌≡◌, ℕ, ◌+◌, ◌<◌, ◌≤◌, ◌%◌, Bool, true, false, List, [], ◌∷◌, ◌++◌, length, Option, Some, None, refl, sym, ap, ◌∙◌, subst, arith, append_assoc, replicate, zero, suc, Result, Ok, Err}
use Rattle.std.specs.Prelude.{OnOk, ◌==◌, nat_lt, if◌then◌else◌, slice_get}
use Rattle.std.proofs.lemmas.Bool.{eq-eqb, false≢true}
use Rattle.std.proofs.lemmas.List.{length-set, append-nil, length-replicate}
use Rattle.std.proofs.Math.Nat.{mod-add-mod}
use Rattle.five_tuple.specs.declared.Flow.{Flow}
use Rattle.steering.specs.Steering.{home_of, refuses, place_for, cursor_after}
use Rattle.steering.specs.declared.Placed.{Placed as Placing}
use Rattle.steering.specs.declared.Placed.TheVariants as placings
use Rattle.cluster_node.proofs.Below.{place_below, home_below}
use Rattle.cluster_node.specs.declared.serving.Item.{Item}
use Rattle.cluster_node.specs.declared.packets.Packet.{Packet}
use Rattle.cluster_node.specs.declared.packets.Packet.TheVariants.{Good, Bad}
use Rattle.cluster_node.specs.declared.events.Event.{Event}
use Rattle.cluster_node.specs.declared.events.Event.TheVariants.{Install, Arrive}
use Rattle.cluster_node.specs.declared.events.LogEntry.{LogEntry}
use Rattle.cluster_node.specs.declared.outcomes.Outcome.{Outcome}
use Rattle.cluster_node.specs.declared.outcomes.Outcome.TheVariants.{Installed, Placed, Dropped, Refused}
use Rattle.cluster_node.specs.declared.outcomes.Reason.TheVariants.{UnknownVersion, NotNewer, NoPacket}
use Rattle.cluster_node.specs.declared.outcomes.Cause.{Cause}
use Rattle.cluster_node.specs.declared.outcomes.Cause.TheVariants.{NoVersion, RingsFull}
use Rattle.cluster_node.specs.Rules.{Rules}
use Rattle.cluster_node.specs.Book.{Line, put, placed}
use Rattle.cluster_node.specs.Record.{newest_of, refusals_by, refusals_of, refused_home, lines_of, line_by, arrived_line, more_placed, placed_count, served_by, served_count, install_verdict, arrive_verdict, steered}
use Rattle.cluster_core.specs.Apart.{puts_on}
use Rattle.thread_records.specs.Histories.{past_of, DueAt, stage_after, stage_of, commands_of}
use Rattle.thread_records.specs.declared.command.Command.TheVariants.{Publish, Offer}
use Rattle.thread_records.specs.Journals.{JournalView, all_placed, placed_on, Drives, with_event, with_install, Attempt, put_on, with_placing, IsAttempt, no_marks, fresh_journal}
use Rattle.thread_records.proofs.Histories.{stage_append, commands_append}
use Rattle.thread_records.proofs.Journals.{Past, Moves, past_is, tells_push}
use Rattle.thread_records.proofs.Placed.{all_placed_put, placed_lines, none_refuse}

-- one more event of the driver
drives_push : (rules : Rules) (packets : List Packet) (j : JournalView) (e : Event) (p : Option Packet) (o : Outcome) → Drives rules packets j → (k : JournalView) → Moves rules packets j e p o k
    → k.steering.cursor ≡ refusals_by rules (newest_of (Past rules packets j e p o)) e p o (refusals_of rules (Past rules packets j e p o)) % rules.workers
    → ((w : ℕ) → line_by w e p o (lines_of w (Past rules packets j e p o)) ≡ puts_on [] (placed_on k.placed w))
    → served_by e o (served_count (Past rules packets j e p o)) ≡ 0 → stage_after (stage_of 0 j.events) e ≡ 0
    → Drives rules packets (with_event k e o)
drives_push rules packets j e p o d k m cursor lines gone stage =
    let q = past_is rules packets j e p o d.tells k m in
    record {
      tells = tells_push rules packets j e p o d.tells k m;
      cursor = cursor ∙ ap (λ (l : List LogEntry). refusals_of rules l % rules.workers) (sym q);
      lines = λ w. ap (λ (l : List LogEntry). lines_of w l) q ∙ lines w;
      gone = ap served_count q ∙ gone;
      stage = stage_append 0 k.events (e ∷ []) ∙ ap (λ (es : List Event). stage_after (stage_of 0 es) e) m.events ∙ stage;
    }

module _ (rules : Rules) (packets : List Packet) (j : JournalView) (d : Drives rules packets j) where
  abbrev Had : List LogEntry
  Had = past_of rules packets j.node j.events

  free : (stage_of 0 j.events == 0) ≡ true
  free = eq-eqb (stage_of 0 j.events) 0 d.stage

  less : all_placed j.placed ≤ all_placed j.placed + 1
  less = omega arith

  -- an event that is refused or dropped and changes nothing
  still : (e : Event) (p : Option Packet) (o : Outcome) → Moves rules packets j e p o j
      → refusals_by rules (newest_of Had) e p o (refusals_of rules Had) ≡ refusals_of rules Had → ((w : ℕ) → line_by w e p o (lines_of w Had) ≡ lines_of w Had) → served_by e o (served_count Had) ≡ served_count Had → stage_after (stage_of 0 j.events) e ≡ stage_of 0 j.events
      → Drives rules packets (with_event j e o)
  still e p o m c l s t = drives_push rules packets j e p o d j m (d.cursor ∙ ap (λ (n : ℕ). n % rules.workers) (sym c)) (λ w. l w ∙ d.lines w) (s ∙ d.gone) (t ∙ d.stage)

  verdict_is : (v : ℕ) (known b : Bool) → rules.known v ≡ known → nat_lt j.newest v ≡ b → (if known then (if b then Installed else Refused NotNewer) else Refused UnknownVersion) ≡ install_verdict (rules.known v) (newest_of Had) v
  verdict_is v known b h e =
      ap (λ (c : Bool). if known then (if c then Installed else Refused NotNewer) else Refused UnknownVersion) (sym e)
      ∙ ap (λ (n : ℕ). if known then (if nat_lt n v then Installed else Refused NotNewer) else Refused UnknownVersion) d.tells.newest
      ∙ ap (λ (c : Bool). install_verdict c (newest_of Had) v) (sym h)

  install_at : (v : ℕ) (known b : Bool) → rules.known v ≡ known → nat_lt j.newest v ≡ b
      → Drives rules packets (if known then (if b then with_event (record j { newest = v; installed = v ∷ j.installed }) (Install j.node v) Installed else with_event j (Install j.node v) (Refused NotNewer)) else with_event j (Install j.node v) (Refused UnknownVersion))
  install_at v true true h e =
      drives_push rules packets j (Install j.node v) None Installed d (record j { newest = v; installed = v ∷ j.installed })
      (record {
        node = refl;
        ring = refl;
        events = refl;
        outcomes = refl;
        own = refl;
        named = refl;
        is = verdict_is v true true h e;
        follow = free;
        accept = tt;
        newest = refl;
        installed = ap (λ (vs : List ℕ). v ∷ vs) d.tells.installed;
        came = d.tells.came;
        few = less;
        lists = d.tells.lists;
        workers = d.tells.workers;
        due = λ k. (k, tt);
      })
      d.cursor d.lines d.gone d.stage
  install_at v true false h e =
      still (Install j.node v) None (Refused NotNewer)
      (record {
        node = refl;
        ring = refl;
        events = refl;
        outcomes = refl;
        own = refl;
        named = refl;
        is = verdict_is v true false h e;
        follow = free;
        accept = tt;
        newest = d.tells.newest;
        installed = d.tells.installed;
        came = d.tells.came;
        few = less;
        lists = d.tells.lists;
        workers = d.tells.workers;
        due = λ k. (k, tt);
      })
      refl (λ w. refl) refl refl
  install_at v false b h e =
      still (Install j.node v) None (Refused UnknownVersion)
      (record {
        node = refl;
        ring = refl;
        events = refl;
        outcomes = refl;
        own = refl;
        named = refl;
        is = verdict_is v false b h e;
        follow = free;
        accept = tt;
        newest = d.tells.newest;
        installed = d.tells.installed;
        came = d.tells.came;
        few = less;
        lists = d.tells.lists;
        workers = d.tells.workers;
        due = λ k. (k, tt);
      })
      refl (λ w. refl) refl refl

  pub drives_install : (v : ℕ) (known : Bool) → rules.known v ≡ known → Drives rules packets (with_install known v j)
  drives_install v known h = install_at v known (nat_lt j.newest v) h refl

  -- an arrival that isn't steered
  unmarked : (k : ℕ) → j.early ≡ false → (j.early ≡ false) × DueAt j.ring (Arrive j.node k no_marks) Had
  unmarked k h = (h, λ w e. absurd (false≢true (sym (none_refuse w) ∙ e)))

  unsteered : (k : ℕ) (p : Option Packet) (o : Outcome) → slice_get packets k ≡ p → o ≡ arrive_verdict rules (newest_of Had) (refusals_of rules Had % rules.workers) k no_marks p
      → more_placed o (placed_count Had) ≡ placed_count Had → refused_home rules (newest_of Had) no_marks p (refusals_of rules Had) ≡ refusals_of rules Had
      → ((w : ℕ) → arrived_line w k p o (lines_of w Had) ≡ lines_of w Had)
      → Drives rules packets (with_event j (Arrive j.node k no_marks) o)
  unsteered k p o x is s c l =
      still (Arrive j.node k no_marks) p o
      (record {
        node = refl;
        ring = refl;
        events = refl;
        outcomes = refl;
        own = refl;
        named = x;
        is = is;
        follow = free;
        accept = tt;
        newest = d.tells.newest;
        installed = d.tells.installed;
        came = s ∙ d.tells.came;
        few = less;
        lists = d.tells.lists;
        workers = d.tells.workers;
        due = unmarked k;
      })
      c l refl refl

  pub drives_no_packet : (k : ℕ) → slice_get packets k ≡ None → Drives rules packets (with_event j (Arrive j.node k no_marks) (Refused NoPacket))
  drives_no_packet k x = unsteered k None (Refused NoPacket) x refl refl refl (λ w. refl)

  pub drives_bad : (k : ℕ) (c : Cause) → slice_get packets k ≡ Some (Bad c) → Drives rules packets (with_event j (Arrive j.node k no_marks) (Dropped k c))
  drives_bad k c x = unsteered k (Some (Bad c)) (Dropped k c) x refl refl refl (λ w. refl)

  newest_zero : (b : Bool) → (j.newest == 0) ≡ b → (newest_of Had == 0) ≡ b
  newest_zero b h = ap (λ (n : ℕ). n == 0) (sym d.tells.newest) ∙ h

  pub drives_no_version : (k : ℕ) (x : Flow) (l t : ℕ) → slice_get packets k ≡ Some (Good x l t) → (j.newest == 0) ≡ true → Drives rules packets (with_event j (Arrive j.node k no_marks) (Dropped k NoVersion))
  drives_no_version k x l t named first =
      let z : (newest_of Had == 0) ≡ true = newest_zero true first in
      let c : ℕ = refusals_of rules Had in
      unsteered k (Some (Good x l t)) (Dropped k NoVersion) named
      (ap (λ (b : Bool). if b then Dropped k NoVersion else steered (newest_of Had) k (place_for no_marks rules.workers (home_of rules.plain rules.workers x) (c % rules.workers))) (sym z))
      refl
      (ap (λ (b : Bool). if b then c else if refuses no_marks (home_of rules.plain rules.workers x) then c + 1 else c) z)
      (λ w. refl)

  cursor_step : (b : Bool) (workers c : ℕ) → cursor_after b workers (c % workers) ≡ (if b then c + 1 else c) % workers
  cursor_step true workers c = mod-add-mod c workers 1
  cursor_step false workers c = refl

  -- one that is
  module _ (k : ℕ) (x : Flow) (l t : ℕ) (a : Attempt) (named : slice_get packets k ≡ Some (Good x l t)) (some : (j.newest == 0) ≡ false) (is : IsAttempt rules.plain x j a) where
    abbrev Home : ℕ
    Home = home_of rules.plain rules.workers x

    abbrev Cursor : ℕ
    Cursor = refusals_of rules Had % rules.workers

    home_is : home_of rules.plain j.steering.workers x ≡ Home
    home_is = ap (λ (n : ℕ). home_of rules.plain n x) d.tells.workers

    place_is : a.placing ≡ place_for a.marks rules.workers Home Cursor
    place_is = is.placing
        ∙ ap (λ (n : ℕ). place_for a.marks n (home_of rules.plain n x) j.steering.cursor) d.tells.workers
        ∙ ap (λ (c : ℕ). place_for a.marks rules.workers Home c) d.cursor

    verdict_of : (o : Placing) → a.placing ≡ o → steered j.newest k o ≡ arrive_verdict rules (newest_of Had) Cursor k a.marks (Some (Good x l t))
    verdict_of o e =
        ap (λ (n : ℕ). steered n k o) d.tells.newest
        ∙ ap (λ (q : Placing). steered (newest_of Had) k q) (sym e ∙ place_is)
        ∙ ap (λ (b : Bool). if b then Dropped k NoVersion else steered (newest_of Had) k (place_for a.marks rules.workers Home Cursor)) (sym (newest_zero false some))

    cursor_is : a.steering.cursor ≡ refused_home rules (newest_of Had) a.marks (Some (Good x l t)) (refusals_of rules Had) % rules.workers
    cursor_is = is.cursor
        ∙ ap (λ (n : ℕ). cursor_after (refuses a.marks (home_of rules.plain n x)) n j.steering.cursor) d.tells.workers
        ∙ ap (λ (c : ℕ). cursor_after (refuses a.marks Home) rules.workers c) d.cursor
        ∙ cursor_step (refuses a.marks Home) rules.workers (refusals_of rules Had)
        ∙ ap (λ (b : Bool). (if b then refusals_of rules Had else if refuses a.marks Home then refusals_of rules Had + 1 else refusals_of rules Had) % rules.workers) (sym (newest_zero false some))

    puts_placed : (ls : List Line) (is : List Item) → placed (puts_on ls is) ≡ placed ls ++ is
    puts_placed ls [] = sym (append-nil (placed ls))
    puts_placed ls (i ∷ is) = puts_placed (put i ∷ ls) is ∙ append_assoc (placed ls) (i ∷ []) is

    due_is : a.early ≡ false → (j.early ≡ false) × DueAt j.ring (Arrive j.node k a.marks) Had
    due_is e = ((is.due e).0, λ w r. subst (λ (m : ℕ). j.ring ≤ m) (ap length (sym (ap placed (d.lines w) ∙ puts_placed [] (placed_on j.placed w)))) ((is.due e).1 w r))

    pub drives_placed : (o : Placing) → a.placing ≡ o → Drives rules packets (with_placing k x t a o j)
    drives_placed placings.RingsFull e =
        drives_push rules packets j (Arrive j.node k a.marks) (Some (Good x l t)) (Dropped k RingsFull) d (record j { steering = a.steering; early = a.early })
        (record {
          node = refl;
          ring = refl;
          events = refl;
          outcomes = refl;
          own = refl;
          named = named;
          is = verdict_of placings.RingsFull e;
          follow = free;
          accept = tt;
          newest = d.tells.newest;
          installed = d.tells.installed;
          came = d.tells.came;
          few = less;
          lists = d.tells.lists;
          workers = is.workers ∙ d.tells.workers;
          due = due_is;
        })
        cursor_is d.lines d.gone d.stage
    drives_placed (placings.Worker w) e =
        let below : w < rules.workers = place_below a.marks rules.workers Home Cursor w d.tells.some (home_below rules.plain rules.workers x d.tells.some) (sym place_is ∙ e) in
        let many : length j.placed ≡ rules.workers = d.tells.lists in
        let within : w < length j.placed = omega arith in
        let i : Item = record { packet = k; flow = x; at = t; floor = j.newest } in
        let more : all_placed (put_on j.placed w i) ≡ all_placed j.placed + 1 = all_placed_put j.placed w i within in
        drives_push rules packets j (Arrive j.node k a.marks) (Some (Good x l t)) (Placed w j.newest) d (record j { steering = a.steering; early = a.early; placed = put_on j.placed w i })
        (record {
          node = refl;
          ring = refl;
          events = refl;
          outcomes = refl;
          own = refl;
          named = named;
          is = verdict_of (placings.Worker w) e;
          follow = free;
          accept = tt;
          newest = d.tells.newest;
          installed = d.tells.installed;
          came = ap (λ (n : ℕ). n + 1) d.tells.came ∙ sym more;
          few = omega arith;
          lists = length-set j.placed w (placed_on j.placed w ++ i ∷ []) ∙ many;
          workers = is.workers ∙ d.tells.workers;
          due = due_is;
        })
        cursor_is
        (λ u. ap (λ (ls : List Line). if w == u then put i ∷ ls else ls) (d.lines u) ∙ placed_lines j.placed w u i within)
        d.gone d.stage

no_lists : (n w : ℕ) → placed_on (replicate n []) w ≡ []
no_lists zero w = refl
no_lists (suc n) zero = refl
no_lists (suc n) (suc w) = no_lists n w

all_no_lists : (n : ℕ) → all_placed (replicate n []) ≡ 0
all_no_lists zero = refl
all_no_lists (suc n) = let e : all_placed (replicate n []) ≡ 0 = all_no_lists n in omega arith

-- a node that has done nothing
pub drives_none : (rules : Rules) (packets : List Packet) (node ring workers : ℕ) → 0 < workers → node < rules.nodes → workers ≡ rules.workers → Drives rules packets (fresh_journal node ring workers)
drives_none rules packets node ring workers some there many =
    let none : all_placed (replicate workers []) ≡ 0 = all_no_lists workers in
    let positive : 0 < rules.workers = omega arith in
    let z : 0 ≡ 0 % rules.workers = omega arith in
    record {
      tells = record {
        there = there;
        some = positive;
        workers = many;
        lists = length-replicate workers [] ∙ many;
        told = refl;
        own = tt;
        newest = refl;
        installed = refl;
        came = sym none;
        few = omega arith;
        by_lives = refl;
        accepted = tt;
        due = λ h. tt;
      };
      cursor = z;
      lines = λ w. ap (λ (is : List Item). puts_on [] is) (sym (no_lists workers w));
      gone = refl;
      stage = refl;
    }

-- a journal that was shown by its own view
pub drives_ok : {A E : Type 0} (r : Result A E) (rules : Rules) (packets : List Packet) (k j : JournalView) → OnOk r (k ≡ j) → Drives rules packets j → OnOk r (Drives rules packets k)
drives_ok (Ok x) rules packets k j e d = subst (λ (z : JournalView). Drives rules packets z) (sym e) d
drives_ok (Err x) rules packets k j e d = tt

-- one that was steered, by what was written
pub drives_steered : {A E : Type 0} (r : Result A E) (rules : Rules) (packets : List Packet) (j after : JournalView) (plain : List ℕ → ℕ) (k : ℕ) (x : Flow) (l t : ℕ) → rules.plain ≡ plain → slice_get packets k ≡ Some (Good x l t) → (j.newest == 0) ≡ false → Drives rules packets j
    → OnOk r ((a : Attempt) × IsAttempt plain x j a × (after ≡ with_placing k x t a a.placing j)) → OnOk r (Drives rules packets after)
drives_steered (Ok z) rules packets j after plain k x l t same named some d w =
    let a : Attempt = w.0 in
    let is : IsAttempt rules.plain x j a = subst (λ (f : List ℕ → ℕ). IsAttempt f x j a) (sym same) w.1 in
    subst (λ (v : JournalView). Drives rules packets v) (sym w.2) (drives_placed rules packets j d k x l t a named some is a.placing refl)
drives_steered (Err z) rules packets j after plain k x l t same named some d w = tt

pub commands_install : (known : Bool) (v : ℕ) (j : JournalView) → commands_of (with_install known v j).events ≡ commands_of j.events ++ Publish v ∷ []
commands_install known v j = go known (nat_lt j.newest v)
  where
    go : (known newer : Bool) → commands_of (if known then (if newer then with_event (record j { newest = v; installed = v ∷ j.installed }) (Install j.node v) Installed else with_event j (Install j.node v) (Refused NotNewer)) else with_event j (Install j.node v) (Refused UnknownVersion)).events ≡ commands_of j.events ++ Publish v ∷ []
    go true true = commands_append j.events (Install j.node v ∷ [])
    go true false = commands_append j.events (Install j.node v ∷ [])
    go false newer = commands_append j.events (Install j.node v ∷ [])

pub commands_arrive : (es after : List Event) (n k : ℕ) → (marks : List Bool) × (after ≡ es ++ Arrive n k marks ∷ []) → commands_of after ≡ commands_of es ++ Offer k ∷ []
commands_arrive es after n k w = ap commands_of w.1 ∙ commands_append es (Arrive n k w.0 ∷ [])
