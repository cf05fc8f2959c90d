-- The end of a life: the servings of one worker after another, and the restart.
use Rattle.std.proofs.Common.{◌≡◌, ℕ, ◌+◌, ◌-◌, ◌<◌, ◌≤◌, ◌%◌, Bool, true, false, List, [], ◌∷◌, ◌++◌, length, map, take, get_or, Some, None, refl, sym, ap, ◌∙◌, subst, arith}
use Rattle.std.specs.Prelude.{◌==◌, if◌then◌else◌, slice_get}
use Rattle.std.specs.List.{list_any}
use Rattle.std.proofs.lemmas.Bool.{eq-eqb, ne_eqb, le-leb}
use Rattle.std.proofs.lemmas.List.{take_all, length-map}
use Rattle.cluster_node.specs.declared.serving.Item.{Item}
use Rattle.cluster_node.specs.declared.packets.Packet.{Packet}
use Rattle.cluster_node.specs.declared.events.Event.{Event}
use Rattle.cluster_node.specs.declared.events.Event.TheVariants.{Restart}
use Rattle.cluster_node.specs.declared.events.LogEntry.{LogEntry}
use Rattle.cluster_node.specs.declared.outcomes.Outcome.{Outcome}
use Rattle.cluster_node.specs.declared.outcomes.Outcome.TheVariants.{Restarted}
use Rattle.cluster_node.specs.Rules.{Rules}
use Rattle.cluster_node.specs.Book.{Line, took}
use Rattle.cluster_node.specs.Record.{accepted, installed_of, refusals_of, lines_of, placed_count, served_count}
use Rattle.cluster_core.specs.Apart.{puts_on}
use Rattle.handled_list.specs.declared.handled.Handled.{Handled}
use Rattle.thread_records.specs.Workers.{limits_in}
use Rattle.thread_records.specs.Works.{handling_of, newest_first, Fits}
use Rattle.thread_records.specs.declared.command.Command.{Command}
use Rattle.thread_records.specs.declared.command.Command.TheVariants as commands
use Rattle.thread_records.specs.Histories.{past_of, serve_of, outcome_of, stage_of, commands_of, NoneWaits}
use Rattle.thread_records.specs.Journals.{JournalView, all_placed, placed_on, Drives, Closes, AllFit, with_serve, with_restart, IsServed}
use Rattle.thread_records.specs.Losses.{losses}
use Rattle.thread_records.proofs.Losses.{serve_loses_none}
use Rattle.thread_records.proofs.Histories.{stage_append, outcome_accepted, serve_is, commands_append, commands_serve}
use Rattle.thread_records.proofs.Journals.{Moves, past_is, tells_push}
use Rattle.thread_records.proofs.Rules.{newest_more, newest_count}
use Rattle.thread_records.proofs.Placed.{all_placed_take, all_placed_none, placed_on_none}

-- before the first serving
pub closes_first : (rules : Rules) (packets : List Packet) (j : JournalView) → Drives rules packets j → Closes rules packets 0 [] 0 j
closes_first rules packets j d =
    let gone : served_count (past_of rules packets j.node j.events) ≡ 0 = d.gone in
    let stage : stage_of 0 j.events ≡ 0 = d.stage in
    record {
      tells = d.tells;
      popped = tt;
      own_lines = d.lines 0;
      other_lines = λ u _. d.lines u;
      gone = omega arith;
      stage = omega arith;
    }

module _ (rules : Rules) (packets : List Packet) (w left : ℕ) (earlier : List Handled) (j : JournalView) (d : Closes rules packets w earlier left j) where
  abbrev Had : List LogEntry
  Had = past_of rules packets j.node j.events

  -- one more serving of the worker
  pub closes_serve : (h : Handled) → w < rules.workers → slice_get (placed_on j.placed w) (length (map handling_of earlier)) ≡ Some h.item → Fits rules.pick (limits_in rules) (λ v. list_any (λ u. u == v) j.installed) rules.ups earlier h → Closes rules packets w (h ∷ earlier) left (with_serve w h j)
  closes_serve h below next fits =
      let e : Event = serve_of j.node w h in
      let o : Outcome = outcome_of j.node w h in
      let known : Fits rules.pick (limits_in rules) (λ v. list_any (λ u. u == v) (installed_of Had)) rules.ups earlier h = subst (λ (vs : List ℕ). Fits rules.pick (limits_in rules) (λ v. list_any (λ u. u == v) vs) rules.ups earlier h) d.tells.installed fits in
      let stage : stage_of 0 j.events ≤ w + 1 = d.stage in
      let same : all_placed j.placed ≤ all_placed j.placed + 1 = omega arith in
      let m : Moves rules packets j e None o j = record {
        node = refl;
        ring = refl;
        events = refl;
        outcomes = refl;
        own = refl;
        named = refl;
        is = serve_is rules Had j.node w (placed_on j.placed w) earlier h below d.own_lines d.popped next known;
        follow = le-leb (stage_of 0 j.events) (w + 1) stage;
        accept = outcome_accepted j.node w h;
        newest = d.tells.newest;
        installed = d.tells.installed;
        came = d.tells.came;
        few = same;
        lists = d.tells.lists;
        workers = d.tells.workers;
        due = λ k. (k, tt);
      } in
      let q : past_of rules packets j.node (j.events ++ e ∷ []) ≡ record { event = e; packet = None; outcome = o } ∷ Had = past_is rules packets j e None o d.tells j m in
      let gone : served_count Had + left ≡ all_placed (take w j.placed) + length earlier = d.gone in
      let more : served_count (past_of rules packets j.node (j.events ++ e ∷ [])) ≡ served_count Had + 1 = ap served_count q ∙ ap (λ (b : Bool). if b then served_count Had + 1 else served_count Had) (outcome_accepted j.node w h) in
      let at : stage_of 0 (j.events ++ e ∷ []) ≡ w + 1 = stage_append 0 j.events (e ∷ []) in
      record {
        tells = tells_push rules packets j e None o d.tells j m;
        popped = (next, d.popped);
        own_lines = ap (λ (l : List LogEntry). lines_of w l) q
            ∙ ap (λ (b : Bool). if b then (if accepted o then took h.version h.unstored ∷ lines_of w Had else lines_of w Had) else lines_of w Had) (eq-eqb w w refl)
            ∙ ap (λ (b : Bool). if b then took h.version h.unstored ∷ lines_of w Had else lines_of w Had) (outcome_accepted j.node w h)
            ∙ ap (λ (ls : List Line). took h.version h.unstored ∷ ls) d.own_lines;
        other_lines = λ u lt. ap (λ (l : List LogEntry). lines_of u l) q
            ∙ ap (λ (b : Bool). if b then (if accepted o then took h.version h.unstored ∷ lines_of u Had else lines_of u Had) else lines_of u Had) (ne_eqb w u (λ s. absurd (omega arith)))
            ∙ d.other_lines u lt;
        gone = omega arith;
        stage = omega arith;
      }

  -- the next worker
  pub closes_next : w < rules.workers → length earlier ≤ length (placed_on j.placed w) → Closes rules packets (w + 1) [] (left + (length (placed_on j.placed w) - length earlier)) j
  closes_next below few =
      let many : length j.placed ≡ rules.workers = d.tells.lists in
      let gone : served_count Had + left ≡ all_placed (take w j.placed) + length earlier = d.gone in
      let more : all_placed (take (w + 1) j.placed) ≡ all_placed (take w j.placed) + length (placed_on j.placed w) = all_placed_take j.placed w (omega arith) in
      let stage : stage_of 0 j.events ≤ w + 1 = d.stage in
      record {
        tells = d.tells;
        popped = tt;
        own_lines = d.other_lines (w + 1) (omega arith);
        other_lines = λ u lt. d.other_lines u (omega arith);
        gone = omega arith;
        stage = omega arith;
      }

  -- what was left is what was placed and not served
  left_is : w ≡ rules.workers → earlier ≡ [] → left ≡ placed_count Had - served_count Had
  left_is all none =
      let many : length j.placed ≡ rules.workers = d.tells.lists in
      let whole : all_placed (take w j.placed) ≡ all_placed j.placed = ap all_placed (take_all w j.placed (omega arith)) in
      let came : placed_count Had ≡ all_placed j.placed = d.tells.came in
      let gone : served_count Had + left ≡ all_placed (take w j.placed) + length earlier = d.gone in
      let zero_is : length earlier ≡ 0 = ap length none in
      omega arith

  -- and there are no more of them than events
  pub left_few : w ≡ rules.workers → earlier ≡ [] → left ≤ length j.events
  left_few all none =
      let e : left ≡ placed_count Had - served_count Had = left_is all none in
      let came : placed_count Had ≡ all_placed j.placed = d.tells.came in
      let few : all_placed j.placed ≤ length j.events = d.tells.few in
      omega arith

  -- the life ends, and a new one begins
  pub closes_restart : w ≡ rules.workers → earlier ≡ [] → Drives rules packets (with_restart left j)
  closes_restart all none =
      let e : Event = Restart j.node in
      let o : Outcome = Restarted left in
      let k : JournalView = record j { steering = record { workers = j.steering.workers; cursor = 0; at_home = false; left = [] }; placed = map (λ is. []) j.placed } in
      let empty : all_placed (map (λ is. []) j.placed) ≡ 0 = all_placed_none j.placed in
      let m : Moves rules packets j e None o k = record {
        node = refl;
        ring = refl;
        events = refl;
        outcomes = refl;
        own = refl;
        named = refl;
        is = ap (λ (n : ℕ). Restarted n) (left_is all none);
        follow = refl;
        accept = tt;
        newest = d.tells.newest;
        installed = d.tells.installed;
        came = sym empty;
        few = omega arith;
        lists = length-map j.placed (λ is. []) ∙ d.tells.lists;
        workers = d.tells.workers;
        due = λ h. (h, tt);
      } in
      let q : past_of rules packets j.node (j.events ++ e ∷ []) ≡ record { event = e; packet = None; outcome = o } ∷ Had = past_is rules packets j e None o d.tells k m in
      let some : 0 < rules.workers = d.tells.some in
      let z : 0 ≡ 0 % rules.workers = omega arith in
      record {
        tells = tells_push rules packets j e None o d.tells k m;
        cursor = z ∙ ap (λ (l : List LogEntry). refusals_of rules l % rules.workers) (sym q);
        lines = λ u. ap (λ (l : List LogEntry). lines_of u l) q ∙ ap (λ (is : List Item). puts_on [] is) (sym (placed_on_none j.placed u));
        gone = ap served_count q;
        stage = stage_append 0 j.events (e ∷ []);
      }

-- one more serving of a list
pub close_more : (rules : Rules) (packets : List Packet) (w left : ℕ) (hs : List Handled) (at : ℕ) (h : Handled) (j : JournalView) → Closes rules packets w (newest_first (take at hs)) left j → AllFit rules hs → w < rules.workers → at < length hs → h ≡ get_or hs at h
    → list_any (λ u. u == h.version) j.installed ≡ true → slice_get (placed_on j.placed w) at ≡ Some h.item → Closes rules packets w (newest_first (take (at + 1) hs)) left (with_serve w h j)
close_more rules packets w left hs at h j d fit below within is known next =
    let had : ℕ → Bool = λ v. list_any (λ u. u == v) j.installed in
    let fits : Fits rules.pick (limits_in rules) had rules.ups (newest_first (take at hs)) h =
    subst (λ (g : Handled). Fits rules.pick (limits_in rules) had rules.ups (newest_first (take at hs)) g) (sym is)
    (fit had at h within (subst (λ (g : Handled). had g.version ≡ true) is known)) in
    let count : length (map handling_of (newest_first (take at hs))) ≡ at = newest_count hs at (omega arith) in
    let here : slice_get (placed_on j.placed w) (length (map handling_of (newest_first (take at hs)))) ≡ Some h.item = ap (λ (n : ℕ). slice_get (placed_on j.placed w) n) count ∙ next in
    let longer : newest_first (take (at + 1) hs) ≡ h ∷ newest_first (take at hs) = newest_more hs at h within ∙ ap (λ (g : Handled). g ∷ newest_first (take at hs)) (sym is) in
    subst (λ (l : List Handled). Closes rules packets w l left (with_serve w h j)) (sym longer)
    (closes_serve rules packets w left (newest_first (take at hs)) j d h below here fits)

pub served_refl : (j : JournalView) → IsServed j j
served_refl j = record { node = refl; ring = refl; newest = refl; installed = refl; placed = refl; commands = refl; lost = refl }

pub served_more : (j k after : JournalView) (w : ℕ) (h : Handled) → after ≡ with_serve w h k → IsServed j k → IsServed j after
served_more j k after w h e s = record {
  node = ap (λ (v : JournalView). v.node) e ∙ s.node;
  ring = ap (λ (v : JournalView). v.ring) e ∙ s.ring;
  newest = ap (λ (v : JournalView). v.newest) e ∙ s.newest;
  installed = ap (λ (v : JournalView). v.installed) e ∙ s.installed;
  placed = ap (λ (v : JournalView). v.placed) e ∙ s.placed;
  commands = ap (λ (v : JournalView). commands_of v.events) e ∙ commands_serve k.events k.node w h.version h.unstored ∙ s.commands;
  lost = ap (λ (v : JournalView). losses v.outcomes) e ∙ serve_loses_none k.node w h k.outcomes ∙ s.lost;
}

pub served_both : (j k l : JournalView) → IsServed j k → IsServed k l → IsServed j l
served_both j k l a b = record { node = b.node ∙ a.node; ring = b.ring ∙ a.ring; newest = b.newest ∙ a.newest; installed = b.installed ∙ a.installed; placed = b.placed ∙ a.placed; commands = b.commands ∙ a.commands; lost = b.lost ∙ a.lost }

pub commands_restart : (j k after : JournalView) (left : ℕ) → after ≡ with_restart left k → IsServed j k → commands_of after.events ≡ commands_of j.events ++ commands.Restart ∷ []
commands_restart j k after left e s = ap (λ (v : JournalView). commands_of v.events) e ∙ commands_append k.events (Restart k.node ∷ []) ∙ ap (λ (l : List Command). l ++ commands.Restart ∷ []) s.commands

-- where nothing was left no packet waits
pub closes_none : (rules : Rules) (packets : List Packet) (j : JournalView) → Closes rules packets rules.workers [] 0 j → NoneWaits (past_of rules packets j.node j.events)
closes_none rules packets j d =
    let many : length j.placed ≡ rules.workers = d.tells.lists in
    let whole : all_placed (take rules.workers j.placed) ≡ all_placed j.placed = ap all_placed (take_all rules.workers j.placed (omega arith)) in
    let came : placed_count (past_of rules packets j.node j.events) ≡ all_placed j.placed = d.tells.came in
    let gone : served_count (past_of rules packets j.node j.events) + 0 ≡ all_placed (take rules.workers j.placed) + 0 = d.gone in
    omega arith
