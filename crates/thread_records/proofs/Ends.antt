-- The end of a life: what the workers handled, beside what was placed on them, and what is written of it.
use Rattle.std.proofs.Common.{◌≡◌, ℕ, ◌+◌, ◌-◌, ◌<◌, ◌≤◌, ◌%◌, ◌^◌, Bool, true, false, List, [], ◌∷◌, ◌++◌, length, map, take, drop, get_or, suc, zero, reverse, Some, refl, sym, ap, ◌∙◌, subst, arith}
use Rattle.std.specs.Prelude.{◌==◌, All, slice_get, ◌&&◌, None}
use Rattle.std.specs.List.{list_any, list_all}
use Rattle.std.proofs.lemmas.Bool.{and_parts, true≢false}
use Rattle.std.proofs.lemmas.Option.{slice_get_within, get_or_from_slice_get}
use Rattle.std.proofs.lemmas.List.{take_all, take_more, map_push, length-map, get_or-map, append-nil, append_assoc, reverse-append}
use Rattle.std.proofs.lemmas.List.Elements.{All-same, All-head, All-tail}
use Rattle.std.proofs.lemmas.List.Folds.{list_all-map, list_all-append}
use Rattle.std.proofs.Math.Nat.{mod-add-mod}
use Rattle.cluster_node.specs.declared.serving.Item.{Item}
use Rattle.cluster_node.specs.declared.packets.Packet.{Packet}
use Rattle.cluster_node.specs.Rules.{Rules}
use Rattle.handled_list.specs.declared.handled.Handled.{Handled}
use Rattle.thread_records.specs.Works.{newest_first, WorkView}
use Rattle.thread_records.specs.declared.command.Command.TheVariants as commands
use Rattle.thread_records.specs.Histories.{past_of, commands_of, NoneWaits}
use Rattle.thread_records.specs.Journals.{JournalView, placed_on, Tells, Drives, Closes, AllFit, AllFitIn, with_serve, with_restart, IsServed}
use Rattle.thread_records.specs.Ends.{all_handled, handled_by, items_of, uses_installed, all_use_installed, ServesPlaced, AllServePlaced, LifeFits, with_serves, with_all_serves, with_life_ended, left_over}
use Rattle.thread_records.proofs.Rules.{newest_length}
use Rattle.thread_records.specs.Losses.{losses, LosesNone}
use Rattle.thread_records.proofs.Losses.{restart_more}
use Rattle.thread_records.proofs.Closes.{closes_first, close_more, closes_next, closes_restart, closes_none, left_few, served_refl, served_more, served_both, commands_restart}

pub begins_short : (hs : List Handled) (is : List Item) → items_of hs ≡ take (length hs) is → length hs ≤ length is
begins_short [] is e = omega arith
begins_short (h ∷ hs) [] e = absurd (cc)
begins_short (h ∷ hs) (i ∷ is) e = let rest : items_of hs ≡ take (length hs) is = cc in let s : length hs ≤ length is = begins_short hs is rest in omega arith

-- the packet at a place
pub item_at : (hs : List Handled) (is : List Item) (k : ℕ) (h : Handled) (d : Item) → items_of hs ≡ take (length hs) is → k < length hs → (get_or hs k h).item ≡ get_or is k d
item_at [] is k h d e lt = absurd (omega arith)
item_at (g ∷ hs) [] k h d e lt = absurd (cc)
item_at (g ∷ hs) (i ∷ is) zero h d e lt = cc
item_at (g ∷ hs) (i ∷ is) (suc k) h d e lt = let rest : items_of hs ≡ take (length hs) is = cc in item_at hs is k h d rest (omega arith)

slice_at : (hs : List Handled) (is : List Item) (k : ℕ) (h : Handled) → items_of hs ≡ take (length hs) is → k < length hs → slice_get is k ≡ Some (get_or hs k h).item
slice_at [] is k h e lt = absurd (omega arith)
slice_at (g ∷ hs) [] k h e lt = absurd (cc)
slice_at (g ∷ hs) (i ∷ is) zero h e lt = let s : i ≡ g.item = cc in ap (λ (x : Item). Some x) s
slice_at (g ∷ hs) (i ∷ is) (suc k) h e lt = let rest : items_of hs ≡ take (length hs) is = cc in slice_at hs is k h rest (omega arith)

-- a worker that served all that was placed on it served a beginning of it
pub begins_of : (drained : Bool) (is : List Item) (hs : List Handled) → ServesPlaced drained is hs → items_of hs ≡ take (length hs) is
begins_of true is hs e =
    let n : length (items_of hs) ≡ length hs = length-map hs (λ h. h.item) in
    let m : length is ≤ length hs = omega (arith, ap length e) in
    e ∙ sym (take_all (length hs) is m)
begins_of false is hs e = e

installed_at : (installed : List ℕ) (hs : List Handled) (k : ℕ) (h : Handled) → uses_installed installed hs ≡ true → k < length hs → list_any (λ u. u == (get_or hs k h).version) installed ≡ true
installed_at installed [] k h e lt = absurd (omega arith)
installed_at installed (g ∷ hs) zero h e lt = (and_parts (list_any (λ u. u == g.version) installed) (uses_installed installed hs) e).0
installed_at installed (g ∷ hs) (suc k) h e lt = installed_at installed hs k h (and_parts (list_any (λ u. u == g.version) installed) (uses_installed installed hs) e).1 (omega arith)

-- where there is a packet there is one to be had
pub none_within : (hs : List Handled) (k : ℕ) → slice_get hs k ≡ None → k < length hs → ⊥
none_within [] k e lt = absurd (omega arith)
none_within (h ∷ hs) zero e lt = cc
none_within (h ∷ hs) (suc k) e lt = none_within hs k e (omega arith)

-- one more of them is the packet at its place
pub begins_more : (hs : List Handled) (is : List Item) (k : ℕ) (h : Handled) (d : Item) → slice_get hs k ≡ Some h → k < length is → h.item ≡ get_or is k d → items_of (take k hs) ≡ take k is → items_of (take (k + 1) hs) ≡ take (k + 1) is
begins_more hs is k h d at below same had =
    let last : get_or hs k h ≡ h = get_or_from_slice_get hs k h h at in
    ap items_of (take_more hs k h (slice_get_within hs k h at))
    ∙ map_push (λ g. g.item) (take k hs) (get_or hs k h)
    ∙ ap (λ (l : List Item). l ++ (get_or hs k h).item ∷ []) had
    ∙ ap (λ (i : Item). take k is ++ i ∷ []) (ap (λ (g : Handled). g.item) last ∙ same)
    ∙ sym (take_more is k d below)

-- one of them is not
pub begins_not : (hs : List Handled) (is : List Item) (k : ℕ) (h : Handled) (d : Item) → slice_get hs k ≡ Some h → (h.item ≡ get_or is k d → ⊥) → items_of hs ≡ take (length hs) is → ⊥
begins_not hs is k h d at other all =
    let last : get_or hs k h ≡ h = get_or_from_slice_get hs k h h at in
    other (ap (λ (g : Handled). g.item) (sym last) ∙ item_at hs is k h d all (slice_get_within hs k h at))

-- one more of them was served under a version that was installed
pub uses_more : (installed : List ℕ) (hs : List Handled) (k : ℕ) (h : Handled) → slice_get hs k ≡ Some h → uses_installed installed (take k hs) ≡ true → list_any (λ u. u == h.version) installed ≡ true → uses_installed installed (take (k + 1) hs) ≡ true
uses_more installed hs k h is had one =
    let last : get_or hs k h ≡ h = get_or_from_slice_get hs k h h is in
    ap (λ (l : List Handled). uses_installed installed l) (take_more hs k h (slice_get_within hs k h is))
    ∙ list_all-append (λ (g : Handled). list_any (λ u. u == g.version) installed) (take k hs) (get_or hs k h ∷ [])
    ∙ ap (λ (b : Bool). b && uses_installed installed (get_or hs k h ∷ [])) had
    ∙ ap (λ (g : Handled). uses_installed installed (g ∷ [])) last
    ∙ ap (λ (b : Bool). b && true) one

-- one that was not
pub uses_not : (installed : List ℕ) (hs : List Handled) (k : ℕ) (h : Handled) → slice_get hs k ≡ Some h → list_any (λ u. u == h.version) installed ≡ false → uses_installed installed hs ≡ false
uses_not installed hs k h is one = go (uses_installed installed hs) refl
  where
    go : (b : Bool) → uses_installed installed hs ≡ b → b ≡ false
    go false e = refl
    go true e =
        let last : get_or hs k h ≡ h = get_or_from_slice_get hs k h h is in
        sym (installed_at installed hs k h e (slice_get_within hs k h is)) ∙ ap (λ (g : Handled). list_any (λ u. u == g.version) installed) last ∙ one

-- what stands at a place of a list
record At {A : Type 0} (xs : List A) (n : ℕ) (x : A) (rest : List A) : Type 0 where
  within : n < length xs
  here : x ≡ get_or xs n x
  behind : rest ≡ drop (n + 1) xs

stands_at : {A : Type 0} (xs : List A) (n : ℕ) (x : A) (rest : List A) → x ∷ rest ≡ drop n xs → At xs n x rest
stands_at [] zero x rest e = absurd (cc)
stands_at [] (suc n) x rest e = absurd (cc)
stands_at (y ∷ xs) zero x rest e = let h : x ≡ y = cc in let r : rest ≡ xs = cc in record { within = omega arith; here = h; behind = r }
stands_at (y ∷ xs) (suc n) x rest e =
    let a : At xs n x rest = stands_at xs n x rest e in
    let s : suc (n + 1) ≡ suc n + 1 = omega arith in
    let w : n < length xs = a.within in
    record { within = omega arith; here = a.here; behind = a.behind ∙ ap (λ (k : ℕ). drop k (y ∷ xs)) s }

-- what is written, one serving after another
pub serves_push : (w : ℕ) (hs : List Handled) (h : Handled) (j : JournalView) → with_serves w (hs ++ h ∷ []) j ≡ with_serve w h (with_serves w hs j)
serves_push w [] h j = refl
serves_push w (g ∷ hs) h j = serves_push w hs h (with_serve w g j)

pub all_serves_push : (w : ℕ) (hss : List (List Handled)) (hs : List Handled) (j : JournalView) → with_all_serves w (hss ++ hs ∷ []) j ≡ with_serves (w + length hss) hs (with_all_serves w hss j)
all_serves_push w [] hs j = let z : w ≡ w + 0 = omega arith in ap (λ (n : ℕ). with_serves n hs j) z
all_serves_push w (gs ∷ hss) hs j =
    let z : w + 1 + length hss ≡ w + length (gs ∷ hss) = omega arith in
    all_serves_push (w + 1) hss hs (with_serves w gs j) ∙ ap (λ (n : ℕ). with_serves n hs (with_all_serves (w + 1) hss (with_serves w gs j))) z

pub serves_served : (w : ℕ) (hs : List Handled) (j : JournalView) → IsServed j (with_serves w hs j)
serves_served w [] j = served_refl j
serves_served w (h ∷ hs) j = served_both j (with_serve w h j) (with_serves w hs (with_serve w h j)) (served_more j j (with_serve w h j) w h refl (served_refl j)) (serves_served w hs (with_serve w h j))

pub all_serves_served : (w : ℕ) (hss : List (List Handled)) (j : JournalView) → IsServed j (with_all_serves w hss j)
all_serves_served w [] j = served_refl j
all_serves_served w (hs ∷ hss) j = served_both j (with_serves w hs j) (with_all_serves (w + 1) hss (with_serves w hs j)) (serves_served w hs j) (all_serves_served (w + 1) hss (with_serves w hs j))

-- all of one worker
module _ (rules : Rules) (packets : List Packet) (w left : ℕ) (hs : List Handled) (j : JournalView) (fit : AllFit rules hs) (below : w < rules.workers) (known : uses_installed j.installed hs ≡ true) (next : items_of hs ≡ take (length hs) (placed_on j.placed w)) where
  serves_from : (rest : List Handled) (n : ℕ) (k : JournalView) → rest ≡ drop n hs → IsServed j k → Closes rules packets w (newest_first (take n hs)) left k → Closes rules packets w (newest_first (take (n + length rest) hs)) left (with_serves w rest k)
  serves_from [] n k e s c = let z : n ≡ n + 0 = omega arith in subst (λ (m : ℕ). Closes rules packets w (newest_first (take m hs)) left k) z c
  serves_from (h ∷ rest) n k e s c =
      let a : At hs n h rest = stands_at hs n h rest e in
      let z : n + 1 + length rest ≡ n + length (h ∷ rest) = omega arith in
      let used : list_any (λ u. u == h.version) k.installed ≡ true =
      ap (λ (l : List ℕ). list_any (λ u. u == h.version) l) s.installed
      ∙ ap (λ (g : Handled). list_any (λ u. u == g.version) j.installed) a.here
      ∙ installed_at j.installed hs n h known a.within in
      let taken : slice_get (placed_on k.placed w) n ≡ Some h.item =
      ap (λ (l : List (List Item)). slice_get (placed_on l w) n) s.placed
      ∙ slice_at hs (placed_on j.placed w) n h next a.within
      ∙ ap (λ (g : Handled). Some g.item) (sym a.here) in
      subst (λ (m : ℕ). Closes rules packets w (newest_first (take m hs)) left (with_serves w rest (with_serve w h k))) z
      (serves_from rest (n + 1) (with_serve w h k) a.behind (served_more j k (with_serve w h k) w h refl s)
      (close_more rules packets w left hs n h k c fit below a.within a.here used taken))

  serves_all : Closes rules packets w [] left j → Closes rules packets w (newest_first hs) left (with_serves w hs j)
  serves_all c =
      let n : length hs ≤ 0 + length hs = omega arith in
      subst (λ (l : List Handled). Closes rules packets w (newest_first l) left (with_serves w hs j)) (take_all (0 + length hs) hs n) (serves_from hs 0 j refl (served_refl j) c)

-- the workers from one on
module _ (rules : Rules) (packets : List Packet) (j : JournalView) where
  all_from : (hss : List (List Handled)) (iss : List (List Item)) (w left : ℕ) (k : JournalView) → iss ≡ drop w j.placed → length hss ≡ length iss → IsServed j k → all_use_installed j.installed hss ≡ true → AllFitIn rules hss
      → ((u : ℕ) → u < length iss → items_of (handled_by hss u) ≡ take (length (handled_by hss u)) (placed_on iss u))
      → Closes rules packets w [] left k → Closes rules packets (w + length hss) [] (left + left_over iss hss) (with_all_serves w hss k)
  all_from [] [] w left k e n s known fit each c =
      let z : w ≡ w + 0 = omega arith in
      let y : left ≡ left + 0 = omega arith in
      subst (λ (m : ℕ). Closes rules packets m [] (left + 0) k) z (subst (λ (m : ℕ). Closes rules packets w [] m k) y c)
  all_from [] (is ∷ iss) w left k e n s known fit each c = absurd (omega arith)
  all_from (hs ∷ hss) [] w left k e n s known fit each c = absurd (omega arith)
  all_from (hs ∷ hss) (is ∷ iss) w left k e n s known fit each c =
      let a : At j.placed w is iss = stands_at j.placed w is iss e in
      let uses = and_parts (uses_installed j.installed hs) (all_use_installed j.installed hss) known in
      let lists : length k.placed ≡ rules.workers = c.tells.lists in
      let long : length k.placed ≡ length j.placed = ap length s.placed in
      let within : w < length j.placed = a.within in
      let below : w < rules.workers = omega arith in
      let here : placed_on k.placed w ≡ is = ap (λ (l : List (List Item)). placed_on l w) s.placed ∙ placed_is j.placed w is a.within a.here in
      let one : items_of hs ≡ take (length hs) is = each 0 (omega arith) in
      let begun : items_of hs ≡ take (length hs) (placed_on k.placed w) = one ∙ ap (λ (l : List Item). take (length hs) l) (sym here) in
      let used : uses_installed k.installed hs ≡ true = ap (λ (l : List ℕ). uses_installed l hs) s.installed ∙ uses.0 in
      let k' : JournalView = with_serves w hs k in
      let mine : IsServed k k' = serves_served w hs k in
      let count : length (newest_first hs) ≡ length hs = subst (λ (l : List Handled). length (newest_first l) ≡ length hs) (take_all (length hs) hs (omega arith)) (newest_length hs (length hs) (omega arith)) in
      let after : placed_on k'.placed w ≡ is = ap (λ (l : List (List Item)). placed_on l w) mine.placed ∙ here in
      let size : length (placed_on k'.placed w) ≡ length is = ap length after in
      let short : length hs ≤ length is = begins_short hs is one in
      let few : length (newest_first hs) ≤ length (placed_on k'.placed w) = omega arith in
      let rest : left + (length (placed_on k'.placed w) - length (newest_first hs)) ≡ left + (length is - length hs) = omega arith in
      let m : w + 1 + length hss ≡ w + length (hs ∷ hss) = omega arith in
      let o : left + (length is - length hs) + left_over iss hss ≡ left + left_over (is ∷ iss) (hs ∷ hss) = omega arith in
      subst (λ (p : ℕ). Closes rules packets p [] (left + left_over (is ∷ iss) (hs ∷ hss)) (with_all_serves (w + 1) hss k')) m
      (subst (λ (p : ℕ). Closes rules packets (w + 1 + length hss) [] p (with_all_serves (w + 1) hss k')) o
      (all_from hss iss (w + 1) (left + (length is - length hs)) k' a.behind (omega arith) (served_both j k k' s mine) uses.1 (λ u lt. fit (suc u) (omega arith)) (λ u lt. each (suc u) (omega arith))
      (subst (λ (p : ℕ). Closes rules packets (w + 1) [] p k') rest
      (closes_next rules packets w left (newest_first hs) k' (serves_all rules packets w left hs k (fit 0 (omega arith)) below used begun c) below few))))
    where
      placed_is : (iss : List (List Item)) (w : ℕ) (is : List Item) → w < length iss → is ≡ get_or iss w is → placed_on iss w ≡ is
      placed_is [] w is lt h = absurd (omega arith)
      placed_is (js ∷ iss) zero is lt h = sym h
      placed_is (js ∷ iss) (suc w) is lt h = placed_is iss w is (omega arith) h

left_none : (iss : List (List Item)) (hss : List (List Handled)) → length hss ≡ length iss → ((w : ℕ) → w < length iss → ServesPlaced true (placed_on iss w) (handled_by hss w)) → left_over iss hss ≡ 0
left_none [] hss n e = refl
left_none (is ∷ iss) [] n e = absurd (omega arith)
left_none (is ∷ iss) (hs ∷ hss) n e =
    let one : items_of hs ≡ is = e 0 (omega arith) in
    let same : length (items_of hs) ≡ length is = ap length one in
    let long : length (items_of hs) ≡ length hs = length-map hs (λ h. h.item) in
    let rest : left_over iss hss ≡ 0 = left_none iss hss (omega arith) (λ w lt. e (suc w) (omega arith)) in
    omega arith

pub drained_left : (drained : Bool) (j : JournalView) (hss : List (List Handled)) → LifeFits drained j hss → drained ≡ true → left_over j.placed hss ≡ 0
drained_left true j hss fits d = left_none j.placed hss fits.served.workers fits.served.each
drained_left false j hss fits d = absurd (true≢false (sym d))

-- the whole of a life
module _ (rules : Rules) (packets : List Packet) (j : JournalView) (drained : Bool) (hss : List (List Handled)) (d : Drives rules packets j) (fits : LifeFits drained j hss) (fit : AllFitIn rules hss) where
  abbrev Closed : JournalView
  Closed = with_all_serves 0 hss j

  all_closed : Closes rules packets rules.workers [] (left_over j.placed hss) Closed
  all_closed =
      let lists : length j.placed ≡ rules.workers = d.tells.lists in
      let count : length hss ≡ length j.placed = fits.served.workers in
      let z : 0 + length hss ≡ rules.workers = omega arith in
      let y : 0 + left_over j.placed hss ≡ left_over j.placed hss = omega arith in
      subst (λ (w : ℕ). Closes rules packets w [] (left_over j.placed hss) Closed) z
      (subst (λ (n : ℕ). Closes rules packets (0 + length hss) [] n Closed) y
      (all_from rules packets j hss j.placed 0 0 j refl count (served_refl j) fits.installed fit (λ u lt. begins_of drained (placed_on j.placed u) (handled_by hss u) (fits.served.each u lt)) (closes_first rules packets j d)))

  pub life_tells : Tells rules packets Closed
  life_tells = all_closed.tells

  pub life_drained : drained ≡ true → NoneWaits (past_of rules packets Closed.node Closed.events)
  life_drained e = closes_none rules packets Closed (subst (λ (n : ℕ). Closes rules packets rules.workers [] n Closed) (drained_left drained j hss fits e) all_closed)

  pub life_drives : length Closed.events < 2 ^ 64 → Drives rules packets (with_life_ended hss j)
  life_drives few =
      let left : left_over j.placed hss ≤ length Closed.events = left_few rules packets rules.workers (left_over j.placed hss) [] Closed all_closed refl refl in
      let e : left_over j.placed hss ≡ left_over j.placed hss % 2 ^ 64 = omega arith in
      subst (λ (n : ℕ). Drives rules packets (with_restart n Closed)) e (closes_restart rules packets rules.workers (left_over j.placed hss) [] Closed all_closed refl refl)

-- one more step of the functions that write: of a worker's servings, of which the last is taken out of what is still turned round
pub serves_step : (w : ℕ) (hs done old new rest : List Handled) (one : Handled) (j k after : JournalView) → hs ≡ done ++ reverse old → old ≡ new ++ one ∷ [] → rest ≡ new → k ≡ with_serves w done j → after ≡ with_serve w one k
    → (hs ≡ (done ++ one ∷ []) ++ reverse rest) × (after ≡ with_serves w (done ++ one ∷ []) j)
serves_step w hs done old new rest one j k after all popped same e f = (
  all
      ∙ ap (λ (l : List Handled). done ++ reverse l) popped
      ∙ ap (λ (l : List Handled). done ++ l) (reverse-append new (one ∷ []))
      ∙ sym (append_assoc done (one ∷ []) (reverse new))
      ∙ ap (λ (l : List Handled). (done ++ one ∷ []) ++ reverse l) (sym same),
  f ∙ ap (λ (v : JournalView). with_serve w one v) e ∙ sym (serves_push w done one j),
)

pub serves_all_done : (w : ℕ) (hs done old new : List Handled) (j k : JournalView) → hs ≡ done ++ reverse old → old ≡ [] → k ≡ with_serves w done j → k ≡ with_serves w hs j
serves_all_done w hs done old new j k all none e = e ∙ ap (λ (l : List Handled). with_serves w l j) (sym (all ∙ ap (λ (l : List Handled). done ++ reverse l) none ∙ append-nil done))

pub is_none : {X : Type 0} (xs : List X) → length xs ≡ 0 → xs ≡ []
is_none [] e = refl
is_none (x ∷ xs) e = absurd (omega arith)

-- what holds of all holds of one of them
pub all_middle : {X : Type 0} (P : X → Type 0) (xs ys all : List X) (x : X) → xs ++ x ∷ ys ≡ all → All P all → P x
all_middle {X} P xs ys all x e h = go xs (All-same P (xs ++ x ∷ ys) all e h)
  where
    go : (zs : List X) → All P (zs ++ x ∷ ys) → P x
    go [] k = All-head P x ys k
    go (z ∷ zs) k = go zs (All-tail P z (zs ++ x ∷ ys) k)

-- the servings of one worker more
pub all_serves_step : (hss : List (List Handled)) (hs : List Handled) (n : ℕ) (j k after : JournalView) → n ≡ length hss → k ≡ with_all_serves 0 hss j → after ≡ with_serves n hs k → after ≡ with_all_serves 0 (hss ++ hs ∷ []) j
all_serves_step hss hs n j k after count e f =
    let z : n ≡ 0 + length hss = omega (arith, count) in
    f
    ∙ ap (λ (v : JournalView). with_serves n hs v) e
    ∙ ap (λ (m : ℕ). with_serves m hs (with_all_serves 0 hss j)) z
    ∙ sym (all_serves_push 0 hss hs j)

left_push : (iss : List (List Item)) (hss : List (List Handled)) (hs : List Handled) → length hss < length iss → left_over (take (length hss + 1) iss) (hss ++ hs ∷ []) ≡ left_over (take (length hss) iss) hss + (length (placed_on iss (length hss)) - length hs)
left_push [] hss hs a = absurd (omega arith)
left_push (is ∷ iss) [] hs a = let e : (length is - length hs) + 0 ≡ 0 + (length is - length hs) = omega arith in e
left_push (is ∷ iss) (gs ∷ hss) hs a =
    let s : length (gs ∷ hss) + 1 ≡ suc (length hss + 1) = omega arith in
    let e : left_over (take (length hss + 1) iss) (hss ++ hs ∷ []) ≡ left_over (take (length hss) iss) hss + (length (placed_on iss (length hss)) - length hs) = left_push iss hss hs (omega arith) in
    let f : (length is - length gs) + left_over (take (length hss + 1) iss) (hss ++ hs ∷ []) ≡ (length is - length gs) + left_over (take (length hss) iss) hss + (length (placed_on iss (length hss)) - length hs) = omega arith in
    ap (λ (k : ℕ). left_over (take k (is ∷ iss)) (gs ∷ hss ++ hs ∷ [])) s ∙ f

pub left_step : (iss : List (List Item)) (hss : List (List Handled)) (hs : List Handled) (i left waiting : ℕ) → i ≡ length hss → i < length iss → left ≡ left_over (take i iss) hss % 2 ^ 64 → waiting ≡ length (placed_on iss i) - length hs
    → (left + waiting) % 2 ^ 64 ≡ left_over (take (i + 1) iss) (hss ++ hs ∷ []) % 2 ^ 64
left_step iss hss hs i left waiting count a e f =
    let n : ℕ = left_over (take i iss) hss in
    let more : left_over (take (i + 1) iss) (hss ++ hs ∷ []) ≡ n + (length (placed_on iss i) - length hs) = subst (λ (k : ℕ). left_over (take (k + 1) iss) (hss ++ hs ∷ []) ≡ left_over (take k iss) hss + (length (placed_on iss k) - length hs)) (sym count) (left_push iss hss hs (omega (arith, count, a))) in
    ap (λ (k : ℕ). (k + waiting) % 2 ^ 64) e
    ∙ mod-add-mod n (2 ^ 64) waiting
    ∙ ap (λ (k : ℕ). (n + k) % 2 ^ 64) f
    ∙ ap (λ (k : ℕ). k % 2 ^ 64) (sym more)

pub placed_kept : (hss : List (List Handled)) (j k : JournalView) → k ≡ with_all_serves 0 hss j → k.placed ≡ j.placed
placed_kept hss j k e = ap (λ (v : JournalView). v.placed) e ∙ (all_serves_served 0 hss j).placed

-- what a worker's record at a place says
pub handled_at : {S : Type 0} (ws : List (WorkView S)) (i : ℕ) (one : WorkView S) (hs : List Handled) → i < length ws → one ≡ get_or ws i one → hs ≡ one.handled → hs ≡ handled_by (all_handled ws) i
handled_at ws i one hs lt is e = e ∙ ap (λ w. w.handled) is ∙ sym (get_or-map (λ w. w.handled) ws i one [] lt)

pub placed_at : {V : Type 0} (items : V → List Item) (vs : List V) (i : ℕ) (one : V) (is : List Item) → i < length vs → one ≡ get_or vs i one → is ≡ items one → is ≡ placed_on (map items vs) i
placed_at items vs i one is lt at e = e ∙ ap items at ∙ sym (get_or-map items vs i one [] lt)

pub serves_by : (drained : Bool) (is js : List Item) (hs gs : List Handled) → is ≡ js → hs ≡ gs → ServesPlaced drained is hs → ServesPlaced drained js gs
serves_by drained is js hs gs e f s = subst (λ (l : List Item). ServesPlaced drained l gs) e (subst (λ (l : List Handled). ServesPlaced drained is l) f s)

pub uses_map : {S : Type 0} (installed : List ℕ) (ws : List (WorkView S)) → all_use_installed installed (all_handled ws) ≡ list_all (λ w. uses_installed installed w.handled) ws
uses_map installed ws = list_all-map (λ (hs : List Handled). uses_installed installed hs) (λ w. w.handled) ws

-- the history after the last life, and after another one
pub life_commands : (hss : List (List Handled)) (j after : JournalView) → after ≡ with_life_ended hss j → commands_of after.events ≡ commands_of j.events ++ commands.Restart ∷ []
life_commands hss j after e = commands_restart j (with_all_serves 0 hss j) after (left_over j.placed hss % 2 ^ 64) e (all_serves_served 0 hss j)

-- the comparison, by what the journal's fields hold
pub uses_here : {S : Type 0} (here there : List ℕ) (ws : List (WorkView S)) (b c : Bool) → here ≡ there → b ≡ list_all (λ w. uses_installed here w.handled) ws → b ≡ c → all_use_installed there (all_handled ws) ≡ c
uses_here here there ws b c e f g = ap (λ (l : List ℕ). all_use_installed l (all_handled ws)) (sym e) ∙ uses_map here ws ∙ sym f ∙ g

pub serve_by : (drained : Bool) (iss jss : List (List Item)) (hss : List (List Handled)) → iss ≡ jss → AllServePlaced drained iss hss → AllServePlaced drained jss hss
serve_by drained iss jss hss e s = subst (λ (l : List (List Item)). AllServePlaced drained l hss) e s

pub ended_tells : (rules : Rules) (packets : List Packet) (j after : JournalView) (drained : Bool) (hss : List (List Handled)) → after ≡ with_all_serves 0 hss j → Drives rules packets j → LifeFits drained j hss → AllFitIn rules hss → Tells rules packets after
ended_tells rules packets j after drained hss e d fits fit = subst (λ (k : JournalView). Tells rules packets k) (sym e) (life_tells rules packets j drained hss d fits fit)

pub ended_drained : (rules : Rules) (packets : List Packet) (j after : JournalView) (drained : Bool) (hss : List (List Handled)) → after ≡ with_all_serves 0 hss j → Drives rules packets j → LifeFits drained j hss → AllFitIn rules hss → drained ≡ true → NoneWaits (past_of rules packets after.node after.events)
ended_drained rules packets j after drained hss e d fits fit b = subst (λ (k : JournalView). NoneWaits (past_of rules packets k.node k.events)) (sym e) (life_drained rules packets j drained hss d fits fit b)

pub ended_served : (j after : JournalView) (hss : List (List Handled)) → after ≡ with_all_serves 0 hss j → IsServed j after
ended_served j after hss e = subst (λ (k : JournalView). IsServed j k) (sym e) (all_serves_served 0 hss j)

-- the restart
pub restarted_is : (left : ℕ) (hss : List (List Handled)) (j k after : JournalView) → left ≡ left_over j.placed hss % 2 ^ 64 → k ≡ with_all_serves 0 hss j → after ≡ with_restart left k → after ≡ with_life_ended hss j
restarted_is left hss j k after e f g = g ∙ ap (λ (n : ℕ). with_restart n k) e ∙ ap (λ (v : JournalView). with_restart (left_over j.placed hss % 2 ^ 64) v) f

pub restarted_drives : (rules : Rules) (packets : List Packet) (j k after : JournalView) (drained : Bool) (hss : List (List Handled)) → after ≡ with_life_ended hss j → k ≡ with_all_serves 0 hss j → length k.events < 2 ^ 64 → Drives rules packets j → LifeFits drained j hss → AllFitIn rules hss → Drives rules packets after
restarted_drives rules packets j k after drained hss e f few d fits fit =
    subst (λ (v : JournalView). Drives rules packets v) (sym e)
    (life_drives rules packets j drained hss d fits fit (subst (λ (v : JournalView). length v.events < 2 ^ 64) f few))

pub restarted_lost : (left : ℕ) (drained : Bool) (hss : List (List Handled)) (j : JournalView) → LifeFits drained j hss → left ≡ left_over j.placed hss % 2 ^ 64 → LosesNone drained left
restarted_lost left true hss j fits e = e ∙ ap (λ (n : ℕ). n % 2 ^ 64) (drained_left true j hss fits refl)
restarted_lost left false hss j fits e = tt

pub restarted_losses : (left : ℕ) (hss : List (List Handled)) (j k after : JournalView) → k ≡ with_all_serves 0 hss j → after ≡ with_restart left k → losses after.outcomes ≡ losses j.outcomes ++ left ∷ []
restarted_losses left hss j k after f g =
    ap (λ (v : JournalView). losses v.outcomes) g
    ∙ restart_more k.outcomes left
    ∙ ap (λ (v : JournalView). losses v.outcomes ++ left ∷ []) f
    ∙ ap (λ (ls : List ℕ). ls ++ left ∷ []) (all_serves_served 0 hss j).lost
