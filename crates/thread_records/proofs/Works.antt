-- A worker's record grows by one packet.
use Rattle.std.proofs.Common.{◌≡◌, ℕ, ◌≤◌, ◌+◌, Bool, true, false, List, [], ◌∷◌, ◌++◌, length, map, max, Option, Contains, refl, sym, ap, ◌∙◌, subst, arith}
use Rattle.std.specs.Prelude.{◌||◌, nat_lt}
use Rattle.std.proofs.lemmas.Bool.{ltb-false}
use Rattle.std.proofs.lemmas.List.{length_push, get_or_append_left}
use Rattle.std.proofs.lemmas.List.Elements.{All-contains}
use Rattle.five_tuple.specs.declared.Flow.{Flow}
use Rattle.selection.specs.Readied.{Readied}
use Rattle.selection.proofs.Versions.{ups_for_readied}
use Rattle.forwarder.specs.Forwarding.{Forwarding, unused}
use Rattle.forwarder.proofs.History.{history-none}
use Rattle.selection.specs.Candidates.{Candidates, candidates_under}
use Rattle.forwarder.specs.Serving.{Pick, Serving, ups_in, told, told_after, serving_of, forwarding_of}
use Rattle.cluster_core.specs.Apart.{greatest}
use Rattle.handled_list.specs.declared.handled.Handled.{Handled}
use Rattle.thread_records.specs.Sources.{MadeOf, IsMadeOf}
use Rattle.thread_records.specs.Workers.{Limits, limits_of}
use Rattle.thread_records.specs.Works.{handling_of, serving_by, onto, newest_first, Fits, Follow, Agrees, always, WorkView, Worked}

pub onto_push : (earlier hs : List Handled) (h : Handled) → onto earlier (hs ++ h ∷ []) ≡ h ∷ onto earlier hs
onto_push earlier [] h = refl
onto_push earlier (g ∷ hs) h = onto_push (g ∷ earlier) hs h

pub follow_push : (pick : Pick) (limits : Limits) (has : ℕ → Bool) (here : ℕ → Flow → Option Candidates) (earlier hs : List Handled) (h : Handled) → Follow pick limits has here earlier hs → Fits pick limits has here (onto earlier hs) h → Follow pick limits has here earlier (hs ++ h ∷ [])
follow_push pick limits has here earlier [] h fs f = (f, tt)
follow_push pick limits has here earlier (g ∷ hs) h fs f = (fs.0, follow_push pick limits has here (g ∷ earlier) hs h fs.1 f)

-- what is kept is enough where more is
pub agrees_less : {S : Type 0} (pick_of : S → ℕ → Pick) (pick : Pick) (here : ℕ → Flow → Option Candidates) (ms : List (MadeOf S)) (m : MadeOf S) → Agrees pick_of pick here (ms ++ m ∷ []) → Agrees pick_of pick here ms
agrees_less {S} pick_of pick here ms m all k d lt =
    let long : length (ms ++ m ∷ []) ≡ length ms + 1 = length_push ms m in
    subst (λ (n : MadeOf S). (pick_of n.scheme n.size ≡ pick) × ((x : Flow) → here n.version.number x ≡ candidates_under n.version x)) (get_or_append_left ms (m ∷ []) d k lt) (all k d (omega arith))

-- a worker that has handled nothing
pub worked_none : {S : Type 0} (pick_of : S → ℕ → Pick) (capacity : ℕ) (idle : Option ℕ)
    → Worked pick_of (record { made = []; used = 0; forwarding = unused capacity idle; handled = [] })
worked_none pick_of capacity idle = record {
  used_is = refl;
  stands = λ pick here all. history-none pick capacity idle;
  follow = λ pick here all. tt;
}

-- one that has handled one more packet under a prepared version, of which it keeps what that was made from
module _ {S : Type 0} (pick_of : S → ℕ → Pick) (w : WorkView S) (p : Readied S) (h : Handled) (f : Forwarding) (made : List (MadeOf S)) (m : MadeOf S) where
  abbrev pub Answers : Pick → Type 0
  Answers pick = (past : List Serving) → w.forwarding ≡ forwarding_of pick w.forwarding.capacity w.forwarding.idle past →
      (h.choice ≡ (told_after pick w.forwarding.capacity w.forwarding.idle (told pick w.forwarding.capacity w.forwarding.idle past) (serving_of p h.item.flow h.item.at h.unstored)).choice)
      × (f ≡ forwarding_of pick w.forwarding.capacity w.forwarding.idle (serving_of p h.item.flow h.item.at h.unstored ∷ past))

  abbrev Fewer : Type 0
  Fewer = (pick : Pick) (here : ℕ → Flow → Option Candidates) → Agrees pick_of pick here made → Agrees pick_of pick here w.made

  -- what the version kept gives
  kept_serving : (pick : Pick) (here : ℕ → Flow → Option Candidates) → Agrees pick_of pick here made → Contains made m → IsMadeOf p m → p.number ≡ h.version → (pick_of p.scheme p.size ≡ pick) × (serving_of p h.item.flow h.item.at h.unstored ≡ serving_by here h)
  kept_serving pick here all inside is n =
      let own = All-contains (λ (q : MadeOf S). (pick_of q.scheme q.size ≡ pick) × ((x : Flow) → here q.version.number x ≡ candidates_under q.version x)) made m all inside in
      let number : m.version.number ≡ h.version = sym (ap (λ (q : Readied S). q.number) is) ∙ n in
      let ups : ups_in p h.item.flow ≡ here h.version h.item.flow =
      ap (λ (q : Readied S). ups_in q h.item.flow) is
      ∙ ups_for_readied m.scheme m.size h.item.flow m.version
      ∙ sym (own.1 h.item.flow)
      ∙ ap (λ (k : ℕ). here k h.item.flow) number in (
        ap (λ (q : Readied S). pick_of q.scheme q.size) is ∙ own.0,
        ap (λ (k : ℕ). record { flow = h.item.flow; at = h.item.at; version = k; ups = ups_in p h.item.flow; refused = h.unstored }) n
            ∙ ap (λ (o : Option Candidates). record { flow = h.item.flow; at = h.item.at; version = h.version; ups = o; refused = h.unstored }) ups,
      )

  pub worked_more : Worked pick_of w → Fewer → Contains made m → IsMadeOf p m → p.number ≡ h.version → h.item.floor ≤ h.version → w.used ≤ h.version → Answers (pick_of p.scheme p.size)
      → limits_of f ≡ limits_of w.forwarding
      → Worked pick_of (record { made = made; used = h.version; forwarding = f; handled = w.handled ++ h ∷ [] })
  worked_more k fewer inside is n floor above ans room =
      let earlier : List Handled = newest_first w.handled in
      let push : newest_first (w.handled ++ h ∷ []) ≡ h ∷ earlier = onto_push [] w.handled h in
      let most : greatest (map handling_of earlier) ≤ h.version = subst (λ (n : ℕ). n ≤ h.version) k.used_is above in
      let top : h.version ≡ max h.version (greatest (map handling_of earlier)) = omega arith in
      let said : (pick : Pick) (here : ℕ → Flow → Option Candidates) → Agrees pick_of pick here made →
      (h.choice ≡ (told_after pick w.forwarding.capacity w.forwarding.idle (told pick w.forwarding.capacity w.forwarding.idle (map (serving_by here) earlier)) (serving_by here h)).choice)
      × (f ≡ forwarding_of pick w.forwarding.capacity w.forwarding.idle (serving_by here h ∷ map (serving_by here) earlier))
      = λ pick here all.
      let own = kept_serving pick here all inside is n in
      let told_here = subst Answers own.0 ans (map (serving_by here) earlier) (k.stands pick here (fewer pick here all)) in (
        told_here.0 ∙ ap (λ (s : Serving). (told_after pick w.forwarding.capacity w.forwarding.idle (told pick w.forwarding.capacity w.forwarding.idle (map (serving_by here) earlier)) s).choice) own.1,
        told_here.1 ∙ ap (λ (s : Serving). forwarding_of pick w.forwarding.capacity w.forwarding.idle (s ∷ map (serving_by here) earlier)) own.1,
      ) in
      record {
        used_is = top ∙ ap (λ (l : List Handled). greatest (map handling_of l)) (sym push);
        stands = λ pick here all.
            (said pick here all).1
            ∙ ap (λ (n : Limits). forwarding_of pick n.capacity n.idle (serving_by here h ∷ map (serving_by here) earlier)) (sym room)
            ∙ ap (λ (l : List Handled). forwarding_of pick f.capacity f.idle (map (serving_by here) l)) (sym push);
        follow = λ pick here all.
            subst (λ (n : Limits). Follow pick n always here [] (w.handled ++ h ∷ [])) (sym room)
            (follow_push pick (limits_of w.forwarding) always here [] w.handled h (k.follow pick here (fewer pick here all)) (record { known = refl; floor = floor; ascends = most; answer = (said pick here all).0 }));
      }

or_false : (a b : Bool) → false ≡ (a || b) → (a ≡ false) × (b ≡ false)
or_false true b e = absurd (cc)
or_false false b e = (refl, sym e)

-- the same, by what a step says
pub worked_step : {S : Type 0} (pick_of : S → ℕ → Pick) (w : WorkView S) (p : Readied S) (h : Handled) (f : Forwarding) (made : List (MadeOf S)) (m : MadeOf S) (used : ℕ) (handled : List Handled) → Worked pick_of w
    → ((pick : Pick) (here : ℕ → Flow → Option Candidates) → Agrees pick_of pick here made → Agrees pick_of pick here w.made) → Contains made m → IsMadeOf p m → p.number ≡ h.version
    → false ≡ (nat_lt p.number h.item.floor || nat_lt p.number w.used) → used ≡ p.number → handled ≡ w.handled ++ h ∷ [] → limits_of f ≡ limits_of w.forwarding → Answers pick_of w p h f made m (pick_of p.scheme p.size)
    → Worked pick_of (record { made = made; used = used; forwarding = f; handled = handled })
worked_step {S} pick_of w p h f made m used handled k fewer inside is n tests u l room ans =
    let t = or_false (nat_lt p.number h.item.floor) (nat_lt p.number w.used) tests in
    let floor : h.item.floor ≤ h.version = omega (arith, ltb-false p.number h.item.floor t.0) in
    let above : w.used ≤ h.version = omega (arith, ltb-false p.number w.used t.1) in
    let e : used ≡ h.version = u ∙ n in
    subst (λ (v : ℕ). Worked pick_of (record { made = made; used = v; forwarding = f; handled = handled })) (sym e)
    (subst (λ (hs : List Handled). Worked pick_of (record { made = made; used = h.version; forwarding = f; handled = hs })) (sym l)
    (worked_more pick_of w p h f made m k fewer inside is n floor above ans room))
