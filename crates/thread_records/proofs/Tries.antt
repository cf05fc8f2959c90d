-- A packet that tries one ring after another.
use Rattle.std.proofs.Common.{◌≡◌, ℕ, ◌+◌, ◌<◌, ◌≤◌, ◌%◌, Bool, true, false, List, [], ◌∷◌, length, set, refl, sym, ap, ◌∙◌, subst, arith, ◌⊎◌, inl, inr}
use Rattle.std.specs.Prelude.{if◌then◌else◌}
use Rattle.std.proofs.lemmas.Bool.{true≢false, false≢true, cases_eq}
use Rattle.std.proofs.lemmas.List.{get_or-set_same, get_or-set_other}
use Rattle.cluster_node.specs.declared.serving.Item.{Item}
use Rattle.steering.specs.declared.Placed.TheVariants.{Worker, RingsFull}
use Rattle.steering.specs.Steering.{Steering, others, refuses, first_taker, place_for, cursor_after, next_of, rest_of}
use Rattle.thread_records.specs.Journals.{placed_on}

-- marks with others added
abbrev pub Has : List Bool → List Bool → Type 0
Has marks more = (k : ℕ) → refuses marks k ≡ true → refuses more k ≡ true

-- a packet with this home is at this worker, after those that are marked refused
pub record Trying (home : ℕ) (first : Steering) (marks : List Bool) (worker : ℕ) (now : Steering) : Type 0 where
  pub workers : now.workers ≡ first.workers
  pub below : worker < first.workers
  pub places : (more : List Bool) → Has marks more → first_taker more (home ∷ others first.workers home first.cursor) ≡ first_taker more (worker ∷ now.left)
  pub cursor : now.cursor ≡ cursor_after (refuses marks home) first.workers first.cursor
  pub at_home : now.at_home ≡ true → (worker ≡ home) × (refuses marks home ≡ false)
  pub away : now.at_home ≡ false → refuses marks home ≡ true

pub try_first : (home : ℕ) (first now : Steering) (marks : List Bool) (worker : ℕ) → worker ≡ home → worker < first.workers → refuses marks home ≡ false
    → now ≡ record { workers = first.workers; cursor = first.cursor; at_home = true; left = others first.workers home first.cursor } → Trying home first marks worker now
try_first home first now marks worker e below none is = record {
  workers = ap (λ (s : Steering). s.workers) is;
  below = below;
  places = λ more h. ap (λ (w : ℕ). first_taker more (w ∷ others first.workers home first.cursor)) (sym e) ∙ ap (λ (ws : List ℕ). first_taker more (worker ∷ ws)) (sym (ap (λ (s : Steering). s.left) is));
  cursor = ap (λ (s : Steering). s.cursor) is ∙ ap (λ (b : Bool). cursor_after b first.workers first.cursor) (sym none);
  at_home = λ h. (e, none);
  away = λ h. absurd (true≢false (sym (ap (λ (s : Steering). s.at_home) is) ∙ h));
}

-- a marked worker refuses
marked : (marks : List Bool) (w : ℕ) → w < length marks → refuses (set marks w true) w ≡ true
marked marks w h = get_or-set_same marks w true false h

keeps_marks : (marks : List Bool) (w k : ℕ) → w < length marks → refuses marks k ≡ true → refuses (set marks w true) k ≡ true
keeps_marks marks w k h e = elim (cases_eq k w) [
  | inl s ↦ ap (λ (n : ℕ). refuses (set marks w true) n) s ∙ marked marks w h
  | inr ne ↦ get_or-set_other marks w k true false ne ∙ e
]

-- the marks were either there, or one was added
pub marked_was : (marks : List Bool) (w k : ℕ) → w < length marks → refuses (set marks w true) k ≡ true → (k ≡ w) ⊎ (refuses marks k ≡ true)
marked_was marks w k h e = elim (cases_eq k w) [
  | inl s ↦ inl s
  | inr ne ↦ inr (sym (get_or-set_other marks w k true false ne) ∙ e)
]

module _ (home : ℕ) (first : Steering) (marks : List Bool) (worker : ℕ) (now : Steering) (t : Trying home first marks worker now) where
  -- the ring takes it
  pub try_taken : refuses marks worker ≡ false → place_for marks first.workers home first.cursor ≡ Worker worker
  unfolding place_for
  try_taken none = t.places marks (λ k e. e) ∙ ap (λ (b : Bool). if b then first_taker marks now.left else Worker worker) none

  module _ (after : Steering) (long : worker < length marks) (is : after ≡ record { workers = now.workers; cursor = cursor_after now.at_home now.workers now.cursor; at_home = false; left = rest_of now.left }) where
    abbrev pub More : List Bool
    More = set marks worker true

    home_marked : (b : Bool) → now.at_home ≡ b → refuses More home ≡ true
    home_marked true h = ap (λ (n : ℕ). refuses More n) (sym (t.at_home h).0) ∙ marked marks worker long
    home_marked false h = keeps_marks marks worker home long (t.away h)

    moved : (b : Bool) → now.at_home ≡ b → cursor_after b now.workers now.cursor ≡ cursor_after true first.workers first.cursor
    moved true h =
        ap (λ (n : ℕ). (now.cursor + 1) % n) t.workers
        ∙ ap (λ (c : ℕ). (c + 1) % first.workers) (t.cursor ∙ ap (λ (b : Bool). cursor_after b first.workers first.cursor) (t.at_home h).1)
    moved false h = t.cursor ∙ ap (λ (b : Bool). cursor_after b first.workers first.cursor) (t.away h)

    pub try_cursor : after.cursor ≡ cursor_after (refuses More home) first.workers first.cursor
    try_cursor = ap (λ (s : Steering). s.cursor) is ∙ moved now.at_home refl ∙ ap (λ (b : Bool). cursor_after b first.workers first.cursor) (sym (home_marked now.at_home refl))

    pub try_workers : after.workers ≡ first.workers
    try_workers = ap (λ (s : Steering). s.workers) is ∙ t.workers

    left_places : (more : List Bool) → Has More more → first_taker more (home ∷ others first.workers home first.cursor) ≡ first_taker more now.left
    left_places more h =
        t.places more (λ k e. h k (keeps_marks marks worker k long e))
        ∙ ap (λ (b : Bool). if b then first_taker more now.left else Worker worker) (h worker (marked marks worker long))

    -- all refused
    pub try_none : RingsFull ≡ next_of now.left → place_for More first.workers home first.cursor ≡ RingsFull
    unfolding place_for
    try_none none = left_places More (λ k e. e) ∙ go now.left none
      where
        go : (ws : List ℕ) → RingsFull ≡ next_of ws → first_taker More ws ≡ RingsFull
        go [] e = refl
        go (w ∷ ws) e = absurd (cc)

    -- the next one
    pub try_next : (next : ℕ) → Worker next ≡ next_of now.left → next < first.workers → Trying home first More next after
    try_next next e below = record {
      workers = try_workers;
      below = below;
      places = λ more h. left_places more h ∙ ap (λ (ws : List ℕ). first_taker more ws) (split now.left e ∙ ap (λ (ws : List ℕ). next ∷ ws) (sym (ap (λ (s : Steering). s.left) is)));
      cursor = try_cursor;
      at_home = λ h. absurd (false≢true (sym (ap (λ (s : Steering). s.at_home) is) ∙ h));
      away = λ h. home_marked now.at_home refl;
    }
      where
        split : (ws : List ℕ) → Worker next ≡ next_of ws → ws ≡ next ∷ rest_of ws
        split [] k = absurd (cc)
        split (w ∷ ws) k = let s : w ≡ next = cc in ap (λ (n : ℕ). n ∷ ws) s

    -- and fewer are left
    pub try_fewer : (next : ℕ) → Worker next ≡ next_of now.left → length after.left < length now.left
    try_fewer next e = subst (λ (ws : List ℕ). length ws < length now.left) (sym (ap (λ (s : Steering). s.left) is)) (go now.left e)
      where
        go : (ws : List ℕ) → Worker next ≡ next_of ws → length (rest_of ws) < length ws
        go [] k = absurd (cc)
        go (w ∷ ws) k = omega arith

-- the marks are due, with one more that is
pub due_more : (marks : List Bool) (worker ring : ℕ) (iss : List (List Item)) → worker < length marks → ring ≤ length (placed_on iss worker) → ((w : ℕ) → refuses marks w ≡ true → ring ≤ length (placed_on iss w)) → (w : ℕ) → refuses (set marks worker true) w ≡ true → ring ≤ length (placed_on iss w)
due_more marks worker ring iss long here had w e = elim (marked_was marks worker w long e) [
  | inl s ↦ subst (λ (n : ℕ). ring ≤ length (placed_on iss n)) (sym s) here
  | inr r ↦ had w r
]
