-- Which versions are prepared, as commands come one by one.
use Rattle.std.proofs.Common.{◌≡◌, ◌≢◌, ◌≤◌, ℕ, zero, suc, ◌+◌, ◌<◌, Bool, Bor, option_copied, drop, true, false, cond, List, [], ◌∷◌, ◌++◌, length, map, take, get_or, Option, Some, None, refl, sym, ap, ◌∙◌, subst, arith}
use Rattle.std.specs.Prelude.{◌==◌, ◌||◌, is_some, option_map}
use Rattle.std.specs.Option.{option_or}
use Rattle.std.specs.List.{list_any}
use Rattle.std.proofs.lemmas.Bool.{false≢true, true≢false, eqb-true, eq-eqb, ne_eqb}
use Rattle.std.proofs.lemmas.List.{take_more, map-append}
use Rattle.std.proofs.lemmas.List.Folds.{list_any-append, find-append}
use Rattle.pool_versions.specs.declared.service.Version.{Version}
use Rattle.pool_versions.specs.Pool.{Pools, version_at}
use Rattle.selection.specs.Readied.{Readied, readied_version}
use Rattle.cluster_node.specs.Record.{prepared_at}
use Rattle.thread_records.specs.declared.command.Command.{Command}
use Rattle.shared_versions.specs.Installed.{installs, is_installed, prepared_where, AreWanted}

-- the version of a number has that number
pub numbered : (n : ℕ) (vs : List Version) (v : Version) → version_at n vs ≡ Some v → v.number ≡ n
numbered n [] v e = absurd (cc)
numbered n (x ∷ xs) v e = one (x.number == n) refl (numbered n xs v) e
  where
    one : (b : Bool) → (x.number == n) ≡ b → (version_at n xs ≡ Some v → v.number ≡ n) → cond b (Some x) (version_at n xs) ≡ Some v → v.number ≡ n
    one true t rest f = let same : x ≡ v = cc in sym (ap (λ (u : Version). u.number) same) ∙ eqb-true x.number n t
    one false t rest f = rest f

module _ {S : Type 0} (scheme : S) (size : ℕ) (pools : Pools) where
  -- one of two wants it
  either : (b c : Bool) (n : ℕ) (o : Option (Readied S)) → (c ≡ false → o ≡ prepared_where scheme size pools b n) → (c ≡ true → o ≡ prepared_where scheme size pools true n) → o ≡ prepared_where scheme size pools (b || c) n
  either true true n o first second = second refl
  either true false n o first second = first refl
  either false true n o first second = second refl
  either false false n o first second = first refl

  -- what is there is wanted
  there : (b : Bool) (n : ℕ) (o : Option (Readied S)) → o ≡ prepared_where scheme size pools b n → is_some o ≡ true → o ≡ prepared_where scheme size pools true n
  there true n o h some = h
  there false n o h some = absurd (false≢true (ap (λ (q : Option (Readied S)). is_some q) (sym h) ∙ some))

  -- what the catalogue lacks isn't there, whether it is wanted or not
  lacking : (b : Bool) (n : ℕ) (o : Option (Readied S)) → o ≡ prepared_where scheme size pools b n → version_at n pools.versions ≡ None → o ≡ prepared_where scheme size pools true n
  lacking true n o h none = h
  lacking false n o h none = h ∙ sym (ap (λ (q : Option Version). option_map (λ v. readied_version scheme size v) q) none)

  -- a number is wanted whose version is there
  pub wanted_there : (wanted : ℕ → Bool) (m : ℕ) (vs : List (Readied S)) → is_some (prepared_at m vs) ≡ true → AreWanted scheme size pools wanted vs → AreWanted scheme size pools (λ n. wanted n || (m == n)) vs
  wanted_there wanted m vs some had n = either (wanted n) (m == n) n (prepared_at n vs) (λ other. had n)
      (λ same. there (wanted n) n (prepared_at n vs) (had n) (ap (λ (k : ℕ). is_some (prepared_at k vs)) (sym (eqb-true m n same)) ∙ some))

  -- a number is wanted that the catalogue lacks
  pub wanted_lacking : (wanted : ℕ → Bool) (m : ℕ) (vs : List (Readied S)) → version_at m pools.versions ≡ None → AreWanted scheme size pools wanted vs → AreWanted scheme size pools (λ n. wanted n || (m == n)) vs
  wanted_lacking wanted m vs none had n = either (wanted n) (m == n) n (prepared_at n vs) (λ other. had n)
      (λ same. lacking (wanted n) n (prepared_at n vs) (had n) (ap (λ (k : ℕ). version_at k pools.versions) (sym (eqb-true m n same)) ∙ none))

  -- where there is no first, it is the last
  or_last : (o p : Option (Readied S)) → is_some o ≡ false → option_or o p ≡ p
  or_last None p none = refl
  or_last (Some x) p none = absurd (true≢false none)

  or_none : (o : Option (Readied S)) → option_or o None ≡ o
  or_none None = refl
  or_none (Some x) = refl

  -- one that is wanted is put behind the others
  pub wanted_put : (wanted : ℕ → Bool) (m : ℕ) (v : Version) (vs : List (Readied S)) → is_some (prepared_at m vs) ≡ false → version_at m pools.versions ≡ Some v → AreWanted scheme size pools wanted vs → AreWanted scheme size pools (λ n. wanted n || (m == n)) (vs ++ readied_version scheme size v ∷ [])
  wanted_put wanted m v vs none at had n =
      let new : Readied S = readied_version scheme size v in
      let number : v.number ≡ m = numbered m pools.versions v at in
      let split : prepared_at n (vs ++ new ∷ []) ≡ option_or (prepared_at n vs) (cond (v.number == n) (Some new) None) = find-append (λ p. p.number == n) vs (new ∷ []) in
      let here : (v.number == n) ≡ (m == n) = ap (λ (k : ℕ). k == n) number in
      either (wanted n) (m == n) n (prepared_at n (vs ++ new ∷ []))
      (λ other. split ∙ ap (λ (b : Bool). option_or (prepared_at n vs) (cond b (Some new) None)) (here ∙ other) ∙ or_none (prepared_at n vs) ∙ had n)
      (λ same.
      let is : m ≡ n = eqb-true m n same in
      split ∙ ap (λ (b : Bool). option_or (prepared_at n vs) (cond b (Some new) None)) (here ∙ same)
      ∙ or_last (prepared_at n vs) (Some new) (ap (λ (k : ℕ). is_some (prepared_at k vs)) (sym is) ∙ none)
      ∙ sym (ap (λ (q : Option Version). option_map (λ u. readied_version scheme size u) q) (ap (λ (k : ℕ). version_at k pools.versions) (sym is) ∙ at)))

  -- the same are wanted
  pub wanted_same : (wanted other : ℕ → Bool) (vs : List (Readied S)) → ((n : ℕ) → wanted n ≡ other n) → AreWanted scheme size pools wanted vs → AreWanted scheme size pools other vs
  wanted_same wanted other vs same had n = had n ∙ ap (λ (b : Bool). prepared_where scheme size pools b n) (same n)

or_false : (b : Bool) → (b || false) ≡ b
or_false true = refl
or_false false = refl

or_or : (a b c : Bool) → ((a || b) || c) ≡ (a || (b || c))
or_or true b c = refl
or_or false b c = refl

-- what some commands install, and one more
pub installs_more : (wanted : ℕ → Bool) (cs : List Command) (i : ℕ) (c : Command) → i < length cs → (n : ℕ) → ((wanted n || list_any (installs n) (take i cs)) || installs n (get_or cs i c)) ≡ (wanted n || list_any (installs n) (take (i + 1) cs))
installs_more wanted cs i c lt n =
    let one : Command = get_or cs i c in
    or_or (wanted n) (list_any (installs n) (take i cs)) (installs n one)
    ∙ ap (λ (b : Bool). wanted n || b)
    (ap (λ (b : Bool). list_any (installs n) (take i cs) || b) (sym (or_false (installs n one)))
    ∙ sym (list_any-append (installs n) (take i cs) (one ∷ [])) ∙ ap (λ (l : List Command). list_any (installs n) l) (sym (take_more cs i c lt)))

drop_get : {X : Type 0} (xs : List X) (i : ℕ) (x : X) → i < length xs → drop i xs ≡ get_or xs i x ∷ drop (i + 1) xs
drop_get [] i d h = absurd (omega (arith, h))
drop_get (x ∷ xs) zero d h = refl
drop_get (x ∷ xs) (suc i) d h =
    let e : suc i + 1 ≡ suc (i + 1) = omega arith in
    subst (λ (m : ℕ). drop i xs ≡ get_or xs i d ∷ drop m (x ∷ xs)) (sym e) (drop_get xs i d (omega (arith, h)))

drop_none : {X : Type 0} (xs : List X) (i : ℕ) → length xs ≤ i → drop i xs ≡ []
drop_none [] zero h = refl
drop_none [] (suc i) h = refl
drop_none (x ∷ xs) zero h = absurd (omega (arith, h))
drop_none (x ∷ xs) (suc i) h = drop_none xs i (omega (arith, h))

-- a walk for the first of a number: none of those before is
module _ {X S : Type 0} (f : X → Readied S) (n : ℕ) (xs : List X) (i : ℕ) where
  abbrev pub IsBehind : Type 0
  IsBehind = prepared_at n (map f (drop i xs)) ≡ prepared_at n (map f xs)

  step : (x : X) → i < length xs → x ≡ get_or xs i x → prepared_at n (map f (drop i xs)) ≡ cond ((f x).number == n) (Some (f x)) (prepared_at n (map f (drop (i + 1) xs)))
  step x lt is = ap (λ (l : List X). prepared_at n (map f l)) (drop_get xs i x lt ∙ ap (λ (y : X). y ∷ drop (i + 1) xs) (sym is))

  pub first_here : (x : X) → i < length xs → x ≡ get_or xs i x → (f x).number ≡ n → IsBehind → Some (f x) ≡ prepared_at n (map f xs)
  first_here x lt is here so = sym (step x lt is ∙ ap (λ (b : Bool). cond b (Some (f x)) (prepared_at n (map f (drop (i + 1) xs)))) (eq-eqb (f x).number n here)) ∙ so

  pub first_later : (x : X) → i < length xs → x ≡ get_or xs i x → (f x).number ≢ n → IsBehind → prepared_at n (map f (drop (i + 1) xs)) ≡ prepared_at n (map f xs)
  first_later x lt is other so = sym (step x lt is ∙ ap (λ (b : Bool). cond b (Some (f x)) (prepared_at n (map f (drop (i + 1) xs)))) (ne_eqb (f x).number n other)) ∙ so

  pub first_none : length xs ≤ i → IsBehind → None ≡ prepared_at n (map f xs)
  first_none low so = ap (λ (l : List X). prepared_at n (map f l)) (sym (drop_none xs i low)) ∙ so

-- whether there is one doesn't depend on who owns it
pub some_same : {X S : Type 0} (f : X → Readied S) (o : Option (Bor X)) → is_some o ≡ is_some (option_map f (option_copied o))
some_same f None = refl
some_same f (Some x) = refl

-- what the lists of some nodes install, and one more
pub installed_more : {X : Type 0} (items : X → List Command) (vs : List X) (i : ℕ) (v : X) → i < length vs → v ≡ get_or vs i v → (n : ℕ) → (is_installed (map items (take i vs)) n || list_any (installs n) (items v)) ≡ is_installed (map items (take (i + 1) vs)) n
installed_more {X} items vs i v lt is n =
    let test : List Command → Bool = λ cs. list_any (installs n) cs in
    ap (λ (b : Bool). is_installed (map items (take i vs)) n || b) (sym (or_false (test (items v))))
    ∙ sym (list_any-append test (map items (take i vs)) (items v ∷ []))
    ∙ ap (λ (l : List (List Command)). list_any test l) (sym (ap (map items) (take_more vs i v lt ∙ ap (λ (w : X). take i vs ++ w ∷ []) (sym is)) ∙ map-append items (take i vs) (v ∷ [])))

-- nothing more is wanted
pub nothing_more : (wanted : ℕ → Bool) → (n : ℕ) → wanted n ≡ (wanted n || false)
nothing_more wanted n = sym (or_false (wanted n))

-- one command more was taken
pub wanted_taken : {S : Type 0} (scheme : S) (size : ℕ) (pools : Pools) (wanted : ℕ → Bool) (cs : List Command) (i : ℕ) (d : Command) (vs : List (Readied S)) → i < length cs → AreWanted scheme size pools (λ n. (wanted n || list_any (installs n) (take i cs)) || installs n (get_or cs i d)) vs
    → AreWanted scheme size pools (λ n. wanted n || list_any (installs n) (take (i + 1) cs)) vs
wanted_taken scheme size pools wanted cs i d vs lt had = wanted_same scheme size pools (λ n. (wanted n || list_any (installs n) (take i cs)) || installs n (get_or cs i d)) (λ n. wanted n || list_any (installs n) (take (i + 1) cs)) vs (installs_more wanted cs i d lt) had
