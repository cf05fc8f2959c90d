-- A document of a format means the same in each later one.
use Rattle.std.proofs.Common.{◌≡◌, ℕ, Bool, true, false, List, ◌∷◌, codes, Option, Some, None, Result, Ok, Err, length, ◌-◌, [], option_map, option_and_then, refl, sym, ap, ◌∙◌}
use Rattle.std.specs.Prelude.{if◌then◌else◌, nat_le}
use Rattle.std.specs.Option.{option_or}
use Rattle.toml.specs.Data.{Members}
use Rattle.pool_versions.specs.declared.backend.Member.{Member}
use Rattle.maglev_texts.specs.Parsing.{pieces}
use Rattle.pool_versions.specs.declared.catalogue.PoolFault.{PoolFault}
use Rattle.scenario_keys.specs.Lookups.{has_only}
use Rattle.scenario_keys.specs.Keys.{root_keys, has}
use Rattle.scenario_keys.proofs.KeyNames.{keys_grow}
use Rattle.scenario_keys.specs.declared.key.Owner.TheVariants as owner
use Rattle.scenario_keys.specs.declared.formats.Format.{Format}
use Rattle.scenario_keys.specs.declared.formats.Format.TheVariants.{One, Two, Three}
use Rattle.version_drafts.specs.Plain.{PlainVersion}
use Rattle.version_drafts.specs.Drafts.{PlainVersionDraft}
use Rattle.version_drafts.specs.Reading.{versions_in}
use Rattle.scenario_pools.specs.Writing.{versions_of}
use Rattle.scenario_pools.specs.declared.fault.PoolsFault.{PoolsFault}
use Rattle.scenario_pools.proofs.Alike.{versions_mean_the_same}
use Rattle.scenario.specs.Setup.{choices_of, limits_of}
use Rattle.scenario_places.specs.Adding.{first_refused}
use Rattle.scenario.specs.Steps.{PlainStep, kind_of, step_of}
use Rattle.scenario.specs.Told.{PlainTold, once, steps_said, count_said, newer_in, told_by, told_by_words, allows_told, told_of, after, said_before, steps_of}
use Rattle.scenario.specs.Meaning.{PlainDraft, PlainScenario, nodes_of, steps_in, draft_of, draft_in, rules_of, with_steps, with_pools, with_versions, with_draft, with_format, plan_of_draft, plan_of}
use Rattle.scenario.specs.Alike.{IsLater, AreAlike, FormatsMeanTheSame}
use Rattle.scenario.specs.declared.playing.Played.{Played}
use Rattle.scenario.specs.declared.step.Kind.{Kind}
use Rattle.scenario.specs.declared.told.StepRules.{StepRules}
use Rattle.scenario.specs.declared.setup.Choices.{Choices}
use Rattle.scenario.specs.declared.setup.Limits.{Limits}

when_both : {A : Type 0} (b c : Bool) (o o' : Option A) (a : A) → (b ≡ true → c ≡ true) → (o ≡ Some a → o' ≡ Some a) → (if b then o else None) ≡ Some a → (if c then o' else None) ≡ Some a
when_both false c o o' a more same h = absurd cc
when_both true c o o' a more same h = ap (λ (x : Bool). if x then o' else None) (more refl) ∙ same h

-- a later format has what an earlier one has
has_later : (f g : Format) → IsLater f g → (since : Format) → has f since ≡ true → has g since ≡ true
has_later One One later since h = absurd later
has_later One Two later One h = refl
has_later One Two later Two h = refl
has_later One Two later Three h = h
has_later One Three later One h = refl
has_later One Three later Two h = refl
has_later One Three later Three h = refl
has_later Two One later since h = absurd later
has_later Two Two later since h = absurd later
has_later Two Three later One h = refl
has_later Two Three later Two h = refl
has_later Two Three later Three h = refl
has_later Three One later since h = absurd later
has_later Three Two later since h = absurd later
has_later Three Three later since h = absurd later

-- only format 3 is later than no other
is_old : (f g : Format) → IsLater f g → f ≡ Three → ⊥
is_old One g later e = cc
is_old Two g later e = cc
is_old Three One later e = later
is_old Three Two later e = later
is_old Three Three later e = later

-- the whole
abbrev made_draft : Option Choices → Option Limits → Option (List ℕ) → Option (List PlainVersionDraft) → Option (List (List ℕ)) → Option PlainDraft
made_draft c l n v s =
    option_and_then (λ choices. option_and_then (λ limits. option_and_then (λ nodes. option_and_then (λ versions. option_map (λ steps.
    record { choices = choices; limits = limits; nodes = nodes; versions = versions; steps = steps }) s) v) n) l) c

draft_versions : (c : Option Choices) (l : Option Limits) (n : Option (List ℕ)) (v : Option (List PlainVersionDraft)) (s : Option (List (List ℕ))) (d : PlainDraft) → made_draft c l n v s ≡ Some d → v ≡ Some d.versions
draft_versions None l n v s d h = absurd cc
draft_versions (Some c) None n v s d h = absurd cc
draft_versions (Some c) (Some l) None v s d h = absurd cc
draft_versions (Some c) (Some l) (Some n) None s d h = absurd cc
draft_versions (Some c) (Some l) (Some n) (Some v) None d h = absurd cc
draft_versions (Some c) (Some l) (Some n) (Some v) (Some s) d h = ap (option_map (λ (e : PlainDraft). e.versions)) h

-- the steps
abbrev pub ruled : Format → Played → ℕ → ℕ → StepRules
ruled f played nodes workers = record { format = f; played = played; nodes = nodes; workers = workers }

newer_same : (f g : Format) → IsLater f g → (k : Kind) (words : List (List ℕ)) (t : PlainTold) → newer_in f k words ≡ Some t → newer_in g k words ≡ Some t
newer_same One g later k words t h = absurd cc
newer_same Two g later k words t h = absurd cc
newer_same Three One later k words t h = absurd later
newer_same Three Two later k words t h = absurd later
newer_same Three Three later k words t h = absurd later

either_same : (o p q : Option PlainTold) (t : PlainTold) → (p ≡ Some t → q ≡ Some t) → option_or o p ≡ Some t → option_or o q ≡ Some t
either_same None p q t same h = same h
either_same (Some s) p q t same h = h

kind_same : (f g : Format) → IsLater f g → (played : Played) (nodes workers : ℕ) (words : List (List ℕ)) (o : Option Kind) (t : PlainTold)
    → option_and_then (λ k. told_by (ruled f played nodes workers) k words) o ≡ Some t → option_and_then (λ k. told_by (ruled g played nodes workers) k words) o ≡ Some t
kind_same f g later played nodes workers words None t h = absurd cc
kind_same f g later played nodes workers words (Some k) t h =
    either_same (option_map (λ s. once s) (step_of nodes workers k words)) (newer_in f k words) (newer_in g k words) t (newer_same f g later k words t) h

words_same : (f g : Format) → IsLater f g → (played : Played) (nodes workers : ℕ) (words : List (List ℕ)) (t : PlainTold) → told_by_words (ruled f played nodes workers) words ≡ Some t → told_by_words (ruled g played nodes workers) words ≡ Some t
words_same f g later played nodes workers [] t h = absurd cc
words_same f g later played nodes workers (word ∷ words) t h = kind_same f g later played nodes workers words (kind_of word) t h

kept_same : (F : PlainTold → Option PlainTold) (o p : Option PlainTold) (t : PlainTold) → ((s : PlainTold) → o ≡ Some s → p ≡ Some s) → option_and_then F o ≡ Some t → option_and_then F p ≡ Some t
kept_same F None p t same h = absurd cc
kept_same F (Some s) p t same h = ap (option_and_then F) (same s refl) ∙ h

told_same : (f g : Format) → IsLater f g → (played : Played) (nodes workers room : ℕ) (text : List ℕ) (t : PlainTold) → told_of (ruled f played nodes workers) room text ≡ Some t → told_of (ruled g played nodes workers) room text ≡ Some t
unfolding told_of
told_same f g later played nodes workers room text t h =
    kept_same (λ t. if allows_told played t then (if nat_le (count_said nodes t) room then Some t else None) else None)
    (told_by_words (ruled f played nodes workers) (pieces 32 text)) (told_by_words (ruled g played nodes workers) (pieces 32 text)) t
    (λ s e. words_same f g later played nodes workers (pieces 32 text) s e) h

after_same : (said ss : List PlainStep) (r r' : Result (List PlainStep) ℕ) → ((rest : List PlainStep) → r ≡ Ok rest → r' ≡ Ok rest) → after 1 said r ≡ Ok ss → after 1 said r' ≡ Ok ss
after_same said ss (Ok rest) r' same h = ap (after 1 said) (same rest refl) ∙ h
after_same said ss (Err n) r' same h = absurd cc

said_same : (nodes room : ℕ) (o p : Option PlainTold) (rest rest' : ℕ → Result (List PlainStep) ℕ) (ss : List PlainStep)
    → ((t : PlainTold) → o ≡ Some t → p ≡ Some t) → ((left : ℕ) (l : List PlainStep) → rest left ≡ Ok l → rest' left ≡ Ok l) → said_before nodes room o rest ≡ Ok ss → said_before nodes room p rest' ≡ Ok ss
said_same nodes room None p rest rest' ss same later h = absurd cc
said_same nodes room (Some t) p rest rest' ss same later h =
    ap (λ o. said_before nodes room o rest') (same t refl)
    ∙ after_same (steps_said nodes t) ss (rest (room - count_said nodes t)) (rest' (room - count_said nodes t)) (later (room - count_said nodes t)) h

steps_mean_the_same : (f g : Format) → IsLater f g → (played : Played) (nodes workers room : ℕ) (texts : List (List ℕ)) (ss : List PlainStep)
    → steps_of (ruled f played nodes workers) room texts ≡ Ok ss → steps_of (ruled g played nodes workers) room texts ≡ Ok ss
steps_mean_the_same f g later played nodes workers room [] ss h = h
steps_mean_the_same f g later played nodes workers room (text ∷ texts) ss h =
    said_same nodes room (told_of (ruled f played nodes workers) room text) (told_of (ruled g played nodes workers) room text)
    (λ left. steps_of (ruled f played nodes workers) left texts) (λ left. steps_of (ruled g played nodes workers) left texts) ss
    (λ t e. told_same f g later played nodes workers room text t e) (λ left l e. steps_mean_the_same f g later played nodes workers left texts l e) h

made_same : (d : PlainDraft) (vs : List (PlainVersion Member)) (p : PlainScenario) (r r' : Result (List PlainStep) ℕ) → ((ss : List PlainStep) → r ≡ Ok ss → r' ≡ Ok ss) → with_steps d vs r ≡ Ok p → with_steps d vs r' ≡ Ok p
made_same d vs p (Ok ss) r' same h = ap (with_steps d vs) (same ss refl) ∙ h
made_same d vs p (Err n) r' same h = absurd cc

pools_same : (f g : Format) → IsLater f g → (played : Played) (d : PlainDraft) (vs : List (PlainVersion Member)) (p : PlainScenario) (o : Option PoolFault) → with_pools f played d vs o ≡ Ok p → with_pools g played d vs o ≡ Ok p
pools_same f g later played d vs p None h =
    made_same d vs p (steps_of (rules_of f played d) 100000 d.steps) (steps_of (rules_of g played d) 100000 d.steps) (λ ss e. steps_mean_the_same f g later played (length d.nodes) d.limits.workers 100000 d.steps ss e) h
pools_same f g later played d vs p (Some e) h = absurd cc

module _ (f g : Format) (later : IsLater f g) (ms ns : Members) (a : AreAlike f g ms ns) where
  choices_same : choices_of ns ≡ choices_of ms
  unfolding choices_of
  choices_same = rw (a.others (codes "size") refl, a.others (codes "hash") refl, a.others (codes "scheme") refl, a.others (codes "spread") refl) refl

  limits_same : limits_of ns ≡ limits_of ms
  unfolding limits_of
  limits_same = rw (a.others (codes "workers") refl, a.others (codes "capacity") refl, a.others (codes "ring") refl, a.others (codes "check") refl, a.others (codes "idle") refl) refl

  nodes_same : nodes_of ns ≡ nodes_of ms
  nodes_same = rw (a.others (codes "nodes") refl) refl

  steps_same : steps_in ns ≡ steps_in ms
  steps_same = rw (a.others (codes "steps") refl) refl

  versions_at : versions_in g ns ≡ versions_in g ms
  versions_at = rw (a.others (codes "servers") refl, a.others (codes "versions") refl) refl

  draft_of_same : (d : PlainDraft) (vs : List (PlainVersion Member)) → draft_of f ms ≡ Some d → versions_of d.versions ≡ Ok vs → draft_of g ns ≡ Some d
  unfolding draft_of
  draft_of_same d vs h k =
      let held : versions_in f ms ≡ Some d.versions = draft_versions (choices_of ms) (limits_of ms) (nodes_of ms) (versions_in f ms) (steps_in ms) d h in
      let versions : versions_in g ms ≡ versions_in f ms = versions_mean_the_same f g (is_old f g later) (has_later f g later) ms d.versions vs held k ∙ sym held in
      ap (λ c. made_draft c (limits_of ns) (nodes_of ns) (versions_in g ns) (steps_in ns)) choices_same
      ∙ ap (λ l. made_draft (choices_of ms) l (nodes_of ns) (versions_in g ns) (steps_in ns)) limits_same
      ∙ ap (λ n. made_draft (choices_of ms) (limits_of ms) n (versions_in g ns) (steps_in ns)) nodes_same
      ∙ ap (λ v. made_draft (choices_of ms) (limits_of ms) (nodes_of ms) v (steps_in ns)) (versions_at ∙ versions)
      ∙ ap (made_draft (choices_of ms) (limits_of ms) (nodes_of ms) (versions_in f ms)) steps_same
      ∙ h

  draft_same : (d : PlainDraft) (vs : List (PlainVersion Member)) → draft_in f ms ≡ Some d → versions_of d.versions ≡ Ok vs → draft_in g ns ≡ Some d
  draft_same d vs h k =
      when_both (has_only (root_keys f) ms) (has_only (root_keys g) ns) (draft_of f ms) (draft_of g ns) d
      (λ e. keys_grow owner.Document f g (has_later f g later) ns (a.keys ∙ e)) (λ g. draft_of_same d vs g k) h

  with_same : (played : Played) (p : PlainScenario) (o : Option PlainDraft) → draft_in f ms ≡ o → with_draft f played o ≡ Ok p → with_draft g played (draft_in g ns) ≡ Ok p
  unfolding plan_of_draft
  with_same played p None e h = absurd cc
  with_same played p (Some d) e h = go (versions_of d.versions) refl h
    where
      go : (r : Result (List (PlainVersion Member)) PoolsFault) → versions_of d.versions ≡ r → with_versions f played d r ≡ Ok p → with_draft g played (draft_in g ns) ≡ Ok p
      go (Err fault) e' k = absurd cc
      go (Ok vs) e' k =
          ap (with_draft g played) (draft_same d vs e e') ∙ ap (with_versions g played d) e' ∙ pools_same f g later played d vs p (first_refused d.choices.size [] vs) k

pub formats_mean_the_same : FormatsMeanTheSame
unfolding plan_of
formats_mean_the_same f g played ms ns p later a h =
    ap (λ o. with_format played o ns) a.two ∙ with_same f g later ms ns a played p (draft_in f ms) refl (sym (ap (λ o. with_format played o ms) a.one) ∙ h)
