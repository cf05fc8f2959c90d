-- A scenario's steps are those that it may have.
use Rattle.std.proofs.Common.{◌≡◌, ℕ, ◌-◌, true, List, [], ◌∷◌, ◌++◌, map, Option, Some, None, Result, Ok, Err, IfOk, refl, subst, ◌∙◌}
use Rattle.std.specs.List.{list_all, range_with_len}
use Rattle.std.proofs.lemmas.Bool.{and_from, and_parts}
use Rattle.toml.specs.Data.{Members}
use Rattle.pool_versions.specs.declared.backend.Member.{Member}
use Rattle.pool_versions.specs.declared.catalogue.PoolFault.{PoolFault}
use Rattle.version_drafts.specs.Plain.{PlainVersion}
use Rattle.scenario_pools.specs.declared.fault.PoolsFault.{PoolsFault}
use Rattle.scenario.specs.Steps.{PlainStep, plain_timed, allows}
use Rattle.scenario.specs.Told.{PlainTold, once, each, at_node, steps_said, count_said, allows_told, told_of, after, said_before, steps_of}
use Rattle.scenario.specs.Meaning.{PlainDraft, PlainScenario, rules_of, with_steps, with_pools, with_versions, with_draft, with_format, plan_of_draft, plan_of, plan_view, IsSupported, Means}
use Rattle.scenario_keys.specs.Formats.{format_of}
use Rattle.scenario.specs.declared.playing.Played.{Played}
use Rattle.scenario.specs.declared.playing.Played.TheVariants.{InTurn, OnThreads, NotAtAll}
use Rattle.scenario_keys.specs.declared.formats.Format.{Format}
use Rattle.scenario.specs.declared.told.EachNode.{EachNode}
use Rattle.scenario.specs.declared.told.EachNode.TheVariants as node
use Rattle.scenario.specs.declared.told.StepRules.{StepRules}
use Rattle.scenario.specs.declared.fault.ScenarioFault.{ScenarioFault}
use Rattle.scenario.specs.declared.plan.Scenario.{Scenario}
use Rattle.scenario.proofs.Telling.{told_fits}

-- what each node does is allowed of all of them where it is of the first
each_allowed : (played : Played) (e : EachNode) (n : ℕ) → allows played (at_node e n) ≡ allows played (at_node e 0)
each_allowed InTurn (node.Install v) n = refl
each_allowed InTurn node.Restart n = refl
each_allowed InTurn node.Stop n = refl
each_allowed OnThreads (node.Install v) n = refl
each_allowed OnThreads node.Restart n = refl
each_allowed OnThreads node.Stop n = refl
each_allowed NotAtAll (node.Install v) n = refl
each_allowed NotAtAll node.Restart n = refl
each_allowed NotAtAll node.Stop n = refl

all_nodes : (played : Played) (e : EachNode) (ns : List ℕ) → allows played (at_node e 0) ≡ true → list_all (λ s. allows played s) (map (at_node e) ns) ≡ true
all_nodes played e [] h = refl
all_nodes played e (n ∷ ns) h = and_from (allows played (at_node e n)) (list_all (λ s. allows played s) (map (at_node e) ns)) (each_allowed played e n ∙ h) (all_nodes played e ns h)

said_allowed : (played : Played) (nodes : ℕ) (t : PlainTold) → allows_told played t ≡ true → list_all (λ s. allows played s) (steps_said nodes t) ≡ true
said_allowed played nodes (once s) h = and_from (allows played s) true h refl
said_allowed played nodes (each e) h = all_nodes played e (range_with_len 0 nodes) h

both_allowed : (played : Played) (xs ys : List PlainStep) → list_all (λ s. allows played s) xs ≡ true → list_all (λ s. allows played s) ys ≡ true → list_all (λ s. allows played s) (xs ++ ys) ≡ true
both_allowed played [] ys h k = k
both_allowed played (x ∷ xs) ys h k =
    let p = and_parts (allows played x) (list_all (λ s. allows played s) xs) h in
    and_from (allows played x) (list_all (λ s. allows played s) (xs ++ ys)) p.0 (both_allowed played xs ys p.1 k)

-- the steps of some texts, where they say steps
abbrev Allowed : Played → Result (List PlainStep) ℕ → Type 0
Allowed played (Ok steps) = list_all (λ s. allows played s) steps ≡ true
Allowed played (Err n) = Unit {0}

after_allowed : (played : Played) (n : ℕ) (done : List PlainStep) (r : Result (List PlainStep) ℕ) → list_all (λ s. allows played s) done ≡ true → Allowed played r → Allowed played (after n done r)
after_allowed played n done (Ok steps) h k = both_allowed played done steps h k
after_allowed played n done (Err e) h k = tt

first_allowed : (rules : StepRules) (room : ℕ) (text : List ℕ) (o : Option PlainTold) (rest : ℕ → Result (List PlainStep) ℕ)
    → told_of rules room text ≡ o → ((left : ℕ) → Allowed rules.played (rest left)) → Allowed rules.played (said_before rules.nodes room o rest)
first_allowed rules room text None rest e h = tt
first_allowed rules room text (Some t) rest e h =
    after_allowed rules.played 1 (steps_said rules.nodes t) (rest (room - count_said rules.nodes t)) (said_allowed rules.played rules.nodes t (told_fits rules room text t e).allowed) (h (room - count_said rules.nodes t))

all_allowed : (rules : StepRules) (room : ℕ) (texts : List (List ℕ)) → Allowed rules.played (steps_of rules room texts)
all_allowed rules room [] = refl
all_allowed rules room (text ∷ texts) = first_allowed rules room text (told_of rules room text) (λ left. steps_of rules left texts) refl (λ left. all_allowed rules left texts)

abbrev AreAllowed : Played → Result PlainScenario ScenarioFault → Type 0
AreAllowed played (Ok p) = list_all (λ s. allows played s) p.steps ≡ true
AreAllowed played (Err e) = Unit {0}

of_steps : (played : Played) (d : PlainDraft) (vs : List (PlainVersion Member)) (r : Result (List PlainStep) ℕ) → Allowed played r → AreAllowed played (with_steps d vs r)
of_steps played d vs (Err n) h = tt
of_steps played d vs (Ok steps) h = h

of_pools : (f : Format) (played : Played) (d : PlainDraft) (vs : List (PlainVersion Member)) (o : Option PoolFault) → AreAllowed played (with_pools f played d vs o)
of_pools f played d vs None = of_steps played d vs (steps_of (rules_of f played d) 100000 d.steps) (all_allowed (rules_of f played d) 100000 d.steps)
of_pools f played d vs (Some e) = tt

of_versions : (f : Format) (played : Played) (d : PlainDraft) (r : Result (List (PlainVersion Member)) PoolsFault) → AreAllowed played (with_versions f played d r)
of_versions f played d (Err e) = tt
of_versions f played d (Ok vs) = of_pools f played d vs _

of_draft : (f : Format) (played : Played) (o : Option PlainDraft) → AreAllowed played (with_draft f played o)
unfolding plan_of_draft
of_draft f played None = tt
of_draft f played (Some d) = of_versions f played d _

-- a draft's scenario is supported
pub draft_supported : (f : Format) (played : Played) (d : PlainDraft) (r : Result Scenario ScenarioFault) → IfOk r (λ s. plan_of_draft f played d ≡ Ok (plan_view s)) → IfOk r (IsSupported played)
draft_supported f played d (Err e) h = tt
draft_supported f played d (Ok s) h = let P : Result PlainScenario ScenarioFault → Type 0 = AreAllowed played in subst P h (of_draft f played (Some d))

of_format : (played : Played) (o : Option Format) (ms : Members) → AreAllowed played (with_format played o ms)
of_format played None ms = tt
of_format played (Some f) ms = of_draft f played _

-- of each scenario that a text means
pub steps_allowed : (played : Played) (text : List ℕ) (s : Scenario) → Means played text s → list_all (λ p. allows played p) (map plain_timed s.steps.items) ≡ true
unfolding plan_of
steps_allowed played text s m = let P : Result PlainScenario ScenarioFault → Type 0 = AreAllowed played in subst P m.plan (of_format played (format_of m.members) m.members)
