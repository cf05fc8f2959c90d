-- A draft's fault is its document's.
use Rattle.std.proofs.Common.{◌≡◌, ℕ, List, Option, Some, None, Result, Ok, Err, IfErr, IsErrAnd, ◌∙◌, sym, ap, subst}
use Rattle.version_drafts.specs.Plain.{PlainVersion}
use Rattle.version_drafts.specs.Drafts.{PlainVersionDraft}
use Rattle.scenario_pools.specs.declared.fault.PoolsFault.{PoolsFault}
use Rattle.scenario_pools.specs.declared.fault.PoolsFault.TheVariants as written
use Rattle.scenario.specs.Steps.{PlainStep}
use Rattle.scenario.specs.Meaning.{PlainDraft, PlainScenario, with_steps, with_pools, with_versions, with_draft, with_format, plan_of_draft, plan_of, draft_in, IsDocument, IsRefused, IsDraftRefused, AreVersionsRefused}
use Rattle.scenario_keys.specs.Formats.{format_of}
use Rattle.scenario.specs.declared.playing.Played.{Played}
use Rattle.scenario_keys.specs.declared.formats.Format.{Format}
use Rattle.scenario.specs.declared.fault.ScenarioFault.{ScenarioFault}
use Rattle.scenario.specs.declared.fault.ScenarioFault.TheVariants as fault
use Rattle.scenario.specs.declared.plan.Scenario.{Scenario}
use Rattle.scenario.specs.Places.{IsAt, IsDraftAt, AreVersionsAt, ArePoolsAt}
use Rattle.scenario.specs.declared.refused.Refused.{Refused}
use Rattle.scenario_pools.specs.Writing.{versions_of}
use Rattle.version_drafts.specs.declared.place.Place.{Place}
use Rattle.pool_versions.specs.declared.backend.Member.{Member}
use Rattle.pool_versions.specs.declared.catalogue.PoolFault.{PoolFault}
use Rattle.pool_versions.specs.declared.catalogue.PoolFault.TheVariants as pool
use Rattle.toml.specs.Data.{Members}

-- the faults that a draft can have
abbrev IsLate : ScenarioFault → Type 0
IsLate fault.BadMember = Unit {0}
IsLate (fault.Pool f) = Unit {0}
IsLate (fault.BadStep n) = Unit {0}
IsLate fault.Memory = Unit {0}
IsLate e = ⊥

abbrev IsLateIn : Result PlainScenario ScenarioFault → Type 0
IsLateIn (Ok p) = Unit {0}
IsLateIn (Err e) = IsLate e

late_steps : (d : PlainDraft) (vs : List (PlainVersion Member)) (r : Result (List PlainStep) ℕ) → IsLateIn (with_steps d vs r)
late_steps d vs (Err n) = tt
late_steps d vs (Ok steps) = tt

late_pools : (f : Format) (played : Played) (d : PlainDraft) (vs : List (PlainVersion Member)) (o : Option PoolFault) → IsLateIn (with_pools f played d vs o)
late_pools f played d vs None = late_steps d vs _
late_pools f played d vs (Some e) = tt

late_versions : (f : Format) (played : Played) (d : PlainDraft) (r : Result (List (PlainVersion Member)) PoolsFault) → IsLateIn (with_versions f played d r)
late_versions f played d (Err written.BadMember) = tt
late_versions f played d (Err written.TooMany) = tt
late_versions f played d (Err written.Memory) = tt
late_versions f played d (Ok vs) = late_pools f played d vs _

late_draft : (f : Format) (played : Played) (d : PlainDraft) (e : ScenarioFault) → plan_of_draft f played d ≡ Err e → IsLate e
unfolding plan_of_draft
late_draft f played d e is = let P : Result PlainScenario ScenarioFault → Type 0 = IsLateIn in subst P is (late_versions f played d _)

late_refused : (played : Played) (text : List ℕ) (ms : Members) (e : ScenarioFault) → IsDocument text ms → IsLate e → plan_of played ms ≡ Err e → IsRefused played text e
late_refused played text ms fault.TooLong document late is = absurd late
late_refused played text ms fault.BadToml document late is = absurd late
late_refused played text ms fault.BadFormat document late is = absurd late
late_refused played text ms fault.BadKey document late is = absurd late
late_refused played text ms fault.BadMember document late is = (ms, document, is)
late_refused played text ms (fault.Pool f) document late is = (ms, document, is)
late_refused played text ms (fault.BadStep n) document late is = (ms, document, is)
late_refused played text ms fault.Memory document late is = tt

-- what a document of a format says is what its draft says
pub document_says : (played : Played) (ms : Members) (f : Format) (d : PlainDraft) → format_of ms ≡ Some f → draft_in f ms ≡ Some d → plan_of played ms ≡ plan_of_draft f played d
unfolding plan_of
document_says played ms f d same is = ap (λ p. with_format played p ms) same ∙ ap (with_draft f played) is

pub one_refused : (f : Format) (played : Played) (text : List ℕ) (ms : Members) (d : PlainDraft) (e : ScenarioFault) → IsDocument text ms → plan_of played ms ≡ plan_of_draft f played d → IsDraftRefused f played d e → IsRefused played text e
one_refused f played text ms d fault.Memory document same refused = tt
one_refused f played text ms d fault.TooLong document same refused = late_refused played text ms fault.TooLong document (late_draft f played d fault.TooLong refused) (same ∙ refused)
one_refused f played text ms d fault.BadToml document same refused = late_refused played text ms fault.BadToml document (late_draft f played d fault.BadToml refused) (same ∙ refused)
one_refused f played text ms d fault.BadFormat document same refused = late_refused played text ms fault.BadFormat document (late_draft f played d fault.BadFormat refused) (same ∙ refused)
one_refused f played text ms d fault.BadKey document same refused = late_refused played text ms fault.BadKey document (late_draft f played d fault.BadKey refused) (same ∙ refused)
one_refused f played text ms d fault.BadMember document same refused = late_refused played text ms fault.BadMember document (late_draft f played d fault.BadMember refused) (same ∙ refused)
one_refused f played text ms d (fault.Pool e) document same refused = late_refused played text ms (fault.Pool e) document (late_draft f played d (fault.Pool e) refused) (same ∙ refused)
one_refused f played text ms d (fault.BadStep n) document same refused = late_refused played text ms (fault.BadStep n) document (late_draft f played d (fault.BadStep n) refused) (same ∙ refused)

-- where a draft is refused its text is
pub draft_at : (f : Format) (played : Played) (text : List ℕ) (ms : Members) (d : PlainDraft) (e : ScenarioFault) (o : Option Place) → IsDocument text ms → format_of ms ≡ Some f → draft_in f ms ≡ Some d →
    IsDraftRefused f played d e → IsDraftAt ms d e o → IsAt text e o
draft_at f played text ms d fault.TooLong o document same is refused h = h
draft_at f played text ms d fault.BadToml o document same is refused h = h
draft_at f played text ms d fault.BadFormat o document same is refused h = h
draft_at f played text ms d fault.BadKey o document same is refused h = absurd (late_draft f played d fault.BadKey refused)
draft_at f played text ms d fault.BadMember o document same is refused h = (ms, f, d, document, same, is, h)
draft_at f played text ms d (fault.Pool e) o document same is refused h = (ms, f, d, document, same, is, h)
draft_at f played text ms d (fault.BadStep n) o document same is refused h = h
draft_at f played text ms d fault.Memory o document same is refused h = h

-- a fault that is passed on
pub passed_on : {E : Type 0} (r : Result Scenario E) (e : E) (P : E → Type 0) → IsErrAnd r (λ f. f ≡ e) → P e → IfErr r P
passed_on (Ok s) e P is h = tt
passed_on (Err f) e P is h = subst P (sym is) h

-- the fault of a draft's versions is the draft's
draft_refused : (f : Format) (played : Played) (d : PlainDraft) (e : ScenarioFault) → AreVersionsRefused d.versions e → IsDraftRefused f played d e
unfolding plan_of_draft
draft_refused f played d fault.Memory h = tt
draft_refused f played d fault.BadMember h = ap (with_versions f played d) h
draft_refused f played d (fault.Pool pool.TooMany) h = ap (with_versions f played d) h
draft_refused f played d (fault.Pool pool.BadNumber) h = absurd h
draft_refused f played d (fault.Pool pool.NumberTaken) h = absurd h
draft_refused f played d (fault.Pool pool.DoubleService) h = absurd h
draft_refused f played d (fault.Pool pool.DoubleName) h = absurd h
draft_refused f played d (fault.Pool pool.Memory) h = absurd h
draft_refused f played d fault.TooLong h = absurd h
draft_refused f played d fault.BadToml h = absurd h
draft_refused f played d fault.BadFormat h = absurd h
draft_refused f played d fault.BadKey h = absurd h
draft_refused f played d (fault.BadStep n) h = absurd h

pub versions_refused : (f : Format) (played : Played) (d : PlainDraft) (ds : List PlainVersionDraft) (r : Result Scenario Refused) (e : Refused)
    → ds ≡ d.versions → IsErrAnd r (λ x. x ≡ e) → AreVersionsRefused ds e.fault → IfErr r (λ x. IsDraftRefused f played d x.fault)
versions_refused f played d ds r e same is h =
    let P : List PlainVersionDraft → Type 0 = λ ds. AreVersionsRefused ds e.fault in
    passed_on r e (λ x. IsDraftRefused f played d x.fault) is (draft_refused f played d e.fault (subst P same h))

-- and so is its place
too_large : (size : ℕ) (ds : List PlainVersionDraft) (r : Result (List (PlainVersion Member)) PoolsFault) (o : Option Place) → r ≡ Err written.TooMany → o ≡ None → ArePoolsAt size ds r o
too_large size ds r o is none = let P : Result (List (PlainVersion Member)) PoolsFault → Type 0 = λ x. ArePoolsAt size ds x o in subst P (sym is) none

draft_placed : (ms : Members) (d : PlainDraft) (e : ScenarioFault) (o : Option Place) → AreVersionsRefused d.versions e → AreVersionsAt ms d.versions e o → IsDraftAt ms d e o
draft_placed ms d fault.Memory o refused h = h
draft_placed ms d fault.BadMember o refused h = h
draft_placed ms d (fault.Pool pool.TooMany) o refused h = too_large d.choices.size d.versions (versions_of d.versions) o refused h
draft_placed ms d (fault.Pool pool.BadNumber) o refused h = absurd refused
draft_placed ms d (fault.Pool pool.NumberTaken) o refused h = absurd refused
draft_placed ms d (fault.Pool pool.DoubleService) o refused h = absurd refused
draft_placed ms d (fault.Pool pool.DoubleName) o refused h = absurd refused
draft_placed ms d (fault.Pool pool.Memory) o refused h = absurd refused
draft_placed ms d fault.TooLong o refused h = h
draft_placed ms d fault.BadToml o refused h = h
draft_placed ms d fault.BadFormat o refused h = h
draft_placed ms d fault.BadKey o refused h = h
draft_placed ms d (fault.BadStep n) o refused h = h

pub versions_placed : (ms : Members) (d : PlainDraft) (ds : List PlainVersionDraft) (r : Result Scenario Refused) (e : Refused)
    → ds ≡ d.versions → IsErrAnd r (λ x. x ≡ e) → AreVersionsRefused ds e.fault → AreVersionsAt ms ds e.fault e.place → IfErr r (λ x. IsDraftAt ms d x.fault x.place)
versions_placed ms d ds r e same is h at_place =
    let P : List PlainVersionDraft → Type 0 = λ ds. AreVersionsRefused ds e.fault in
    let Q : List PlainVersionDraft → Type 0 = λ ds. AreVersionsAt ms ds e.fault e.place in
    passed_on r e (λ x. IsDraftAt ms d x.fault x.place) is (draft_placed ms d e.fault e.place (subst P same h) (subst Q same at_place))
