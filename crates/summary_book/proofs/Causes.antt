-- No cause depends on the numbers that are left out where no idle limit is set.
use Rattle.std.proofs.Common.{◌≡◌, ℕ, ◌+◌, List, [], ◌∷◌, map, None, refl, sym, ap, ◌∙◌, cond}
use Rattle.std.proofs.lemmas.List.Sums.{sum_by-cons}
use Rattle.run_report.specs.declared.cause.SplitCause.{SplitCause}
use Rattle.run_report.specs.declared.cause.SplitCause.TheVariants as splits
use Rattle.run_report.specs.Causes.{Lookups, cause_of}
use Rattle.connection_changes.specs.declared.causes.Change.{Change}
use Rattle.connection_changes.specs.declared.causes.ChangeCause.{ChangeCause}
use Rattle.connection_changes.specs.declared.sites.Site.{Site}
use Rattle.connection_changes.specs.Changes.{cause_between, cause_in, same_cause, changes_by}
use Rattle.summary_book.specs.Bare.{bare_site, bare_change}

between : (c : SplitCause) (a b : Site) → cause_between c None (bare_site a) (bare_site b) ≡ cause_between c None a b
between splits.Down a b = refl
between splits.Moved a b = refl
between splits.Drained a b = refl

cause_kept : (lookups : Lookups) (c : Change) → cause_in lookups None (bare_change c) ≡ cause_in lookups None c
cause_kept lookups c = between (cause_of lookups c.split) c.first c.later

-- the causes of the changes
pub causes_kept : (lookups : Lookups) (cs : List Change) → map (λ c. cause_in lookups None c) (map bare_change cs) ≡ map (λ c. cause_in lookups None c) cs
causes_kept lookups [] = refl
causes_kept lookups (c ∷ cs) =
    ap (λ (x : ChangeCause). x ∷ map (λ d. cause_in lookups None d) (map bare_change cs)) (cause_kept lookups c)
    ∙ ap (λ (xs : List ChangeCause). cause_in lookups None c ∷ xs) (causes_kept lookups cs)

-- how many there are of each
pub counts_kept : (lookups : Lookups) (cs : List Change) (cause : ChangeCause) → changes_by lookups None (map bare_change cs) cause ≡ changes_by lookups None cs cause
counts_kept lookups [] cause = refl
counts_kept lookups (c ∷ cs) cause =
    sum_by-cons (λ d. cond (same_cause cause (cause_in lookups None d)) 1 0) (bare_change c) (map bare_change cs)
    ∙ ap (λ (x : ChangeCause). cond (same_cause cause x) 1 0 + changes_by lookups None (map bare_change cs) cause) (cause_kept lookups c)
    ∙ ap (λ (n : ℕ). cond (same_cause cause (cause_in lookups None c)) 1 0 + n) (counts_kept lookups cs cause)
    ∙ sym (sum_by-cons (λ d. cond (same_cause cause (cause_in lookups None d)) 1 0) c cs)
