-- A worker's record, by the rules of its run.
use Rattle.std.proofs.Common.{◌≡◌, ℕ, ◌+◌, ◌<◌, ◌≤◌, Bool, true, List, [], ◌∷◌, length, map, take, get_or, suc, zero, Option, Some, None, sym, ap, ◌∙◌, subst, arith}
use Rattle.std.specs.Prelude.{option_and_then, IsSomeAnd, All}
use Rattle.std.proofs.Math.Path.{fun_ext}
use Rattle.std.proofs.lemmas.List.{take_more, length-map, length-take-le}
use Rattle.five_tuple.specs.declared.Flow.{Flow}
use Rattle.selection.specs.Candidates.{Candidates, candidates_under}
use Rattle.forwarder.specs.Serving.{Pick}
use Rattle.cluster_node.specs.Rules.{Rules}
use Rattle.pool_versions.specs.declared.service.Version.{Version}
use Rattle.pool_versions.specs.Pool.{Pools, version_at}
use Rattle.pool_versions.specs.Same.{AreSame}
use Rattle.selection.proofs.Sources.{ups_same}
use Rattle.cluster_core.specs.Setups.{Fixed, rules_for}
use Rattle.handled_list.specs.declared.handled.Handled.{Handled}
use Rattle.thread_records.specs.Sources.{MadeOf, IsFrom}
use Rattle.thread_records.specs.Workers.{Limits, limits_in}
use Rattle.thread_records.specs.Works.{handling_of, onto, newest_first, Fits, Follow, Agrees, always, WorkView, Worked, IsOf}
use Rattle.thread_records.proofs.Works.{onto_push}

-- the packet at a place follows those before it
follow_at : (pick : Pick) (limits : Limits) (has : ℕ → Bool) (here : ℕ → Flow → Option Candidates) (earlier hs : List Handled) (i : ℕ) (d : Handled) → Follow pick limits has here earlier hs → i < length hs → Fits pick limits has here (onto earlier (take i hs)) (get_or hs i d)
follow_at pick limits has here earlier [] i d f h = absurd (omega arith)
follow_at pick limits has here earlier (g ∷ hs) zero d f h = f.0
follow_at pick limits has here earlier (g ∷ hs) (suc i) d f h = follow_at pick limits has here (g ∷ earlier) hs i d f.1 (omega arith)

-- by other versions that are known
fits_known : (pick : Pick) (limits : Limits) (has had : ℕ → Bool) (here : ℕ → Flow → Option Candidates) (earlier : List Handled) (h : Handled) → had h.version ≡ true → Fits pick limits has here earlier h → Fits pick limits had here earlier h
fits_known pick limits has had here earlier h k f = record { known = k; floor = f.floor; ascends = f.ascends; answer = f.answer }

-- each packet that a worker handled, by the rules
pub worked_fits : {S : Type 0} (pick_of : S → ℕ → Pick) (rules : Rules) (w : WorkView S) (had : ℕ → Bool) (i : ℕ) (d : Handled) → Worked pick_of w → IsOf pick_of rules w → i < length w.handled → had (get_or w.handled i d).version ≡ true
    → Fits rules.pick (limits_in rules) had rules.ups (newest_first (take i w.handled)) (get_or w.handled i d)
worked_fits {S} pick_of rules w had i d k is h known =
    let a : Follow rules.pick (limits_in rules) always rules.ups [] w.handled = subst (λ (n : Limits). Follow rules.pick n always rules.ups [] w.handled) is.limits (k.follow rules.pick rules.ups is.agrees) in
    fits_known rules.pick (limits_in rules) always had rules.ups (newest_first (take i w.handled)) (get_or w.handled i d) known (follow_at rules.pick (limits_in rules) always rules.ups [] w.handled i d a h)

pub newest_more : (hs : List Handled) (i : ℕ) (d : Handled) → i < length hs → newest_first (take (i + 1) hs) ≡ get_or hs i d ∷ newest_first (take i hs)
newest_more hs i d h = ap newest_first (take_more hs i d h) ∙ onto_push [] (take i hs) (get_or hs i d)

length_onto : (earlier hs : List Handled) → length (onto earlier hs) ≡ length earlier + length hs
length_onto earlier [] = let e : length earlier ≡ length earlier + 0 = omega arith in e
length_onto earlier (h ∷ hs) = let e : length (onto (h ∷ earlier) hs) ≡ suc (length earlier) + length hs = length_onto (h ∷ earlier) hs in omega arith

pub newest_length : (hs : List Handled) (i : ℕ) → i ≤ length hs → length (newest_first (take i hs)) ≡ i
newest_length hs i h =
    let e : length (newest_first (take i hs)) ≡ 0 + length (take i hs) = length_onto [] (take i hs) in
    let f : length (take i hs) ≡ i = length-take-le i hs h in
    omega arith

pub newest_count : (hs : List Handled) (i : ℕ) → i ≤ length hs → length (map handling_of (newest_first (take i hs))) ≡ i
newest_count hs i h = length-map (newest_first (take i hs)) handling_of ∙ newest_length hs i h

-- a version that the catalogue has, prepared by an equal scheme and for the same size, has the pick and the candidates of the
-- cluster's rules
pub from_agrees : {S H : Type 0} (eq : S → S → Bool) (pick_of : S → ℕ → Pick) (plain_of : H → List ℕ → ℕ) (setup : Fixed S H) (pools : Pools) (m : MadeOf S)
    → ((a b : S) → eq a b ≡ true → (size : ℕ) (ups : Candidates) (x : Flow) (turn : ℕ) → pick_of a size ups x turn ≡ pick_of b size ups x turn)
    → IsFrom eq setup pools m → let rules = rules_for pick_of plain_of setup pools in (pick_of m.scheme m.size ≡ rules.pick) × ((x : Flow) → rules.ups m.version.number x ≡ candidates_under m.version x)
from_agrees {S} {H} eq pick_of plain_of setup pools m respects f = (
  fun_ext (λ ups. fun_ext (λ x. fun_ext (λ turn. respects m.scheme setup.scheme f.scheme m.size ups x turn))) ∙ ap (λ (n : ℕ). pick_of setup.scheme n) f.size,
  λ x. known x (version_at m.version.number pools.versions) f.version,
)
  where
    known : (x : Flow) (o : Option Version) → IsSomeAnd o (λ v. AreSame m.version v) → option_and_then (λ v. candidates_under v x) o ≡ candidates_under m.version x
    known x None f = absurd f
    known x (Some v) f = sym (ups_same setup.scheme m.version v x f)

-- all of them do
pub all_agree : {S H : Type 0} (eq : S → S → Bool) (pick_of : S → ℕ → Pick) (plain_of : H → List ℕ → ℕ) (setup : Fixed S H) (pools : Pools) (ms : List (MadeOf S))
    → ((a b : S) → eq a b ≡ true → (size : ℕ) (ups : Candidates) (x : Flow) (turn : ℕ) → pick_of a size ups x turn ≡ pick_of b size ups x turn)
    → All (IsFrom eq setup pools) ms → let rules = rules_for pick_of plain_of setup pools in Agrees pick_of rules.pick rules.ups ms
all_agree {S} {H} eq pick_of plain_of setup pools ms respects all k d lt = from_agrees eq pick_of plain_of setup pools (get_or ms k d) respects (all k d lt)
