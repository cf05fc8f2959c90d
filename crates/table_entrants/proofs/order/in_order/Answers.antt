use Rattle.std.proofs.Common.{rules, ◌≡◌, ◌<◌, ◌≢◌, List, ℕ, suc, get_or, [], Less, subst, true, false, length}
use Rattle.std.specs.Cmp.Lexicographic.{slice_cmp}
use Rattle.std.specs.Ordering.{nat_cmp}
use Rattle.std.specs.List.Sorted.{IsSortedBy}
use Rattle.table_entrants.specs.declared.entrant.Entrant.{Entrant}
use Rattle.table_entrants.specs.Ranking.{names_of}
use Rattle.table_entrants.proofs.Ranked.{by_name, by_name_is_order, compares_by_name, double_names, distinct_names}
use Rattle.table_entrants.proofs.order.in_order.Goals as goal

pub returns-then-not-ascends-clause-double : goal.returns-then-not-ascends-clause-double
returns-then-not-ascends-clause-double c = λ is.
    let answer : c.ascends.result ≡ false = search rules in
    let n = c.ascends.ensures.not answer in
    let sorted : IsSortedBy by_name c.sort_by.new.self.items = c.in_ok-sort_by.ensures.sorted by_name by_name_is_order (compares_by_name (λ a r q k. search rules)) in
    let items = c.as_slice.ensures.value in
    let low : suc n.0 < length c.sort_by.new.self.items = subst (λ (xs : List Entrant). suc n.0 < length xs) items n.1 in
    let apart : slice_cmp nat_cmp (get_or (names_of c.sort_by.new.self.items) n.0 []) (get_or (names_of c.sort_by.new.self.items) (suc n.0) []) ≢ Less =
    subst (λ (xs : List Entrant). slice_cmp nat_cmp (get_or (names_of xs) n.0 []) (get_or (names_of xs) (suc n.0) []) ≢ Less) items n.2 in
    double_names c.args.given.items c.sort_by.new.self.items n.0 c.sort_by.ensures.permutation sorted low apart

pub returns-clause-ranked : goal.returns-clause-ranked
returns-clause-ranked c =
    let answer : c.ascends.result ≡ true = c.if-not-ascends.false in
    record {
      permutation = c.sort_by.ensures.permutation;
      ascending = subst (λ (xs : List Entrant). (i : ℕ) → suc i < length xs → slice_cmp nat_cmp (get_or (names_of xs) i []) (get_or (names_of xs) (suc i) []) ≡ Less) c.as_slice.ensures.value (c.ascends.ensures.ascending answer);
    }

pub returns-clause-distinct : goal.returns-clause-distinct
returns-clause-distinct c = distinct_names _ _ (returns-clause-ranked c)
