use Rattle.std.proofs.Common.{rules, not}
use Rattle.std.proofs.lemmas.List.Sorted.{answers_always}
use Rattle.pool_versions.proofs.AfterSort.{double_from_sort}
use Rattle.pool_versions.proofs.doubles.has_double_key.Goals as goal

pub returns : goal.returns
returns g c =
    let answer = c.is_sorted_by.ensures.cases (λ x y. not (g.K.PartialEq.eq x y)) (answers_always _ _ _ (λ f a r f' k. search rules)) in
    double_from_sort g.K.PartialEq.eq g.K.Ord.cmp g.met.K.Eq.laws g.met.K.Ord.total g.met.K.Ord.matches_eq _ c.sort_unstable.new.self.items
    c.sort_unstable.ensures.permutation c.sort_unstable.ensures.sorted c.is_sorted_by.result
    (rw (← c.deref.ensures.value) answer)
