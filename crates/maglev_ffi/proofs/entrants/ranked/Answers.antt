use Rattle.std.proofs.Common.{List, ℕ, map, rules, subst, sym, ap, ◌∙◌}
use Rattle.maglev_ffi.proofs.Named.{names_again}
use Rattle.table_entrants.specs.Ranking.{names_of, AreDistinct}
use Rattle.maglev_ffi.proofs.entrants.ranked.Goals as goal

pub returns-in-Ok-clause-distinct : goal.returns-in-Ok-clause-distinct
returns-in-Ok-clause-distinct c =
    let names = ap names_of c.in_ok-entrants.ensures ∙ names_again (map (λ w. w.now) c.args.words.now) c.args.weights.now in
    subst (λ (ns : List (List ℕ)). AreDistinct ns) names c.in-Ok.ensures.distinct

pub returns-in-Err-DoubleName-clause-fault : goal.returns-in-Err-DoubleName-clause-fault
returns-in-Err-DoubleName-clause-fault c = λ once.
    let names = ap names_of c.in_ok-entrants.ensures ∙ names_again (map (λ w. w.now) c.args.words.now) c.args.weights.now in
    c.in-Err-DoubleName.ensures.double (search rules) (subst (λ (ns : List (List ℕ)). AreDistinct ns) (sym names) once)
