use Rattle.std.proofs.Common.{rules, ◌≡◌, List, ℕ, map, true, subst, sym, ap, ◌∙◌}
use Rattle.std.specs.List.{list_all}
use Rattle.table_commands.proofs.Entrants.{names_again}
use Rattle.table_commands.specs.Refusals.{is_word}
use Rattle.table_entrants.specs.Ranking.{names_of, AreDistinct}
use Rattle.table_commands.proofs.names.names_in_order.Goals as goal

pub returns-in-Ok-clause-names : goal.returns-in-Ok-clause-names
returns-in-Ok-clause-names c =
    let all : list_all is_word (map (λ w. w.now) c.args.words.now) ≡ true = search rules in
    let names = ap names_of c.in_ok-given.ensures ∙ names_again (map (λ w. w.now) c.args.words.now) in
    record { named = all; once = subst (λ (ns : List (List ℕ)). AreDistinct ns) names c.in-Ok.ensures.distinct }

pub returns-in-Err-DoubleName-clause-fault : goal.returns-in-Err-DoubleName-clause-fault
returns-in-Err-DoubleName-clause-fault c =
    let all : list_all is_word (map (λ w. w.now) c.args.words.now) ≡ true = search rules in
    let names = ap names_of c.in_ok-given.ensures ∙ names_again (map (λ w. w.now) c.args.words.now) in
    (all, λ once. c.in-Err-DoubleName.ensures.double (search rules) (subst (λ (ns : List (List ℕ)). AreDistinct ns) (sym names) once))
