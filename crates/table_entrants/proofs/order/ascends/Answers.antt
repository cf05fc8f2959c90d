use Rattle.std.proofs.Common.{◌≡◌, ◌<◌, ◌-◌, ◌≢◌, ◌∙◌, List, ℕ, suc, get_or, [], Ordering, Less, sym, ap, subst, length, arith}
use Rattle.std.specs.Cmp.Lexicographic.{slice_cmp}
use Rattle.std.specs.Ordering.{nat_cmp}
use Rattle.table_entrants.specs.Ranking.{names_of}
use Rattle.table_entrants.proofs.Ranked.{read_name, not_less, is_less, ascending_more}
use Rattle.table_entrants.proofs.order.ascends.Goals as goal

pub returns-then-ne-clause-not : goal.returns-then-ne-clause-not
returns-then-ne-clause-not c e =
    let low : c.loop-place.place < length c.args.entrants.now = omega arith in
    let one = c.loop-place.auto.place in
    let before : c.loop-place.place - 1 < length c.args.entrants.now = omega arith in
    let place : suc (c.loop-place.place - 1) ≡ c.loop-place.place = omega arith in
    let a = read_name c.args.entrants.now (c.loop-place.place - 1) c.index-entrants-place.result before in
    let b = read_name c.args.entrants.now c.loop-place.place c.index-entrants-place-in-loop-place.result low ∙ ap (λ (k : ℕ). get_or (names_of c.args.entrants.now) k []) (sym place) in
    let o : c.cmp.result ≢ Less = not_less c.cmp.result (sym c.if-ne.ensures) in
    let same : c.cmp.result ≡ slice_cmp nat_cmp (get_or (names_of c.args.entrants.now) (c.loop-place.place - 1) []) (get_or (names_of c.args.entrants.now) (suc (c.loop-place.place - 1)) []) =
    c.cmp.ensures ∙ ap (λ (x : List ℕ). slice_cmp nat_cmp x (get_or c.args.entrants.now c.loop-place.place c.index-entrants-place-in-loop-place.result).name) a
    ∙ ap (slice_cmp nat_cmp (get_or (names_of c.args.entrants.now) (c.loop-place.place - 1) [])) b in
    (c.loop-place.place - 1, (let q : suc (c.loop-place.place - 1) < length c.args.entrants.now = omega arith in q), subst (λ (x : Ordering). x ≢ Less) same o)

pub loop-place-preserved : goal.loop-place-preserved
loop-place-preserved c =
    let low : c.loop-place.place < length c.args.entrants.now = omega arith in
    let one = c.loop-place.auto.place in
    let before : c.loop-place.place - 1 < length c.args.entrants.now = omega arith in
    let a = read_name c.args.entrants.now (c.loop-place.place - 1) c.index-entrants-place.result before in
    let b = read_name c.args.entrants.now c.loop-place.place c.index-entrants-place-in-loop-place.result low in
    ascending_more (names_of c.args.entrants.now) c.loop-place.place
    (get_or c.args.entrants.now (c.loop-place.place - 1) c.index-entrants-place.result).name (get_or c.args.entrants.now c.loop-place.place c.index-entrants-place-in-loop-place.result).name one a b
    (sym c.cmp.ensures ∙ is_less c.cmp.result c.if-ne.ensures) c.loop-place.invariant
