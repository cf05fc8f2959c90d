use Rattle.std.proofs.Common.{◌+◌, ◌<◌, ℕ, List, drop, sym, subst, ◌∙◌, arith}
use Rattle.std.proofs.lemmas.List.{drop_more}
use Rattle.five_tuple.specs.declared.Flow.{Flow}
use Rattle.steering.specs.Steering.{home_of}
use Rattle.thread_records.specs.declared.command.Command.{Command}
use Rattle.cluster_node.proofs.Below.{home_below}
use Rattle.node_life.specs.PrivateHomes.{HaveHomes}
use Rattle.node_life.proofs.Homed.{any_homes, drop_end, ended}
use Rattle.node_life.proofs.homes.Homes.of_life.Goals as goal

pub returns-then-offers_many : goal.returns-then-offers_many
returns-then-offers_many g c = let a = c.args.assignment in
    any_homes (λ x. home_of (g.H.FlowHash.plain a.setup.now.hash) a.setup.now.workers x) a.packets.now c.all.result.marks (λ x. c.all.ensures _) (drop c.args.from a.commands.now)

pub returns-then-ends_life : goal.returns-then-ends_life
returns-then-ends_life g c =
    let a = c.args.assignment in
    let home : Flow → ℕ = λ x. home_of (g.H.FlowHash.plain a.setup.now.hash) a.setup.now.workers x in
    let marks = c.loop-at.homes.marks in
    c.loop-at.invariant marks (λ w h. h) (subst (λ (l : List Command). HaveHomes home a.packets.now marks l)
    (sym (drop_more a.commands.now c.loop-at.at _ (omega (arith, c.loop-at-test.true))))
    (ended home a.packets.now marks _ (drop (c.loop-at.at + 1) a.commands.now) (sym c.ends_life.ensures ∙ c.if-ends_life.true)))

pub returns-then-have_all : goal.returns-then-have_all
returns-then-have_all g c =
    let a = c.args.assignment in
    let home : Flow → ℕ = λ x. home_of (g.H.FlowHash.plain a.setup.now.hash) a.setup.now.workers x in
    let marks = c.note.new.self.marks in
    let some : 0 < a.setup.now.workers = omega (arith, c.workers.ensures.workers, c.workers.ensures.some) in
    let rest : List Command = drop (c.loop-at.at + 1) a.commands.now in
    c.loop-at.invariant marks c.note.ensures.others (subst (λ (l : List Command). HaveHomes home a.packets.now marks l)
    (sym (drop_more a.commands.now c.loop-at.at _ (omega (arith, c.loop-at-test.true))))
    (c.note.ensures.step marks rest (λ w h. h) (any_homes home a.packets.now marks (λ x. c.have_all.ensures c.if-have_all.true (home x)
    (subst (λ (n : ℕ). home x < n) (sym c.workers.ensures.workers) (home_below (g.H.FlowHash.plain a.setup.now.hash) a.setup.now.workers x some))) rest)))

pub loop-at-preserved : goal.loop-at-preserved
loop-at-preserved g c =
    let a = c.args.assignment in
    let home : Flow → ℕ = λ x. home_of (g.H.FlowHash.plain a.setup.now.hash) a.setup.now.workers x in
    λ marks more h. c.loop-at.invariant marks (λ w here. more w (c.note.ensures.others w here)) (subst (λ (l : List Command). HaveHomes home a.packets.now marks l)
    (sym (drop_more a.commands.now c.loop-at.at _ (omega (arith, c.loop-at-test.true))))
    (c.note.ensures.step marks (drop (c.loop-at.at + 1) a.commands.now) more h))

pub returns : goal.returns
returns g c =
    let a = c.args.assignment in
    let home : Flow → ℕ = λ x. home_of (g.H.FlowHash.plain a.setup.now.hash) a.setup.now.workers x in
    let marks = c.loop-at.homes.marks in
    c.loop-at.invariant marks (λ w h. h) (subst (λ (l : List Command). HaveHomes home a.packets.now marks l)
    (sym (drop_end a.commands.now c.loop-at.at (omega (arith, c.loop-at-test.false)))) tt)
