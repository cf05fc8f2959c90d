use Rattle.std.proofs.Common.{◌≡◌, ◌<◌, ◌≤◌, ◌%◌, ◌^◌, ◌+◌, ◌-◌, ◌++◌, ◌∷◌, [], ℕ, List, length, take, refl, sym, ap, ◌∙◌, subst, length-append, arith, rules}
use Rattle.std.proofs.lemmas.List.{map_push, append-nil, append_assoc, take_all, length-map}
use Rattle.std.proofs.lemmas.List.Elements.{All-nil, All-push, All-get_or}
use Rattle.std.specs.Prelude.{All}
use Rattle.cluster_node.specs.declared.serving.Item.{Item}
use Rattle.handled_list.specs.declared.handled.Handled.{Handled}
use Rattle.thread_records.specs.Works.{WorkView, IsOf}
use Rattle.thread_records.specs.Journals.{AllFit, placed_on}
use Rattle.thread_records.specs.Ends.{all_handled, with_all_serves, left_over}
use Rattle.thread_records.proofs.Rules.{worked_fits}
use Rattle.thread_records.proofs.Ends.{all_serves_step, placed_kept, left_step, all_middle, is_none}
use Rattle.thread_records.proofs.journal.Journal.write_all_serves.Goals as goal

pub loop-worker-init : goal.loop-worker-init
loop-worker-init g c = ([], search rules, refl, refl, refl, λ rs all. All-nil (λ (hs : List Handled). AllFit rs hs))

pub left_of-requires : goal.left_of-requires
left_of-requires g c =
    let was = c.loop-worker.invariant in
    let front : c.in-Some.worker ∷ c.next.new.self.rest.items ≡ c.loop-worker.worker-iterator.rest.items = search rules in
    let more : length c.loop-worker.worker-iterator.rest.items ≡ length c.next.new.self.rest.items + 1 = omega (arith, ap length front) in
    let all : length was.0 + length c.loop-worker.worker-iterator.rest.items ≡ length c.args.workers.items = sym (length-append was.0 c.loop-worker.worker-iterator.rest.items) ∙ ap length was.1 in
    let kept : length c.loop-worker.self.placed ≡ length c.args.self.now.placed = ap length (placed_kept (all_handled was.0) c.args.self.now c.loop-worker.self was.3) in
    omega (arith, more, all, kept, was.2, c.requires.all)

pub loop-worker-preserved : goal.loop-worker-preserved
loop-worker-preserved g c =
    let was = c.loop-worker.invariant in
    let one : WorkView g.row.S.Denot = c.in-Some.worker in
    let hs : List Handled = c.into_handled-handled.result.items in
    let done : List (WorkView g.row.S.Denot) = was.0 in
    let front : one ∷ c.next.new.self.rest.items ≡ c.loop-worker.worker-iterator.rest.items = search rules in
    let whole : done ++ one ∷ c.next.new.self.rest.items ≡ c.args.workers.items = ap (λ (l : List (WorkView g.row.S.Denot)). done ++ l) front ∙ was.1 in
    let more : length c.loop-worker.worker-iterator.rest.items ≡ length c.next.new.self.rest.items + 1 = omega (arith, ap length front) in
    let all : length done + length c.loop-worker.worker-iterator.rest.items ≡ length c.args.workers.items = sym (length-append done c.loop-worker.worker-iterator.rest.items) ∙ ap length was.1 in
    let same : c.loop-worker.self.placed ≡ c.args.self.now.placed = placed_kept (all_handled done) c.args.self.now c.loop-worker.self was.3 in
    let handled : all_handled (done ++ one ∷ []) ≡ all_handled done ++ hs ∷ [] = map_push (λ (w : WorkView g.row.S.Denot). w.handled) done one ∙ ap (λ (l : List Handled). all_handled done ++ l ∷ []) (sym c.into_handled-handled.ensures.handled) in
    let long : length (done ++ one ∷ []) ≡ length done + 1 = length-append done (one ∷ []) in
    let count : length (all_handled done) ≡ length done = length-map done (λ w. w.handled) in
    let here : c.loop-worker.number ≡ length (all_handled done) = omega (arith, was.2, count) in
    let next : length (done ++ one ∷ []) ≡ c.loop-worker.number + 1 = omega (arith, long, was.2) in
    let within : c.loop-worker.number < length c.args.self.now.placed = omega (arith, more, all, was.2, c.requires.all) in
    let few : length done < 16 = omega (arith, more, all, c.requires.few) in
    let left_is : c.loop-worker.left ≡ left_over (take c.loop-worker.number c.args.self.now.placed) (all_handled done) % 2 ^ 64 = was.4 ∙ ap (λ (n : ℕ). left_over (take n c.args.self.now.placed) (all_handled done) % 2 ^ 64) (sym was.2) in
    let lens : c.len.result ≡ length hs = c.len.ensures in
    let waiting = c.left_of.ensures ∙ ap (λ (l : List (List Item)). length (placed_on l c.loop-worker.number) - c.len.result) same ∙ ap (λ (n : ℕ). length (placed_on c.args.self.now.placed c.loop-worker.number) - n) lens in (
      done ++ one ∷ [],
      append_assoc done (one ∷ []) c.next.new.self.rest.items ∙ whole,
      omega (arith, long, was.2, few),
      all_serves_step (all_handled done) hs c.loop-worker.number c.args.self.now c.loop-worker.self c.write_serves.new.self here was.3 c.in_ok-write_serves.ensures ∙ ap (λ (l : List (List Handled)). with_all_serves 0 l c.args.self.now) (sym handled),
      left_step c.args.self.now.placed (all_handled done) hs c.loop-worker.number c.loop-worker.left c.left_of.result here within left_is waiting
          ∙ ap (λ (l : List (List Handled)). left_over (take (c.loop-worker.number + 1) c.args.self.now.placed) l % 2 ^ 64) (sym handled)
          ∙ ap (λ (n : ℕ). left_over (take n c.args.self.now.placed) (all_handled (done ++ one ∷ [])) % 2 ^ 64) (sym next),
      λ rs ofs.
          let is_of : IsOf (λ s z. g.S.Scheme.pick s z) rs one = all_middle (λ (w : WorkView g.row.S.Denot). IsOf (λ s z. g.S.Scheme.pick s z) rs w) done c.next.new.self.rest.items c.args.workers.items one whole ofs in
          subst (λ (l : List (List Handled)). All (λ hs. AllFit rs hs) l) (sym handled)
          (All-push (λ (hs : List Handled). AllFit rs hs) (all_handled done) hs (was.5 rs ofs)
          (subst (λ (l : List Handled). AllFit rs l) (sym c.into_handled-handled.ensures.handled)
          (λ had i d lt e. worked_fits (λ s z. g.S.Scheme.pick s z) rs one had i d c.into_handled-handled.ensures.worked is_of lt e))),
    )

pub returns-clause-left : goal.returns-clause-left
returns-clause-left g c =
    let was = c.loop-worker.invariant in
    let none : c.loop-worker.worker-iterator.rest.items ≡ [] = is_none c.loop-worker.worker-iterator.rest.items (omega (arith, c.in-None.ensures.steps.0, c.loop-worker.worker-iterator.rest.ok.0)) in
    let whole : was.0 ≡ c.args.workers.items = sym (append-nil was.0) ∙ ap (λ (l : List (WorkView g.row.S.Denot)). was.0 ++ l) (sym none) ∙ was.1 in
    let few : length c.args.self.now.placed ≤ length was.0 = omega (arith, ap length whole, c.requires.all) in
    was.4
    ∙ ap (λ (l : List (List Item)). left_over l (all_handled was.0) % 2 ^ 64) (take_all (length was.0) c.args.self.now.placed few)
    ∙ ap (λ (l : List (WorkView g.row.S.Denot)). left_over c.args.self.now.placed (all_handled l) % 2 ^ 64) whole

pub returns-clause-fit : goal.returns-clause-fit
returns-clause-fit g c = λ rs all w lt.
    let was = c.loop-worker.invariant in
    let none : c.loop-worker.worker-iterator.rest.items ≡ [] = is_none c.loop-worker.worker-iterator.rest.items (omega (arith, c.in-None.ensures.steps.0, c.loop-worker.worker-iterator.rest.ok.0)) in
    let whole : was.0 ≡ c.args.workers.items = sym (append-nil was.0) ∙ ap (λ (l : List (WorkView g.row.S.Denot)). was.0 ++ l) (sym none) ∙ was.1 in
    All-get_or (λ (hs : List Handled). AllFit rs hs) (all_handled c.args.workers.items) w [] lt
    (subst (λ (l : List (WorkView g.row.S.Denot)). All (λ hs. AllFit rs hs) (all_handled l)) whole (was.5 rs all))
