use Rattle.std.proofs.Common.{◌≡◌, ◌≤◌, ◌++◌, ◌∷◌, [], ℕ, List, ap, subst, ◌∙◌}
use Rattle.std.specs.List.{All}
use Rattle.version_board.specs.Seats.{seen_by}
use Rattle.handled_list.specs.declared.handled.Handled.{Handled}
use Rattle.thread_roles.proofs.Steps.{step_weaker}
use Rattle.thread_roles.proofs.post.Post.handle.Goals as goal

pub returns-in-Ok-clause-handled : goal.returns-in-Ok-clause-handled
returns-in-Ok-clause-handled g c =
    let saw : seen_by c.look-number.new.seat ≡ c.args.self.now ++ c.look-number.result ∷ [] = c.look-number.ensures.seen ∙ ap (λ (l : List ℕ). l ++ c.look-number.result ∷ []) c.self.view_is in
    step_weaker c.in-Ok.step _ _ _
    (λ s h. (c.look-number.result, saw, h ∙ ap (λ (n : ℕ). c.args.worker.now.handled ++ (let d : Handled = record { item = c.args.item.now; version = n; choice = s.choice; unstored = s.unstored } in d) ∷ []) c.in-Some-of_number.ensures.found.1))
    c.in-Ok.ensures.done

pub returns-in-Ok-clause-saw : goal.returns-in-Ok-clause-saw
returns-in-Ok-clause-saw g c =
    let saw : seen_by c.look-number.new.seat ≡ c.args.self.now ++ c.look-number.result ∷ [] = c.look-number.ensures.seen ∙ ap (λ (l : List ℕ). l ++ c.look-number.result ∷ []) c.self.view_is in
    (c.look-number.result, saw, subst (λ (l : List ℕ). All (λ n. n ≤ c.look-number.result) l) c.self.view_is c.look-number.ensures.never_less)

pub returns-clause-saw : goal.returns-clause-saw
returns-clause-saw g c =
    let saw : seen_by c.look-number.new.seat ≡ c.args.self.now ++ c.look-number.result ∷ [] = c.look-number.ensures.seen ∙ ap (λ (l : List ℕ). l ++ c.look-number.result ∷ []) c.self.view_is in
    (c.look-number.result, saw, subst (λ (l : List ℕ). All (λ n. n ≤ c.look-number.result) l) c.self.view_is c.look-number.ensures.never_less)
