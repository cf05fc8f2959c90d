-- The texts, as the code puts them together.
use Rattle.std.specs.Prelude.{IfOk, OnOk, Result, Ok, Err, Bool, codes}
use Rattle.std.proofs.Common.{◌≡◌, ℕ, ◌<◌, List, [], ◌∷◌, ◌++◌, length, true, inr, ap, ◌∙◌, append_assoc}
use Rattle.json_lines.specs.declared.forms.Form.{Form}
use Rattle.json_lines.specs.declared.forms.Form.TheVariants.{Json}
use Rattle.json_lines.specs.Heads.{head_json}
use Rattle.rollout_order.specs.Objects.{orders_json}
use Rattle.rollout_order.specs.declared.orders.Order.{Order}
use Rattle.rollout_order.specs.declared.rollout.Rollout.{Rollout}
use Rattle.rollout_order.specs.Orders.{IsGreedy, plain_order, width}
use Rattle.rollout_order.specs.Text.{head_line_as, orders_text_as, IsOrdersText}

pub one_order : {V E : Type 0} (bytes : V → List ℕ) (form : Form) (r : Rollout) (o : Order) (text : Result V E) → 6 < length r.leavers.items → IsGreedy r (width r) (plain_order o) →
    IfOk text (λ s. bytes s ≡ orders_text_as form r (o ∷ []) true) → IfOk text (λ s. IsOrdersText form r (bytes s))
one_order bytes form r o (Ok s) many greedy is = inr (record { many = many; line = o; greedy = greedy; is = is })
one_order bytes form r o (Err e) many greedy is = tt

-- a head, and behind it the object of the orders
pub head_told : {E : Type 0} (w : Result (Unit {0}) E) (r : Rollout) (servers count : ℕ) (greedy : Bool) (old mid new : List ℕ) → servers ≡ length r.leavers.items → mid ≡ old ++ head_json (codes "plan")
    → OnOk w (new ≡ mid ++ orders_json servers count greedy) → OnOk w (new ≡ old ++ head_line_as Json r count greedy)
head_told (Err e) r servers count greedy old mid new es made h = tt
head_told (Ok u) r servers count greedy old mid new es made h =
    h ∙ ap (λ (t : List ℕ). t ++ orders_json servers count greedy) made ∙ append_assoc old (head_json (codes "plan")) (orders_json servers count greedy)
    ∙ ap (λ (n : ℕ). old ++ (head_json (codes "plan") ++ orders_json n count greedy)) es
