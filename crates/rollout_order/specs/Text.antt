-- The text of `plan --order`, as a list of bytes.
use Rattle.std.specs.Prelude.{◌≡◌, ℕ, ◌≤◌, ◌<◌, List, [], ◌∷◌, ◌++◌, length, Option, Some, None, slice_get, codes, ◌⊎◌, Bool, true, false}
use Rattle.std.specs.List.{flat_map}
use Rattle.std.specs.Fmt.{decimal}
use Rattle.json_lines.specs.declared.forms.Form.{Form}
use Rattle.json_lines.specs.declared.forms.Form.TheVariants.{Plain, Json}
use Rattle.json_lines.specs.Heads.{head_json}
use Rattle.rollout_order.specs.Objects.{order_json, orders_json}
use Rattle.rollout_order.specs.declared.orders.Order.{Order}
use Rattle.rollout_order.specs.declared.rollout.Rollout.{Rollout}
use Rattle.rollout_order.specs.Orders.{AreRanked, IsGreedy, plain_order, width}

-- ` NAME`
abbrev pub name_text : Option (List ℕ) → List ℕ
name_text None = []
name_text (Some name) = codes " " ++ name

abbrev pub step_text : Rollout → ℕ → List ℕ
step_text r place = name_text (slice_get r.leavers.items place)

-- `moved M NAME NAME ..`
unfoldable pub order_line : Rollout → Order → List ℕ
order_line r o = codes "moved " ++ (decimal o.moved ++ (flat_map (step_text r) o.steps.items ++ codes "\n"))

-- ` greedy`
abbrev pub greedy_text : Bool → List ℕ
greedy_text true = codes " greedy"
greedy_text false = []

-- `servers N orders K`, and ` greedy` where not all were tried
unfoldable pub head_line : Rollout → ℕ → Bool → List ℕ
head_line r count greedy = codes "servers " ++ (decimal (length r.leavers.items) ++ (codes " orders " ++ (decimal count ++ (greedy_text greedy ++ codes "\n"))))

-- the lines in each form
abbrev pub order_line_as : Form → Rollout → Order → List ℕ
order_line_as Plain r o = order_line r o
order_line_as Json r o = order_json r o

abbrev pub head_line_as : Form → Rollout → ℕ → Bool → List ℕ
head_line_as Plain r count greedy = head_line r count greedy
head_line_as Json r count greedy = head_json (codes "plan") ++ orders_json (length r.leavers.items) count greedy

-- a head, and a line for each order
abbrev pub orders_text_as : Form → Rollout → List Order → Bool → List ℕ
orders_text_as form r orders greedy = head_line_as form r (length orders) greedy ++ flat_map (order_line_as form r) orders

-- up to six servers: all orders
pub record IsAllOrders (form : Form) (r : Rollout) (text : List ℕ) : Type 0 where
  pub few : length r.leavers.items ≤ 6
  pub lines : List Order
  pub ranked : AreRanked r lines
  pub is : text ≡ orders_text_as form r lines false

-- more: one
pub record IsOneOrder (form : Form) (r : Rollout) (text : List ℕ) : Type 0 where
  pub many : 6 < length r.leavers.items
  pub line : Order
  pub greedy : IsGreedy r (width r) (plain_order line)
  pub is : text ≡ orders_text_as form r (line ∷ []) true

-- the text of the orders of what is replaced
abbrev pub IsOrdersText : Form → Rollout → List ℕ → Type 0
IsOrdersText form r text = IsAllOrders form r text ⊎ IsOneOrder form r text
