-- What `plan --order` prints as JSON Lines: an object a line.
use Rattle.std.specs.Prelude.{ℕ, Bool, List, [], ◌∷◌, ◌++◌, Option, Some, None, slice_get, codes}
use Rattle.std.specs.List.{flat_map}
use Rattle.std.specs.Fmt.{decimal}
use Rattle.json_lines.specs.Members.{bool_json}
use Rattle.rollout_order.specs.declared.orders.Order.{Order}
use Rattle.rollout_order.specs.declared.rollout.Rollout.{Rollout}

-- `"NAME"`
abbrev pub first_name : Option (List ℕ) → List ℕ
first_name None = []
first_name (Some name) = codes "\"" ++ (name ++ codes "\"")

-- `,"NAME"`
abbrev pub later_name : Option (List ℕ) → List ℕ
later_name None = []
later_name (Some name) = codes ",\"" ++ (name ++ codes "\"")

-- the servers of some steps behind a first one
abbrev pub later_step : Rollout → ℕ → List ℕ
later_step r place = later_name (slice_get r.leavers.items place)

-- the servers of some steps, with commas between them
unfoldable pub steps_json : Rollout → List ℕ → List ℕ
steps_json r [] = []
steps_json r (place ∷ places) = first_name (slice_get r.leavers.items place) ++ flat_map (later_step r) places

-- `{"type":"order","moved":M,"servers":[`
abbrev pub order_begun : ℕ → List ℕ
order_begun moved = codes "{\"type\":\"order\",\"moved\":" ++ (decimal moved ++ codes ",\"servers\":[")

-- the servers of some steps, and the end of their order's line
unfoldable pub steps_end : Rollout → List ℕ → List ℕ
steps_end r places = steps_json r places ++ codes "]}\n"

-- `{"type":"order","moved":M,"servers":["NAME",..]}`
unfoldable pub order_json : Rollout → Order → List ℕ
order_json r o = order_begun o.moved ++ steps_end r o.steps.items

-- `{"type":"orders","servers":N,"orders":K,"greedy":false}`
abbrev pub orders_json : ℕ → ℕ → Bool → List ℕ
orders_json servers count greedy =
    codes "{\"type\":\"orders\",\"servers\":" ++ (decimal servers ++ (codes ",\"orders\":" ++ (decimal count
    ++ (codes ",\"greedy\":" ++ (bool_json greedy ++ codes "}\n")))))
