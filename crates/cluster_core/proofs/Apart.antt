-- A worker's servings by its own packets and servings alone.
use Rattle.std.proofs.Common.{◌≡◌, ℕ, ◌+◌, Bool, List, [], ◌∷◌, ◌++◌, length, map, max, suc, Option, Some, refl, ap, ◌∙◌, arith, append_assoc}
use Rattle.std.specs.Prelude.{slice_get, ◌||◌, nat_lt, if◌then◌else◌}
use Rattle.std.proofs.lemmas.Bool.{ne_eqb}
use Rattle.forwarder.specs.Serving.{Serving, told, told_after}
use Rattle.cluster_node.specs.declared.serving.Item.{Item}
use Rattle.cluster_node.specs.declared.serving.Taken.TheVariants.{Behind, Done}
use Rattle.cluster_node.specs.Book.{Line, put, took, placed, taken_count, next_item, serving_at, servings, greatest_used, serving_under, taken_of, taken}
use Rattle.cluster_node.specs.declared.packets.Packet.{Packet}
use Rattle.cluster_node.specs.declared.events.Event.TheVariants.{Serve}
use Rattle.cluster_node.specs.declared.outcomes.Outcome.{Outcome}
use Rattle.cluster_node.specs.Rules.{Rules}
use Rattle.cluster_node.specs.declared.events.LogEntry.{LogEntry}
use Rattle.cluster_node.specs.Record.{installed_of, lines_of, by_lines, serve_verdict, accepted}
use Rattle.cluster_core.specs.Apart.{Handling, Popped, serving, greatest, puts_on, tooks_on, settled}

puts_placed : (ls : List Line) (is : List Item) → placed (puts_on ls is) ≡ placed ls ++ is
puts_placed ls [] = append_nil (placed ls)
  where
    append_nil : (xs : List Item) → xs ≡ xs ++ []
    append_nil [] = refl
    append_nil (x ∷ xs) = ap (λ (l : List Item). x ∷ l) (append_nil xs)
puts_placed ls (i ∷ is) = puts_placed (put i ∷ ls) is ∙ append_assoc (placed ls) (i ∷ []) is

puts_count : (ls : List Line) (is : List Item) → taken_count (puts_on ls is) ≡ taken_count ls
puts_count ls [] = refl
puts_count ls (i ∷ is) = puts_count (put i ∷ ls) is

puts_servings : (rules : Rules) (ls : List Line) (is : List Item) → servings rules (puts_on ls is) ≡ servings rules ls
puts_servings rules ls [] = refl
puts_servings rules ls (i ∷ is) = puts_servings rules (put i ∷ ls) is

puts_greatest : (ls : List Line) (is : List Item) → greatest_used (puts_on ls is) ≡ greatest_used ls
puts_greatest ls [] = refl
puts_greatest ls (i ∷ is) = puts_greatest (put i ∷ ls) is

tooks_placed : (ls : List Line) (done : List Handling) → placed (tooks_on ls done) ≡ placed ls
tooks_placed ls [] = refl
tooks_placed ls (s ∷ earlier) = tooks_placed ls earlier

settled_placed : (items : List Item) (done : List Handling) → placed (settled items done) ≡ items
settled_placed items done = tooks_placed (puts_on [] items) done ∙ puts_placed [] items

settled_count : (items : List Item) (done : List Handling) → taken_count (settled items done) ≡ length done
settled_count items [] = puts_count [] items
settled_count items (s ∷ earlier) = let h : taken_count (settled items earlier) ≡ length earlier = settled_count items earlier in let e : taken_count (settled items earlier) + 1 ≡ suc (length earlier) = omega arith in e

settled_next : (items : List Item) (done : List Handling) → next_item (settled items done) ≡ slice_get items (length done)
settled_next items done = ap (λ (l : List Item). slice_get l (taken_count (settled items done))) (settled_placed items done) ∙ ap (λ (n : ℕ). slice_get items n) (settled_count items done)

pub settled_servings : (rules : Rules) (items : List Item) (done : List Handling) → Popped items done → servings rules (settled items done) ≡ map (serving rules) done
settled_servings rules items [] h = puts_servings rules [] items
settled_servings rules items (s ∷ earlier) h =
    ap (λ (o : Option Item). serving_at rules o s.version s.refused (servings rules (settled items earlier))) (settled_next items earlier ∙ h.0)
    ∙ ap (λ (l : List Serving). serving rules s ∷ l) (settled_servings rules items earlier h.1)

settled_greatest : (items : List Item) (done : List Handling) → greatest_used (settled items done) ≡ greatest done
settled_greatest items [] = puts_greatest [] items
settled_greatest items (s ∷ earlier) = ap (λ (n : ℕ). max s.version n) (settled_greatest items earlier)

-- In a record with all packets placed before all servings, the next serving of a worker that popped the first packets
-- in order comes to what its forwarder answers after its own servings, whatever stood between them.
pub taken_apart : (rules : Rules) (items : List Item) (done : List Handling) (i : Item) (v : ℕ) (r : Bool) → Popped items done → slice_get items (length done) ≡ Some i
    → taken rules (settled items done) v r ≡ (if nat_lt v i.floor || nat_lt v (greatest done) then Behind else Done i (told_after rules.pick rules.capacity rules.idle (told rules.pick rules.capacity rules.idle (map (serving rules) done)) (serving_under (rules.ups v) v i r)).choice)
taken_apart rules items done i v r h e =
    ap (λ (o : Option Item). taken_of rules (settled items done) o v r) (settled_next items done ∙ e)
    ∙ ap (λ (n : ℕ). if nat_lt v i.floor || nat_lt v n then Behind else Done i (told_after rules.pick rules.capacity rules.idle (told rules.pick rules.capacity rules.idle (servings rules (settled items done))) (serving_under (rules.ups v) v i r)).choice) (settled_greatest items done)
    ∙ ap (λ (ss : List Serving). if nat_lt v i.floor || nat_lt v (greatest done) then Behind else Done i (told_after rules.pick rules.capacity rules.idle (told rules.pick rules.capacity rules.idle ss) (serving_under (rules.ups v) v i r)).choice) (settled_servings rules items done h)

-- a serving's verdict depends on the worker's lines and the installed versions alone
pub serve_alike : (rules : Rules) (a b : List LogEntry) (n w v : ℕ) (r : Bool) → lines_of w a ≡ lines_of w b → installed_of a ≡ installed_of b → serve_verdict rules a n w v r ≡ serve_verdict rules b n w v r
serve_alike rules a b n w v r e f =
    ap (λ (ls : List Line). by_lines rules (installed_of a) ls n w v r) e
    ∙ ap (λ (vs : List ℕ). by_lines rules vs (lines_of w b) n w v r) f

-- a serving leaves the lines of every other worker, and the installed versions
pub serve_leaves : (past : List LogEntry) (n u w v : ℕ) (r : Bool) (x : Option Packet) (o : Outcome) → (u ≡ w → ⊥) → lines_of w (record { event = Serve n u v r; packet = x; outcome = o } ∷ past) ≡ lines_of w past
serve_leaves past n u w v r x o ne = ap (λ (b : Bool). if b then (if accepted o then took v r ∷ lines_of w past else lines_of w past) else lines_of w past) (ne_eqb u w ne)
