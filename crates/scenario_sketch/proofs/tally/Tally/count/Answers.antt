use Rattle.std.proofs.Common.{◌≡◌, ℕ, ◌+◌, List, ◌∷◌, [], reverse, length, sym, ap, ◌∙◌, arith}
use Rattle.std.specs.Prelude.{count_by}
use Rattle.std.proofs.lemmas.List.{reverse-append}
use Rattle.indexmap.specs.IndexMap.{insert_entry}
use Rattle.pool_versions.specs.declared.key.ServiceKey.{ServiceKey}
use Rattle.pool_versions.specs.Pool.{same_key}
use Rattle.scenario_sketch.specs.Entries.{count_entries}
use Rattle.scenario_sketch.proofs.Counting.{count_read, counted_more, few_counted}
use Rattle.scenario_sketch.proofs.tally.Tally.count.Goals as goal

pub overflow_add-before : goal.overflow_add-before
overflow_add-before c =
    let past : List ServiceKey = reverse c.self.inside.past.items in
    let read : c.unwrap_or-before.result ≡ count_by (same_key c.args.to) past =
    count_read c.args.to past c.self.inside.counts.entries c.copied.result c.unwrap_or-before.result c.unwrap_or-before.ensures (c.copied.ensures ∙ c.get.ensures.value) c.self.invariant in
    let few = few_counted c.args.to past in
    let same : length past ≡ length c.args.self.now = ap length c.self.view_is in
    let room = c.requires in
    omega arith

pub invariant_of-self-2 : goal.invariant_of-self-2
invariant_of-self-2 c =
    let past : List ServiceKey = reverse c.self.inside.past.items in
    let read : c.unwrap_or-before.result ≡ count_by (same_key c.args.to) past =
    count_read c.args.to past c.self.inside.counts.entries c.copied.result c.unwrap_or-before.result c.unwrap_or-before.ensures (c.copied.ensures ∙ c.get.ensures.value) c.self.invariant in
    c.in_ok-insert.ensures.entries
    ∙ ap (λ (es : List (ServiceKey × ℕ)). insert_entry same_key es c.args.to (c.unwrap_or-before.result + 1)) c.self.invariant
    ∙ counted_more c.args.to past c.unwrap_or-before.result read
    ∙ ap count_entries (sym (ap reverse c.and-self-inside.ensures ∙ reverse-append (c.args.to ∷ []) c.self.inside.past.items))
