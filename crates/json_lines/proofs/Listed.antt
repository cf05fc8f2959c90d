-- A listing with one event more.
use Rattle.std.proofs.Common.{◌≡◌, ℕ, ◌+◌, List, [], ◌∷◌, ◌++◌, length, ap, sym, ◌∙◌, append_assoc, arith}
use Rattle.std.proofs.lemmas.List.{append-nil}
use Rattle.cluster_node.specs.declared.events.LogEntry.{LogEntry}
use Rattle.run_report.proofs.Walks.{lines_push}
use Rattle.json_lines.specs.declared.forms.Form.{Form}
use Rattle.json_lines.specs.declared.forms.Form.TheVariants.{Plain, Json}
use Rattle.json_lines.specs.Events.{event_json, events_json_from}
use Rattle.json_lines.specs.Forms.{event_as, listing_as}

events_push : (k : ℕ) (history : List LogEntry) (said : LogEntry) → events_json_from k (history ++ said ∷ []) ≡ events_json_from k history ++ event_json (k + length history) said
events_push k [] said = append-nil (event_json k said) ∙ ap (λ (n : ℕ). event_json n said) (let e : k ≡ k + 0 = omega arith in e)
events_push k (first ∷ history) said =
    ap (λ (rest : List ℕ). event_json k first ++ rest)
    (events_push (k + 1) history said ∙ ap (λ (n : ℕ). events_json_from (k + 1) history ++ event_json n said) (let e : k + 1 + length history ≡ k + length (first ∷ history) = omega arith in e))
    ∙ sym (append_assoc (event_json k first) (events_json_from (k + 1) history) (event_json (k + length (first ∷ history)) said))

pub listing_push : (form : Form) (history : List LogEntry) (said : LogEntry) → listing_as form (history ++ said ∷ []) ≡ listing_as form history ++ event_as form (0 + length history) said
listing_push Plain history said = lines_push 0 history said
listing_push Json history said = events_push 0 history said
