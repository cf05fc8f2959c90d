-- No split depends on the packets that arrivals name.
use Rattle.std.proofs.Common.{◌≡◌, ℕ, List, [], ◌∷◌, ◌++◌, length, map, reverse, Option, None, refl, ap, sym, ◌∙◌}
use Rattle.std.proofs.lemmas.List.{length-map, map-append, reverse-append}
use Rattle.std.proofs.Math.Path.{fun_ext}
use Rattle.five_tuple.specs.declared.Flow.{Flow}
use Rattle.cluster_node.specs.declared.packets.Packet.{Packet}
use Rattle.cluster_node.specs.declared.events.Event.{Event}
use Rattle.cluster_node.specs.declared.events.LogEntry.{LogEntry}
use Rattle.cluster_node.specs.declared.outcomes.Outcome.{Outcome}
use Rattle.run_report.specs.declared.sending.Sending.{Sending}
use Rattle.run_report.specs.declared.sending.Split.{Split}
use Rattle.run_report.specs.Causes.{Lookups}
use Rattle.run_report.specs.Splits.{sent_by, last_after, last_sent, split_by, splits_of, flows_with, flows_of, said_of}
use Rattle.run_report.specs.Texts.{text_of, splits_text}
use Rattle.json_lines.specs.declared.forms.Form.{Form}
use Rattle.json_lines.specs.declared.forms.Form.TheVariants.{Plain, Json}
use Rattle.json_lines.specs.Forms.{splits_as}
use Rattle.json_lines.specs.Splits.{told_json, splits_json}
use Rattle.thread_records.specs.declared.nodes.NodeRecord.{NodeRecord}
use Rattle.thread_records.specs.Joins.{all_events, all_outcomes}
use Rattle.run_scenario.specs.Runs.{said_with}
use Rattle.run_scenario.specs.PrivateHistories.{said_by, said_whole}

strip : LogEntry → LogEntry
strip s = record { event = s.event; packet = None; outcome = s.outcome }

stripped : List LogEntry → List LogEntry
stripped past = map strip past

said_stripped : (packets : List Packet) (es : List Event) (os : List Outcome) → stripped (said_with packets es os) ≡ said_of es os
unfolding stripped strip
said_stripped packets [] os = refl
said_stripped packets (e ∷ es) [] = refl
said_stripped packets (e ∷ es) (o ∷ os) = ap (λ (l : List LogEntry). record { event = e; packet = None; outcome = o } ∷ l) (said_stripped packets es os)

last_stripped : (past : List LogEntry) (x : Flow) → last_sent (stripped past) x ≡ last_sent past x
unfolding stripped strip
last_stripped [] x = refl
last_stripped (s ∷ past) x =
    ap (λ n. last_after x (sent_by n s.event s.outcome) (last_sent (map strip past) x)) (length-map past strip)
    ∙ ap (λ (before : Option Sending). last_after x (sent_by (length past) s.event s.outcome) before) (last_stripped past x)

splits_stripped : (past : List LogEntry) → splits_of (stripped past) ≡ splits_of past
unfolding stripped strip
splits_stripped [] = refl
splits_stripped (s ∷ past) =
    ap (λ (ps : List Split). ps ++ split_by (λ x. last_sent (map strip past) x) (sent_by (length (map strip past)) s.event s.outcome)) (splits_stripped past)
    ∙ ap (λ (last : Flow → Option Sending). splits_of past ++ split_by last (sent_by (length (map strip past)) s.event s.outcome)) (fun_ext (last_stripped past))
    ∙ ap (λ n. splits_of past ++ split_by (λ x. last_sent past x) (sent_by n s.event s.outcome)) (length-map past strip)

flows_stripped : (past : List LogEntry) → flows_of (stripped past) ≡ flows_of past
unfolding stripped strip
flows_stripped [] = refl
flows_stripped (s ∷ past) =
    ap (λ (xs : List Flow). flows_with (λ x. last_sent (map strip past) x) (sent_by (length (map strip past)) s.event s.outcome) xs) (flows_stripped past)
    ∙ ap (λ (last : Flow → Option Sending). flows_with last (sent_by (length (map strip past)) s.event s.outcome) (flows_of past)) (fun_ext (last_stripped past))
    ∙ ap (λ n. flows_with (λ x. last_sent past x) (sent_by n s.event s.outcome) (flows_of past)) (length-map past strip)

turned : (past : List LogEntry) → map strip (reverse past) ≡ reverse (map strip past)
turned [] = refl
turned (s ∷ past) =
    ap (λ (l : List LogEntry). map strip l) (reverse-append (s ∷ []) past) ∙ map-append strip (reverse past) (s ∷ [])
    ∙ ap (λ (l : List LogEntry). l ++ strip s ∷ []) (turned past) ∙ sym (reverse-append (strip s ∷ []) (map strip past))

whole_stripped : (packets : List Packet) (nodes : List NodeRecord) → stripped (said_whole packets nodes) ≡ said_by nodes
unfolding stripped
whole_stripped packets nodes =
    turned (said_with packets (all_events nodes) (all_outcomes nodes)) ∙ ap (λ (l : List LogEntry). reverse l) (said_stripped packets (all_events nodes) (all_outcomes nodes))

-- the splits' objects, by the flows and the splits
abbrev json_of : Lookups → List Flow → List Split → List ℕ
json_of lookups xs ps = told_json lookups (length xs) ps

same_json : (lookups : Lookups) (packets : List Packet) (nodes : List NodeRecord) → splits_json lookups (said_whole packets nodes) ≡ splits_json lookups (said_by nodes)
same_json lookups packets nodes =
    let whole = said_whole packets nodes in
    ap (λ (xs : List Flow). json_of lookups xs (splits_of whole)) (sym (flows_stripped whole))
    ∙ ap (λ (ps : List Split). json_of lookups (flows_of (stripped whole)) ps) (sym (splits_stripped whole))
    ∙ ap (λ (past : List LogEntry). json_of lookups (flows_of past) (splits_of past)) (whole_stripped packets nodes)

same_text : (lookups : Lookups) (packets : List Packet) (nodes : List NodeRecord) → splits_text lookups (said_whole packets nodes) ≡ splits_text lookups (said_by nodes)
same_text lookups packets nodes =
    let whole = said_whole packets nodes in
    ap (λ (xs : List Flow). text_of lookups (length xs) (splits_of whole)) (sym (flows_stripped whole))
    ∙ ap (λ (ps : List Split). text_of lookups (length (flows_of (stripped whole))) ps) (sym (splits_stripped whole))
    ∙ ap (λ (past : List LogEntry). splits_text lookups past) (whole_stripped packets nodes)

-- the splits of the histories are told alike with the packets of arrivals, and without
pub same_told : (form : Form) (lookups : Lookups) (packets : List Packet) (nodes : List NodeRecord) → splits_as form lookups (said_whole packets nodes) ≡ splits_as form lookups (said_by nodes)
same_told Plain lookups packets nodes = same_text lookups packets nodes
same_told Json lookups packets nodes = same_json lookups packets nodes
