-- The command `pick`: the flow of a datagram, its slot and its backend, or why it is dropped.
use Rattle.std.specs.Prelude.{◌≡◌, ◌<◌, ◌≤◌, ℕ, ◌-◌, ◌++◌, Bool, true, false, ◌==◌, if◌then◌else◌, List, take, length, slice_index, Option, Some, None, Ok}
use Rattle.std.specs.Prelude.{Err, IfSome, codes}
use Rattle.std.specs.Fmt.{decimal}
use Rattle.hash_laws.specs.declared.any.AnyHash.{AnyHash}
use Rattle.hash_laws.specs.Any.{hash_of_word, plain_of}
use Rattle.hex.specs.Hex.{decode_of}
use Rattle.hex.specs.declared.FromHexError.{FromHexError}
use Rattle.backend_names.specs.Sizes.{is_table_size}
use Rattle.ip_headers.specs.declared.Link.TheVariants.{Ipv4}
use Rattle.five_tuple.specs.declared.Flow.{Flow}
use Rattle.cluster_node.specs.declared.packets.Packet.{Packet}
use Rattle.cluster_node.specs.declared.packets.Packet.TheVariants.{Good, Bad}
use Rattle.cluster_core.specs.Reading.{packet_read}
use Rattle.run_report.specs.Names.{cause_name}
use Rattle.selection.specs.Picks.{slot_of_flow}
use Rattle.maglev_texts.specs.Printing.{flow_text}
use Rattle.table_entrants.specs.Ranking.{names_of, owners_of, IsRanked}
use Rattle.table_entrants.specs.declared.entrant.Entrant.{Entrant}
use Rattle.json_lines.specs.declared.forms.Form.{Form}
use Rattle.json_lines.specs.declared.forms.Form.TheVariants.{Plain, Json}
use Rattle.json_lines.specs.Heads.{head_json}
use Rattle.table_commands.specs.Objects.{flow_json, drop_json}
use Rattle.table_commands.specs.Text.{entrants_of, name_at}
use Rattle.table_commands.specs.Refusals.{AreListed, AreFew, WordsFail}
use Rattle.command_faults.specs.declared.fault.CliFault.{CliFault}
use Rattle.command_faults.specs.declared.fault.CliFault.TheVariants.{BadSize, BadHash, BadName, DoubleName, TooMany, Write, BadHex, TooLong, Read, Memory}

-- the text without one newline at its end
abbrev pub without_newline : List ℕ → List ℕ
without_newline text = if slice_index text (length text - 1) == 10 then take (length text - 1) text else text

-- what the bytes of a datagram come to, with the test of the checksum or without
abbrev pub packet_of : Bool → List ℕ → Packet
packet_of check bytes = packet_read Ipv4 bytes 0 check

-- `FLOW slot I backend NAME`
abbrev pub flow_line : Flow → ℕ → List ℕ → List ℕ
flow_line x slot name = flow_text x ++ (codes " slot " ++ (decimal slot ++ (codes " backend " ++ (name ++ codes "\n"))))

-- `drop CAUSE`
abbrev pub drop_line : List ℕ → List ℕ
drop_line cause = codes "drop " ++ (cause ++ codes "\n")

-- all that is printed of a flow, or of a drop, in each form
abbrev pub flow_text_as : Form → Flow → ℕ → List ℕ → List ℕ
flow_text_as Plain x slot name = flow_line x slot name
flow_text_as Json x slot name = head_json (codes "pick") ++ flow_json x slot name

abbrev pub drop_text_as : Form → List ℕ → List ℕ
drop_text_as Plain cause = drop_line cause
drop_text_as Json cause = head_json (codes "pick") ++ drop_json cause

-- what is printed of a flow over some names, which take their turns in their order
abbrev pub found_text_as : Form → (List ℕ → ℕ) → ℕ → List Entrant → Flow → List ℕ
found_text_as form plain size entrants x =
    flow_text_as form x (slot_of_flow plain size x) (name_at (names_of entrants) (owners_of plain size entrants) (slot_of_flow plain size x))

-- the text of the command `pick`
abbrev pub pick_text_as : Form → (List ℕ → ℕ) → ℕ → List Entrant → Packet → List ℕ
pick_text_as form plain size entrants (Good x _ _) = found_text_as form plain size entrants x
pick_text_as form plain size entrants (Bad cause) = drop_text_as form (cause_name cause)

-- the text is hexadecimal digits and at most one newline, and they are these bytes
abbrev pub IsHexOf : List ℕ → List ℕ → Type 0
IsHexOf bytes text = decode_of (without_newline text) ≡ Ok bytes

-- the text is no hexadecimal digits
abbrev pub IsNoHex : List ℕ → Type 0
IsNoHex text = (e : FromHexError) × (decode_of (without_newline text) ≡ Err e)

-- the longest input: two digits for each byte of the longest piece, and a newline
abbrev pub longest : ℕ
longest = 524289

-- the text of a datagram, where the input tells it, in a form
abbrev pub IsPickTextAs : Form → (List ℕ → ℕ) → ℕ → List (List ℕ) → Bool → Option (List ℕ) → List ℕ → Type 0
IsPickTextAs form plain size words check input text =
    (entrants : List Entrant) × IsRanked (entrants_of words) entrants × (bytes : List ℕ) × IfSome input (IsHexOf bytes) ×
    (text ≡ pick_text_as form plain size entrants (packet_of check bytes))

-- the same, for the hash that a word names
abbrev pub IsPickTextAsOf : Form → List ℕ → ℕ → List (List ℕ) → Bool → Option (List ℕ) → List ℕ → Type 0
IsPickTextAsOf form word size words check input text =
    (hash : AnyHash) × (hash_of_word word ≡ Some hash) × IsPickTextAs form (plain_of hash) size words check input text

-- the same in a line for people
abbrev pub IsPickLineOf : List ℕ → ℕ → List (List ℕ) → Bool → Option (List ℕ) → List ℕ → Type 0
IsPickLineOf word size words check input line = IsPickTextAsOf Plain word size words check input line

-- an input that isn't too long
abbrev pub IsShort : Option (List ℕ) → Type 0
IsShort input = IfSome input (λ text. length text ≤ longest)

-- what the text is where decoding it ends by a fault
abbrev pub HexFails : CliFault → List ℕ → Type 0
HexFails BadHex text = IsNoHex text
HexFails Memory text = Unit {0}
HexFails _ text = ⊥

-- what the input is where reading it ends by a fault
abbrev pub InputFails : CliFault → Option (List ℕ) → Type 0
InputFails TooLong input = IfSome input (λ text. longest < length text)
InputFails Read input = Unit {0}
InputFails BadHex input = IfSome input (λ text. (length text ≤ longest) × IsNoHex text)
InputFails Write input = IsShort input
InputFails Memory input = Unit {0}
InputFails _ input = ⊥

-- the same with the names' faults before
abbrev pub PickFailsWith : CliFault → ℕ → List (List ℕ) → Option (List ℕ) → Type 0
PickFailsWith BadName size words input = WordsFail BadName size words
PickFailsWith DoubleName size words input = WordsFail DoubleName size words
PickFailsWith TooMany size words input = WordsFail TooMany size words
PickFailsWith Memory size words input = WordsFail Memory size words
PickFailsWith TooLong size words input = AreFew size words × InputFails TooLong input
PickFailsWith Read size words input = AreFew size words
PickFailsWith BadHex size words input = AreFew size words × InputFails BadHex input
PickFailsWith Write size words input = AreFew size words × InputFails Write input
PickFailsWith _ size words input = ⊥

-- when `pick` gives up, and by which fault: the first that holds in their order
abbrev pub PickFails : CliFault → ℕ → List ℕ → List (List ℕ) → Option (List ℕ) → Type 0
PickFails BadSize size hash words input = is_table_size size ≡ false
PickFails BadHash size hash words input = (is_table_size size ≡ true) × (hash_of_word hash ≡ None)
PickFails fault size hash words input = AreListed size hash × PickFailsWith fault size words input
