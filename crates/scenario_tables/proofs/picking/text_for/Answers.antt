use Rattle.std.proofs.Common.{rules, ℕ, List, ap, ◌∙◌}
use Rattle.cluster_node.specs.declared.packets.Packet.{Packet}
use Rattle.rollout_plan.specs.Tables.{rule_of}
use Rattle.table_commands.specs.Pick.{packet_of}
use Rattle.scenario_tables.specs.Picking.{packet_text_as}
use Rattle.scenario_tables.proofs.picking.text_for.Goals as goal

pub returns-in-Ok-packet_text_of-clause-text : goal.returns-in-Ok-packet_text_of-clause-text
returns-in-Ok-packet_text_of-clause-text g c = record {
  version = c.in_ok-version.version.now;
  bytes = c.in-Ok.bytes.items;
  of_scheme = search rules;
  of_number = c.in_ok-version.ensures.found;
  of_input = c.in-Ok.ensures.bytes;
  short = c.in-Ok.ensures.short;
  is = c.in-Ok-packet_text_of.ensures ∙ ap (λ (p : Packet). packet_text_as c.args.options.form (rule_of c.args.scenario.now) c.in_ok-version.version.now p)
      (c.read_packet-packet.ensures.packet ∙ ap (λ (bs : List ℕ). packet_of c.args.options.check bs) c.as_slice.ensures.value);
}
