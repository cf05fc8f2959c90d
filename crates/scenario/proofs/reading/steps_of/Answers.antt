use Rattle.std.proofs.Common.{◌-◌, rules, map, string_bytes}
use Rattle.scenario.specs.Told.{steps_of}
use Rattle.scenario.proofs.Telling.{text_taken}
use Rattle.scenario.proofs.reading.steps_of.Goals as goal

pub loop-n-preserved : goal.loop-n-preserved
loop-n-preserved c =
    text_taken c.args.rules c.loop-n.n (100000 - c.len-room.result) c.as_bytes.result.now c.args.texts.now c.index-texts-n.result c.loop-n.steps.items c.add_told.new.steps.items c.in_ok-told.field-0 c.in-Some.told
    (steps_of c.args.rules 100000 (map string_bytes c.args.texts.now)) c.loop-n-test.true c.index-texts-n.is (search rules) (search rules) c.loop-n.invariant c.in_ok-told.ensures c.in-Some.is c.in-Ok.ensures
