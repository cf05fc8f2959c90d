use Rattle.std.proofs.Common.{arith, ap, sym, ◌∙◌, ◌++◌, List, length}
use Rattle.std.proofs.lemmas.List.{length-map, map-append}
use Rattle.pool_versions.specs.declared.key.ServiceKey.{ServiceKey}
use Rattle.scenario_sketch.specs.declared.hop.Hop.{Hop}
use Rattle.scenario_sketch.specs.Hops.{destinations_in}
use Rattle.scenario_sketch.specs.Reading.{hop_in}
use Rattle.pcap_file.specs.declared.format.InputEnd.TheVariants as ends
use Rattle.pcap_file.specs.Format.{packet}
use Rattle.scenario_sketch.proofs.Walks.{counted_few, counted_more, counted_all, counted_refused, counted_too_many}
use Rattle.scenario_sketch.proofs.reading.count_records.Goals as goal

pub count_frame-requires : goal.count_frame-requires
count_frame-requires g c = omega (arith, counted_few c.loop-tally.invariant.counted, c.in-Ok.ensures.room, ap length c.loop-tally.invariant.same ∙ length-map c.loop-tally.origins (λ (h : Hop). h.to))

pub returns-in_default-clause-refused : goal.returns-in_default-clause-refused
returns-in_default-clause-refused g c =
    counted_too_many (g.I.Source.tape c.read_record_into.new.source) (packet c.read_record_into.new.frame) c.loop-tally.invariant.counted c.in-Ok.ensures.gave c.in-Ok.ensures.cause

pub loop-tally-preserved : goal.loop-tally-preserved
loop-tally-preserved g c =
    let r = packet c.read_record_into.new.frame in
    record {
      counted = counted_more (g.I.Source.tape c.read_record_into.new.source) r c.count_frame.new.origins c.loop-tally.invariant.counted
          c.in-Ok.ensures.gave c.in-Ok.ensures.room c.in-Ok.ensures.cause c.in-Ok.ensures.calls c.in-Ok-count_frame.ensures.noted;
      same = c.in-Ok-count_frame.ensures.counted
          ∙ ap (λ (ds : List ServiceKey). ds ++ destinations_in (hop_in c.args.head.link r)) c.loop-tally.invariant.same
          ∙ sym (map-append (λ (h : Hop). h.to) c.loop-tally.origins (hop_in c.args.head.link r))
          ∙ ap destinations_in (sym c.in-Ok-count_frame.ensures.noted);
    }

pub returns-in-Err-End-clause-counted : goal.returns-in-Err-End-clause-counted
returns-in-Err-End-clause-counted g c =
    counted_all (g.I.Source.tape c.read_record_into.new.source) ends.End c.loop-tally.invariant.counted (rw c.in-Err-End.field-0-is at c.in-Err-End.ensures.gave)

pub returns-in-Err-Cut-clause-counted : goal.returns-in-Err-Cut-clause-counted
returns-in-Err-Cut-clause-counted g c =
    counted_all (g.I.Source.tape c.read_record_into.new.source) ends.Cut c.loop-tally.invariant.counted (rw c.in-Err-Cut.field-0-is at c.in-Err-Cut.ensures.gave)

pub returns-in-Err-Failed-clause-refused : goal.returns-in-Err-Failed-clause-refused
returns-in-Err-Failed-clause-refused g c =
    let gave = rw c.in-Err-Failed.field-0-is at c.in-Err-Failed.ensures.gave in
    let cause = rw c.in-Err-Failed.field-0-is at c.in-Err-Failed.ensures.cause in
    rw c.in-Err-Failed.field-0-is (counted_refused (g.I.Source.tape c.read_record_into.new.source) c.in-Err-Failed.fault c.loop-tally.invariant.counted gave cause)
