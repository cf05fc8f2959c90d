use Rattle.std.proofs.Common.{◌∷◌, ◌%◌, ◌∙◌, ap, arith}
use Rattle.std.proofs.lemmas.List.{length-set}
use Rattle.five_tuple.specs.Flow.{flow_bytes}
use Rattle.five_tuple.specs.declared.Flow.{Flow}
use Rattle.maglev_ffi.specs.ManySlots.{flow_of}
use Rattle.maglev_ffi.proofs.Written.{one_more, all_written}
use Rattle.maglev_ffi.proofs.flows.write.Goals as goal

pub loop-place-preserved : goal.loop-place-preserved
loop-place-preserved g c =
    let len = length-set c.loop-place.slots c.loop-place.place c.slot_of.result in
    record {
      within = omega arith;
      same = len ∙ c.loop-place.invariant.same;
      written = one_more (λ x. g.H.FlowHash.plain c.args.hash.now (102 ∷ flow_bytes (flow_of x)) % c.args.size) c.args.flows.now c.loop-place.slots c.loop-place.place _ c.slot_of.result
          c.loop-place.invariant.same (omega arith)
          (c.slot_of.ensures ∙ ap (λ (x : Flow). g.H.FlowHash.plain c.args.hash.now (102 ∷ flow_bytes x) % c.args.size) c.flow_of.ensures)
          c.loop-place.invariant.written;
    }

pub returns : goal.returns
returns g c = all_written _ c.args.flows.now c.loop-place.slots c.loop-place.place c.loop-place.invariant.same (omega arith) c.loop-place.invariant.written
