use Rattle.std.proofs.Common.{sym, subst}
use Rattle.cluster_core.specs.Histories.{outcomes_of}
use Rattle.event_trace.specs.Counting.{CountsAre}
use Rattle.event_trace.proofs.Counted.{balanced_record}
use Rattle.core_tests.specs.declared.balancers.CountsAlone.{CountsAlone}
use Rattle.core_tests.proofs.balancers.played.Goals as goal

pub totals-requires : goal.totals-requires
totals-requires g c =
    let past = c.played_by-play.result.trace.past in (
      outcomes_of past,
      subst (λ (x : CountsAlone). CountsAre (outcomes_of past) x.counts) (sym c.into_parts.ensures.notes) c.played_by-play.ensures.1,
      balanced_record past (c.keep_balance.ensures.history past c.played_by-play.ensures.0),
    )
