use Rattle.std.proofs.Common.{List, ℕ, subst, inl, inr, string_bytes, refl}
use Rattle.std.specs.Io.KnownBytes.{Appends}
use Rattle.pcap_file.specs.Device.{PutRefused}
use Rattle.scenario_commands.proofs.playing.play.Goals as goal

pub returns-in-Ok-put_text-clause-counted : goal.returns-in-Ok-put_text-clause-counted
returns-in-Ok-put_text-clause-counted g c = record {
  plays = record {
    scenario = c.in-Ok.scenario;
    means = c.in-Ok.ensures.means;
    answer = string_bytes c.in-Ok-play_scenario.answer.text;
    answers = c.in-Ok-play_scenario.ensures.counts.0;
    kept = c.in-Ok-play_scenario.ensures.kept c.in-Ok-play_scenario.ensures.counts.0;
    written = subst (λ (text : List ℕ). Appends (g.R.Sink.tape c.args.report.now).bytes (g.R.Sink.tape c.put_text.new.sink).bytes text) c.as_str.ensures.value c.in-Ok-put_text.ensures.written.0;
    unfailed = c.in-Ok-put_text.ensures.written.1;
  };
  counted = c.in-Ok-play_scenario.ensures.counts.1;
}

pub returns-clause-stopped : goal.returns-clause-stopped
returns-clause-stopped g c =
    inr (inr (record {
      scenario = c.in-Ok.scenario;
      means = c.in-Ok.ensures.means;
      answer = string_bytes c.in-Ok-play_scenario.answer.text;
      answers = c.in-Ok-play_scenario.ensures.ok;
      named = c.in-Err-put_text.ensures.refused.0;
      refused = subst (λ (text : List ℕ). PutRefused text (g.R.Sink.tape c.args.report.now) (g.R.Sink.tape c.put_text.new.sink)) c.as_str.ensures.value c.in-Err-put_text.ensures.refused.1;
    }))

pub returns-in-Err-play_scenario-clause-stopped : goal.returns-in-Err-play_scenario-clause-stopped
returns-in-Err-play_scenario-clause-stopped g c =
    inr (inl (
      record {
        scenario = c.in-Ok.scenario;
        means = c.in-Ok.ensures.means;
        why = c.in-Err-play_scenario.fault;
        named = c.from.ensures;
        stopped = c.in-Err-play_scenario.ensures.stopped;
      },
      refl,
    ))

pub returns-in-Err-play_scenario-clause-place : goal.returns-in-Err-play_scenario-clause-place
returns-in-Err-play_scenario-clause-place g c = inr ((c.in-Ok.scenario, c.in-Ok.ensures.means), refl)

pub returns-clause-place : goal.returns-clause-place
returns-clause-place g c = inr ((c.in-Ok.scenario, c.in-Ok.ensures.means), refl)
