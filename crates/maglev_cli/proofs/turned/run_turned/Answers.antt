use Rattle.std.proofs.Common.{List, ℕ, subst, inl, inr, string_bytes, refl}
use Rattle.std.specs.Io.KnownBytes.{Appends}
use Rattle.pcap_file.specs.Device.{PutRefused}
use Rattle.run_scenario.proofs.Known.{known_steps}
use Rattle.maglev_cli.proofs.turned.run_turned.Goals as goal

pub returns-in-Ok-put_text-clause-ran : goal.returns-in-Ok-put_text-clause-ran
returns-in-Ok-put_text-clause-ran g c = record {
  scenario = c.in-Ok.scenario.scenario;
  means = c.in-Ok.ensures.means;
  answer = string_bytes c.in-Ok-run_turned.answer.text;
  ran = c.in-Ok-run_turned.ensures.ran;
  written = subst (λ (text : List ℕ). Appends (g.R.Sink.tape c.args.report.now).bytes (g.R.Sink.tape c.put_text.new.sink).bytes text) c.as_str.ensures.value c.in-Ok-put_text.ensures.written.0;
  unfailed = c.in-Ok-put_text.ensures.written.1;
}

pub returns-clause-stopped : goal.returns-clause-stopped
returns-clause-stopped g c =
    inr (inr (record {
      scenario = c.in-Ok.scenario.scenario;
      means = c.in-Ok.ensures.means;
      answer = string_bytes c.in-Ok-run_turned.answer.text;
      counts = c.in-Ok-run_turned.answer.counts;
      ran = c.in-Ok-run_turned.ensures.ran;
      named = c.in-Err-put_text.ensures.refused.0;
      refused = subst (λ (text : List ℕ). PutRefused text (g.R.Sink.tape c.args.report.now) (g.R.Sink.tape c.put_text.new.sink)) c.as_str.ensures.value c.in-Err-put_text.ensures.refused.1;
    }))

pub returns-in-Err-run_turned-clause-stopped : goal.returns-in-Err-run_turned-clause-stopped
returns-in-Err-run_turned-clause-stopped g c =
    inr (inl (
      record {
        scenario = c.in-Ok.scenario.scenario;
        means = c.in-Ok.ensures.means;
        known = known_steps c.in-Ok.scenario.scenario c.in-Ok.scenario.supported;
        why = c.in-Err-run_turned.stop;
        named = c.failure_fault.ensures;
        stopped = c.in-Err-run_turned.ensures.stopped;
      },
      refl,
    ))

pub returns-in-Err-run_turned-clause-place : goal.returns-in-Err-run_turned-clause-place
returns-in-Err-run_turned-clause-place g c = inr ((c.in-Ok.scenario.scenario, c.in-Ok.ensures.means), refl)

pub returns-clause-place : goal.returns-clause-place
returns-clause-place g c = inr ((c.in-Ok.scenario.scenario, c.in-Ok.ensures.means), refl)
