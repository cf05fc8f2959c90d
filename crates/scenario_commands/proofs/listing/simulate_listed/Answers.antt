use Rattle.std.proofs.Common.{inl, inr, refl, string_bytes}
use Rattle.scenario_commands.proofs.Listed.{whole_got}
use Rattle.scenario_commands.proofs.listing.simulate_listed.Goals as goal

pub returns-in-Err-play_listed-clause-stopped : goal.returns-in-Err-play_listed-clause-stopped
returns-in-Err-play_listed-clause-stopped g c =
    inr (inl (record {
      scenario = c.in-Ok.scenario;
      means = c.in-Ok.ensures.means;
      why = c.in-Err-play_listed.given_up.fault;
      named = c.listing_fault-fault.ensures;
      stopped = c.in-Err-play_listed.ensures.stopped;
    }))

pub returns-in-Err-play_listed-clause-place : goal.returns-in-Err-play_listed-clause-place
returns-in-Err-play_listed-clause-place g c = inr ((c.in-Ok.scenario, c.in-Ok.ensures.means), refl)

pub returns-in-Ok-put_text-clause-counted : goal.returns-in-Ok-put_text-clause-counted
returns-in-Ok-put_text-clause-counted g c =
    let told = c.in-Ok-play_listed.ensures.ok in
    let got = whole_got (λ sink. g.R.Sink.tape sink) c.args.report c.new-pages.result.sink c.in-Ok-play_listed.told.1.sink c.put_text.new.sink (string_bytes c.in-Ok-play_listed.told.0.text)
    c.as_str.result.now told.whole c.new-pages.ensures.sink told.is_told c.as_str.ensures.value c.in-Ok-put_text.ensures.written.0 c.in-Ok-put_text.ensures.written.1 in
    record {
      plays = record {
        scenario = c.in-Ok.scenario;
        means = c.in-Ok.ensures.means;
        answer = told.whole;
        answers = told.counted.0;
        kept = c.in-Ok-play_listed.ensures.kept told.whole told.counted.0;
        written = got.0;
        unfailed = got.1;
      };
      counted = told.counted.1;
    }

pub returns-clause-stopped : goal.returns-clause-stopped
returns-clause-stopped g c =
    let told = c.in-Ok-play_listed.ensures.ok in
    inr (inr (record {
      scenario = c.in-Ok.scenario;
      means = c.in-Ok.ensures.means;
      answer = told.whole;
      answers = told.counted.0;
      named = c.in-Err-put_text.ensures.refused.0;
    }))

pub returns-clause-place : goal.returns-clause-place
returns-clause-place g c = inr ((c.in-Ok.scenario, c.in-Ok.ensures.means), refl)
