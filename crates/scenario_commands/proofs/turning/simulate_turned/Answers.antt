use Rattle.std.proofs.Common.{inl, inr, refl, sym, string_bytes, ◌∙◌}
use Rattle.scenario_commands.proofs.Listed.{whole_got}
use Rattle.scenario_commands.proofs.turning.simulate_turned.Goals as goal

pub returns-in-Err-play_turned-clause-stopped : goal.returns-in-Err-play_turned-clause-stopped
returns-in-Err-play_turned-clause-stopped g c =
    inr (inl (record {
      scenario = c.in-Ok.scenario;
      means = c.in-Ok.ensures.means;
      there = sym c.has_node.ensures ∙ c.if-not-has_node.false;
      why = c.in-Err-play_turned.given_up.fault;
      named = c.listing_fault-fault.ensures;
      stopped = c.in-Err-play_turned.ensures.stopped;
    }))

pub returns-in-Err-play_turned-clause-place : goal.returns-in-Err-play_turned-clause-place
returns-in-Err-play_turned-clause-place g c = inr ((c.in-Ok.scenario, c.in-Ok.ensures.means), refl)

pub returns-in-Ok-put_text-clause-played : goal.returns-in-Ok-put_text-clause-played
returns-in-Ok-put_text-clause-played g c =
    let told = c.in-Ok-play_turned.ensures.ok in
    let got = whole_got (λ sink. g.R.Sink.tape sink) c.args.report.listing.pages c.new-pages.result.sink c.in-Ok-play_turned.told.1.sink c.put_text.new.sink (string_bytes c.in-Ok-play_turned.told.0.text)
    c.as_str.result.now told.whole c.new-pages.ensures.sink told.is_told c.as_str.ensures.value c.in-Ok-put_text.ensures.written.0 c.in-Ok-put_text.ensures.written.1 in
    record {
      scenario = c.in-Ok.scenario;
      means = c.in-Ok.ensures.means;
      there = sym c.has_node.ensures ∙ c.if-not-has_node.false;
      answer = told.whole;
      answers = told.answers;
      kept = c.in-Ok-play_turned.ensures.kept told.answers.trace told.answers.packets told.answers.ending told.answers.simulated;
      written = got.0;
      unfailed = got.1;
    }

pub returns-clause-stopped : goal.returns-clause-stopped
returns-clause-stopped g c =
    let told = c.in-Ok-play_turned.ensures.ok in
    inr (inr (record {
      scenario = c.in-Ok.scenario;
      means = c.in-Ok.ensures.means;
      there = sym c.has_node.ensures ∙ c.if-not-has_node.false;
      answer = told.whole;
      counts = c.in-Ok-play_turned.told.0.counts;
      answers = told.answers;
      named = c.in-Err-put_text.ensures.refused.0;
    }))

pub returns-clause-place : goal.returns-clause-place
returns-clause-place g c = inr ((c.in-Ok.scenario, c.in-Ok.ensures.means), refl)

pub returns-then-not-has_node-clause-stopped : goal.returns-then-not-has_node-clause-stopped
returns-then-not-has_node-clause-stopped g c =
    inl (
      inr (record {
        scenario = c.in-Ok.scenario;
        means = c.in-Ok.ensures.means;
        lacks = sym c.has_node.ensures ∙ c.if-not-has_node.true;
        named = refl;
      }),
      (refl, refl),
    )

pub returns-then-not-has_node-clause-place : goal.returns-then-not-has_node-clause-place
returns-then-not-has_node-clause-place g c = inr ((c.in-Ok.scenario, c.in-Ok.ensures.means), refl)
