use Rattle.std.proofs.Common.{◌≡◌, Bool, subst, sym}
use Rattle.forwarder.specs.Serving.{serving_of, told_in}
use Rattle.forwarder.proofs.History.{by-history}
use Rattle.forwarder.proofs.Forwarder.serve.Goals as goal

pub returns-then-refused-clause-history : goal.returns-then-refused-clause-history
returns-then-refused-clause-history g c = λ past e. by-history (g.S.Scheme.pick c.args.version.now.scheme c.args.version.now.size) c.args.self.now.capacity c.args.self.now.idle c.args.self.now c.serve_in_steps.new.self (serving_of c.args.version.now c.args.flow.now c.args.at c.args.refused) (serving_of c.args.version.now c.args.flow.now c.args.at c.serve_in_steps.result.unstored) c.serve_in_steps.result.choice past c.serve_in_steps.ensures.choice c.serve_in_steps.ensures.after e

pub returns-clause-history : goal.returns-clause-history
returns-clause-history g c = λ past e.
    let pick = g.S.Scheme.pick c.args.version.now.scheme c.args.version.now.size in
    let asked = λ (refused : Bool). serving_of c.args.version.now c.args.flow.now c.args.at refused in
    let choice = subst (λ (refused : Bool). c.renew.result.choice ≡ (told_in pick c.args.self.now (asked refused)).choice) (sym c.if-refused.false) c.renew.ensures.choice in
    by-history pick c.args.self.now.capacity c.args.self.now.idle c.args.self.now c.renew.new.self (asked c.args.refused) (asked c.renew.result.unstored) c.renew.result.choice past choice c.renew.ensures.after e
