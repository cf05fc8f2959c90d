use Rattle.std.proofs.Common.{◌≡◌, ap, ◌∙◌}
use Rattle.connection_changes.specs.Turns.{Reckoning, reckoned}
use Rattle.simulate_scenario.specs.Described.{lookups_in}
use Rattle.simulate_scenario.specs.Turned.{reckoned_by, turned_if, turned_summary_if}
use Rattle.run_scenario.specs.PrivateHistories.{said_whole}
use Rattle.run_scenario.proofs.histories.Telling.tell_turned.Goals as goal

pub returns : goal.returns
returns c =
    let o = c.args.self.now.options in
    let s = c.args.self.now.scenario.now in
    let past = said_whole c.args.self.now.packets.now c.args.nodes.now in
    let same : reckoned c.account-account.result ≡ reckoned_by c.args.ordinals past = c.account-account.ensures c.args.ordinals past (c.in_ok-note_nodes.ensures c.args.ordinals c.new-book.ensures) in
    record {
      before = c.in_ok-splits_told.ensures ∙ ap (λ (r : Reckoning). turned_if o.form o.places o.splits (lookups_in s) s.idle r) same;
      shares = c.in_ok-shares.ensures;
      behind = c.in_ok-summary_told.ensures ∙ ap (λ (r : Reckoning). turned_summary_if o.form o.summary (lookups_in s) s.idle r) same;
      counts = c.counts_told.ensures c.args.ordinals past same;
    }
