use Rattle.std.proofs.Common.{ℕ, List, ◌∷◌, ◌++◌, reverse, string_bytes, sym, subst}
use Rattle.std.specs.Prelude.{option_copied}
use Rattle.event_trace.specs.Noting.{said_by}
use Rattle.json_lines.specs.Forms.{event_as, listing_as}
use Rattle.simulate_scenario.specs.Asked.{begun}
use Rattle.simulate_scenario.proofs.Noted.{listing_more}
use Rattle.simulate_scenario.proofs.paging.PagedNotes.list.Goals as goal

pub returns-clause-lines : goal.returns-clause-lines
returns-clause-lines g c = λ first past number told.
    let form = c.args.form in
    let notes = c.args.self.now in
    let s = said_by c.args.event.now (option_copied c.args.packet) c.args.outcome.now in
    let line = event_as form notes.number s in
    let more = g.met.P.Pages.told_more first notes.pages (string_bytes notes.lines) (begun form ++ listing_as form (reverse past)) line told in
    let whole = subst (λ (whole : List ℕ). g.P.Pages.told first notes.pages (string_bytes notes.lines ++ line) whole) (listing_more form past s notes.number number) more in
    c.in_ok-turn.ensures first (begun form ++ listing_as form (reverse (s ∷ past)))
    (subst (λ (text : List ℕ). g.P.Pages.told first notes.pages text (begun form ++ listing_as form (reverse (s ∷ past)))) (sym c.in_ok-push_event.ensures) whole)
