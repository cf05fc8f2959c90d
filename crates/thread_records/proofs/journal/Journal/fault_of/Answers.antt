use Rattle.std.proofs.Common.{true, false, map, ap, ◌∙◌, sym}
use Rattle.std.proofs.lemmas.Bool.{true≢false}
use Rattle.thread_records.specs.Journals.{JournalView}
use Rattle.thread_records.specs.Ends.{all_handled}
use Rattle.thread_records.proofs.Ends.{uses_here, serve_by}
use Rattle.thread_records.proofs.journal.Journal.fault_of.Goals as goal

pub returns-then-not-all_use_installed : goal.returns-then-not-all_use_installed
returns-then-not-all_use_installed g c = uses_here c.as_slice.result.now c.args.self.now.installed c.args.workers.now c.all_use_installed.result false (c.as_slice.ensures.value ∙ ap (λ (j : JournalView). j.installed) c.self.view_is) c.all_use_installed.ensures c.if-not-all_use_installed.true

pub returns-then-not-all_serve_placed : goal.returns-then-not-all_serve_placed
returns-then-not-all_serve_placed g c = (
  uses_here c.as_slice.result.now c.args.self.now.installed c.args.workers.now c.all_use_installed.result true (c.as_slice.ensures.value ∙ ap (λ (j : JournalView). j.installed) c.self.view_is) c.all_use_installed.ensures c.if-not-all_use_installed.false,
  (λ all. true≢false (sym (c.all_serve_placed.ensures.1 (serve_by c.args.drained _ _ (all_handled c.args.workers.now) (sym (ap (map (λ v. v.items)) c.as_slice-2.ensures.value ∙ ap (λ (j : JournalView). j.placed) c.self.view_is)) all)) ∙ c.if-not-all_serve_placed.true)),
)

pub returns : goal.returns
returns g c = record {
  installed = uses_here c.as_slice.result.now c.args.self.now.installed c.args.workers.now c.all_use_installed.result true (c.as_slice.ensures.value ∙ ap (λ (j : JournalView). j.installed) c.self.view_is) c.all_use_installed.ensures c.if-not-all_use_installed.false;
  served = serve_by c.args.drained _ _ (all_handled c.args.workers.now) (ap (map (λ v. v.items)) c.as_slice-2.ensures.value ∙ ap (λ (j : JournalView). j.placed) c.self.view_is) (c.all_serve_placed.ensures.0 c.if-not-all_serve_placed.false);
}
