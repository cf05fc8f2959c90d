use Rattle.std.proofs.Common.{◌++◌, ◌∷◌, [], ℕ, List, map, ap, ◌∙◌}
use Rattle.std.proofs.lemmas.Result.{err_from_is_err_and}
use Rattle.pcap_file.specs.Format.{Record}
use Rattle.run_records.specs.declared.records.Entry.{Entry}
use Rattle.run_records.specs.Store.{all_blocks, record_at}
use Rattle.run_records.proofs.Stores.{same_records, one_more}
use Rattle.run_records.proofs.records.Records.push.Goals as goal

pub returns-in_err-place-clause-err : goal.returns-in_err-place-clause-err
returns-in_err-place-clause-err c =
    let p = err_from_is_err_and c.from_residual.result c.from_residual.ensures.1 in
    rw p.1 (same_records (all_blocks c.self.inside.blocks) (all_blocks c.push.new.self) c.self.inside.entries.items c.in_err-place.ensures.keeps c.self.invariant ∙ c.self.view_is)

pub returns-in_err-push-clause-err : goal.returns-in_err-push-clause-err
returns-in_err-push-clause-err c =
    let p = err_from_is_err_and c.from_residual-in_err-push.result c.from_residual-in_err-push.ensures.1 in
    rw p.1 (
    ap (λ (es : List Entry). map (record_at (all_blocks c.push.new.self)) es) c.in_err-push.ensures.items
    ∙ same_records (all_blocks c.self.inside.blocks) (all_blocks c.push.new.self) c.self.inside.entries.items c.in_ok-place.ensures.keeps c.self.invariant
    ∙ c.self.view_is)

pub returns-clause-ok : goal.returns-clause-ok
returns-clause-ok c =
    let frame = c.args.frame.now in
    ap (λ (es : List Entry). map (record_at (all_blocks c.push.new.self)) es) c.in_ok-push.ensures.items
    ∙ one_more (all_blocks c.self.inside.blocks) (all_blocks c.push.new.self) c.self.inside.entries.items _ c.as_slice.result.now c.in_ok-place.ensures.keeps c.self.invariant c.in_ok-place.ensures.bytes
    ∙ ap (λ (rs : List Record). rs ++ record { secs = frame.secs; micros = frame.micros; original = frame.original; bytes = c.as_slice.result.now } ∷ []) c.self.view_is
    ∙ ap (λ (l : List ℕ). c.args.self.now ++ record { secs = frame.secs; micros = frame.micros; original = frame.original; bytes = l } ∷ []) c.as_slice.ensures.value
