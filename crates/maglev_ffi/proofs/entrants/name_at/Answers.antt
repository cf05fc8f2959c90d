use Rattle.std.proofs.Common.{[], get_or}
use Rattle.backend_names.specs.NameText.{is_name}
use Rattle.table_entrants.proofs.Ranked.{all_named}
use Rattle.maglev_ffi.proofs.Named.{is_made}
use Rattle.maglev_ffi.proofs.entrants.name_at.Goals as goal

pub unwrap-requires : goal.unwrap-requires
unwrap-requires c =
    is_made c.new.result (get_or c.args.words.now c.args.place (record { ref_ptr = (0, 0); now = [] })).now c.new.ensures
    (all_named is_name (λ w. w.now) c.args.words.now c.requires.names c.args.place (record { ref_ptr = (0, 0); now = [] }) c.requires.place)
