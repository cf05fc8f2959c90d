use denote.Exit.{no}
use denote.Param.Send.{param_send, param_sync, arg_send, arg_sync}
use Rattle.node_life.proofs.life.run_life.Goals as goal

-- what the closure asks is what its function was given: that the types may cross threads
pub scoped-requires : goal.scoped-requires
scoped-requires g c =
    let b = c.type_bounds in
    record {
      at = λ a. (
        b.send-S,
        b.send-H,
        param_send 2 _ (arg_send _ no _ b.send-T),
        param_send 4 _ (arg_send _ no _ b.send-B),
        param_send 6 _ (arg_send _ no _ b.send-S-Prepared),
        b.sync-S,
        b.sync-H,
        param_sync 3 _ (arg_sync _ no _ b.sync-G),
        param_sync 4 _ (arg_sync _ no _ b.sync-B),
        param_sync 5 _ (arg_sync _ no _ b.sync-R),
        param_sync 6 _ (arg_sync _ no _ b.sync-S-Prepared),
      );
    }
