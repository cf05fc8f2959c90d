use Rattle.node_life.proofs.life.fn.run_life.scope+FnOnce.call_once.Goals as goal

-- what the types of the threads are asked for
pub scope-requires : goal.scope-requires
scope-requires g c =
    let types = c.requires.1.1.1.1.1.1.1 in
    (types.0, (types.1, (types.2, (types.3, (types.4, (types.5, (types.6, (types.7, (types.8, (types.9, types.10))))))))))
