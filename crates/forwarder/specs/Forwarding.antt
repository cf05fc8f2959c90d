-- A forwarder as contracts see it.
use Rattle.std.specs.Prelude.{ℕ, List, [], Option}
use Rattle.connection_table.specs.Touches.{Touch}

pub record Forwarding : Type 0 where
  -- how many entries it keeps
  pub capacity : ℕ
  -- how long an entry stands after its last touch; None: no limit
  pub idle : Option ℕ
  -- the entries, newest first
  pub entries : List Touch
  -- how often it has asked its scheme, modulo 2^64
  pub turn : ℕ
  -- the greatest time of the packets that it has served
  pub clock : ℕ

-- a forwarder that has served nothing
abbrev pub unused : ℕ → Option ℕ → Forwarding
unused capacity idle = record { capacity = capacity; idle = idle; entries = []; turn = 0; clock = 0 }
