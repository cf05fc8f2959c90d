-- A word that is no member is found among the words.
use Rattle.std.proofs.Common.{◌≡◌, ℕ, zero, suc, ◌<◌, List, [], ◌∷◌, map, length, get_or, None, sym, arith}
use Rattle.maglev_texts.specs.Parsing.{weighed_member_of}
use Rattle.table_commands.specs.Compare.{HasOtherWord}

pub other_word : {X : Type 0} (f : X → List ℕ) (ws : List X) (k : ℕ) (d : X) → k < length ws → None ≡ weighed_member_of (f (get_or ws k d)) → HasOtherWord (map f ws)
other_word f [] k d h e = absurd (omega arith)
other_word f (w ∷ ws) zero d h e = (0, omega arith, sym e)
other_word f (w ∷ ws) (suc k) d h e = let r = other_word f ws k d (omega arith) e in (suc r.0, (let l = r.1 in omega arith), r.2)
