-- Records that reading gives stay so.
use Rattle.std.proofs.Common.{◌≡◌, ℕ, ◌+◌, ◌<◌, List, length, drop, take, Option, Some, None, get_or, sym, ap, ◌∙◌, arith, length-drop}
use Rattle.std.specs.Prelude.{slice_get}
use Rattle.std.proofs.lemmas.List.{length-take, get_or-take, get_or-drop}
use Rattle.std.proofs.lemmas.Option.{slice_get_within, get_or_from_slice_get, slice_get-get_or}
use Rattle.cluster_node.specs.declared.packets.Packet.{Packet}
use Rattle.cluster_core.specs.Cluster.{WereRead}
use Rattle.cluster_node.specs.Records.{WasRead}

pub read_at : (ps : List Packet) (i : ℕ) (d : Packet) → WereRead ps → i < length ps → WasRead (Some (get_or ps i d))
read_at ps i d h lt = h i (get_or ps i d) (slice_get-get_or ps i d lt)

take_front : (k : ℕ) (l : List Packet) (j : ℕ) (p : Packet) → slice_get (take k l) j ≡ Some p → slice_get l j ≡ Some p
take_front k l j p h =
    let within : j < length (take k l) = slice_get_within (take k l) j p h in
    let e : get_or (take k l) j p ≡ p = get_or_from_slice_get (take k l) j p p h in
    slice_get-get_or l j p (omega (arith, within, length-take k l)) ∙ ap Some (sym (get_or-take k l j p (omega (arith, within, length-take k l))) ∙ e)

drop_back : (n : ℕ) (l : List Packet) (j : ℕ) (p : Packet) → slice_get (drop n l) j ≡ Some p → slice_get l (n + j) ≡ Some p
drop_back n l j p h =
    let within : j < length (drop n l) = slice_get_within (drop n l) j p h in
    let e : get_or (drop n l) j p ≡ p = get_or_from_slice_get (drop n l) j p p h in
    slice_get-get_or l (n + j) p (omega (arith, within, length-drop n l)) ∙ ap Some (sym (get_or-drop n l j p) ∙ e)

pub read_next : (ps : List Packet) (n k : ℕ) → WereRead ps → WereRead (take k (drop n ps))
read_next ps n k h j p e = h (n + j) p (drop_back n ps j p (take_front k (drop n ps) j p e))

pub read_among : (ps : List Packet) (n k : ℕ) → WereRead ps → (o : Option Packet) → slice_get (take n ps) k ≡ o → WasRead o
read_among ps n k h None e = tt
read_among ps n k h (Some p) e = h k p (take_front n ps k p e)
