-- A list that stands for another.
use Rattle.std.specs.Prelude.{map}
use Rattle.std.proofs.Common.{◌∙◌, sym}
use Rattle.std.specs.Global.{Vec}
use Rattle.std.proofs.lemmas.List.{length-map}

-- a list of as much room, with what a function makes of each item
abbrev pub made_by : {A B : Type 0} → (A → B) → Vec A → Vec B
made_by f v = record {
  ptr = v.ptr;
  len = v.len;
  cap = v.cap;
  alloc = v.alloc;
  items = map f v.items;
  ok = (v.ok.0 ∙ sym (length-map v.items f), v.ok.1);
  small = v.small;
}
