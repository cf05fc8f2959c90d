-- A page goes to the device.
use Rattle.std.proofs.Common.{◌≡◌, ℕ, List, [], ◌++◌, sym, ap, ◌∙◌, append-nil, arith}
use Rattle.std.specs.Io.KnownBytes.{Appends}
use Rattle.std.proofs.KnownBytes.{Appends-trans}
use Rattle.pcap_file.specs.Device.{Tape, Unfailed}
use Rattle.text_pages.specs.Told.{HasTold}

pub page_told : {R : Type 0} (tape : R → Tape) (first old new : R) (text bytes left whole : List ℕ) → HasTold tape first old text whole → bytes ≡ text
    → Appends (tape old).bytes (tape new).bytes bytes → Unfailed (tape old) (tape new) → left ≡ [] → HasTold tape first new left whole
page_told tape first old new text bytes left whole told is put well empty = record {
  front = told.front ++ bytes;
  got = Appends-trans (tape first).bytes (tape old).bytes (tape new).bytes told.front bytes told.got put;
  unfailed = (well.0 ∙ told.unfailed.0, omega (arith, told.unfailed.1, well.1));
  rest = told.rest ∙ ap (λ (t : List ℕ). told.front ++ t) (sym is) ∙ sym (append-nil (told.front ++ bytes)) ∙ ap (λ (t : List ℕ). (told.front ++ bytes) ++ t) (sym empty);
}
