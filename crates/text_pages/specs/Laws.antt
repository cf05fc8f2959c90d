-- The laws of pages.
use Rattle.std.proofs.Common.{◌≡◌, ℕ, List, [], ◌++◌, refl, ap, ◌∙◌, append_assoc, arith}
use Rattle.std.proofs.KnownBytes.{Appends-nil}
use Rattle.pcap_file.specs.Device.{Tape}
use Rattle.text_pages.specs.Told.{HasTold}

pub itself : (text : List ℕ) → text ≡ text
itself text = refl

pub more_behind : (text whole more : List ℕ) → whole ≡ text → whole ++ more ≡ text ++ more
more_behind text whole more is = ap (λ (t : List ℕ). t ++ more) is

pub nothing_streamed : {R : Type 0} (tape : R → Tape) (sink : R) (text : List ℕ) → HasTold tape sink sink text text
nothing_streamed tape sink text = record {
  front = [];
  got = Appends-nil (tape sink).bytes;
  unfailed = (refl, omega arith);
  rest = refl;
}

pub streamed_more : {R : Type 0} (tape : R → Tape) (first sink : R) (text whole more : List ℕ) → HasTold tape first sink text whole
    → HasTold tape first sink (text ++ more) (whole ++ more)
streamed_more tape first sink text whole more told = record {
  front = told.front;
  got = told.got;
  unfailed = told.unfailed;
  rest = ap (λ (t : List ℕ). t ++ more) told.rest ∙ append_assoc told.front text more;
}
