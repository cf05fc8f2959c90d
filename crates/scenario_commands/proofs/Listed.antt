-- What a device got of a report: what it was told of the listing, and the rest.
use Rattle.std.proofs.Common.{◌≡◌, ℕ, List, ◌++◌, sym, ap, ◌∙◌, subst, arith}
use Rattle.std.specs.Io.KnownBytes.{Appends}
use Rattle.std.proofs.KnownBytes.{Appends-trans}
use Rattle.pcap_file.specs.Device.{Tape, Unfailed}
use Rattle.text_pages.specs.Told.{HasTold}

pub whole_got : {R : Type 0} (tape : R → Tape) (report first sink out : R) (text bytes whole : List ℕ) → first ≡ report → HasTold tape first sink text whole → bytes ≡ text
    → Appends (tape sink).bytes (tape out).bytes bytes → Unfailed (tape sink) (tape out) → Appends (tape report).bytes (tape out).bytes whole × Unfailed (tape report) (tape out)
whole_got {R} tape report first sink out text bytes whole is told same put well =
    subst (λ (r : R). Appends (tape r).bytes (tape out).bytes whole × Unfailed (tape r) (tape out)) is (
      subst (λ (t : List ℕ). Appends (tape first).bytes (tape out).bytes t) (ap (λ (t : List ℕ). told.front ++ t) same ∙ sym told.rest)
          (Appends-trans (tape first).bytes (tape sink).bytes (tape out).bytes told.front bytes told.got put),
      (well.0 ∙ told.unfailed.0, omega (arith, told.unfailed.1, well.1)),
    )
