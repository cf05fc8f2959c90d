-- The two links of each place, which stand side by side.
use Rattle.std.specs.Prelude.{ℕ, List, map}
use Rattle.recent_order.specs.Links.{AreLinked}
use Rattle.recent_order.specs.declared.order.Links.{Links}

-- the links of a place that was never linked
abbrev pub no_links : Links
no_links = record { older = 0; newer = 0 }

abbrev pub older_of : Links → ℕ
older_of links = links.older

abbrev pub newer_of : Links → ℕ
newer_of links = links.newer

-- these places are linked, each once, and each has its links
abbrev pub AreLinkedBy : List Links → List ℕ → Type 0
AreLinkedBy links xs = AreLinked (map older_of links) (map newer_of links) xs
