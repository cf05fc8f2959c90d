-- What the slots are filled with.
use Rattle.std.proofs.Common.{◌≡◌, ℕ, List, map, get_or, refl}
use Rattle.table_entrants.specs.Ranking.{places_of, owners_of}
use Rattle.table_entrants.specs.declared.entrant.Entrant.{Entrant}

pub filled_by : (plain : List ℕ → ℕ) (size : ℕ) (es a d : List Entrant) (owners slots places read : List ℕ)
    → slots ≡ map (λ who. get_or read who 0) owners → read ≡ places → places ≡ places_of d → d ≡ es → owners ≡ owners_of plain size a → a ≡ es
    → slots ≡ map (λ who. get_or (places_of es) who 0) (owners_of plain size es)
filled_by plain size es a d owners slots places read h1 h2 h3 h4 h5 h6 = rw (h1, h2, h3, h4, h5, h6) refl
