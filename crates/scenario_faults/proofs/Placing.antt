-- A scenario's refusal is its command's.
use Rattle.std.proofs.Common.{◌≡◌, ℕ, List, inl, refl, subst, sym}
use Rattle.scenario.specs.declared.playing.Played.{Played}
use Rattle.scenario.specs.declared.refused.Refused.{Refused}
use Rattle.scenario.specs.Meaning.{IsRefused}
use Rattle.scenario.specs.Places.{IsAt}
use Rattle.scenario_faults.specs.declared.PlacedFault.{PlacedFault}
use Rattle.scenario_faults.specs.Refusals.{IsPlaced, placed_fault}

pub refused_at : (played : Played) (text : List ℕ) (r : Refused) (p : PlacedFault) → p ≡ placed_fault r → IsRefused played text r.fault → IsAt text r.fault r.place → IsPlaced played text p
refused_at played text r p is refused here =
    subst (λ (q : PlacedFault). IsPlaced played text q) (sym is) (inl (record { fails = record { why = r.fault; named = refl; refused = refused }; at = here }))
