-- A record of a worker that has done nothing comes to nothing.
use Rattle.std.proofs.Common.{◌≡◌, ℕ, ◌+◌, List, [], ◌∷◌, ◌++◌, map, length, ap, ◌∙◌}
use Rattle.std.proofs.lemmas.List.{map_push, append-nil}
use Rattle.thread_records.specs.Histories.{outcome_of}
use Rattle.thread_records.specs.Works.{WorkView}
use Rattle.thread_records.specs.Ends.{all_handled}
use Rattle.thread_roles.specs.Counts.{served_from}
use Rattle.thread_roles.proofs.Counting.{served_push}

pub served_idle : {S : Type 0} (n : ℕ) (old new : List (WorkView S)) (w : WorkView S) → w.handled ≡ [] → new ≡ old ++ w ∷ [] → served_from n 0 (all_handled new) ≡ served_from n 0 (all_handled old)
served_idle {S} n old new w idle more =
    ap (λ (ws : List (WorkView S)). served_from n 0 (all_handled ws)) more
    ∙ ap (λ (hss : List (List _)). served_from n 0 hss) (map_push (λ (v : WorkView S). v.handled) old w)
    ∙ served_push n 0 (all_handled old) w.handled
    ∙ ap (λ (hs : List _). served_from n 0 (all_handled old) ++ map (λ h. outcome_of n (0 + length (all_handled old)) h) hs) idle
    ∙ append-nil (served_from n 0 (all_handled old))
