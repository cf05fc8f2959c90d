-- The events of a record behind the first, as further ones come.
use Rattle.std.proofs.Common.{◌≡◌, List, [], ◌∷◌, ◌++◌, reverse, ap, sym, ◌∙◌, append_assoc}
use Rattle.std.proofs.lemmas.List.{reverse-append}
use Rattle.cluster_node.specs.declared.events.LogEntry.{LogEntry}
use Rattle.cluster_core.specs.Cluster.{Behind}

-- one event more
pub behind_one : (past new : List LogEntry) (s : LogEntry) → new ≡ s ∷ past → Behind (reverse past) new (s ∷ [])
behind_one past new s e = ap reverse e ∙ reverse-append (s ∷ []) past

-- further events behind those that are behind the first
pub behind_more : (before events more past new news : List LogEntry) → Behind (reverse past) new news → more ≡ events ++ news → Behind before past events → Behind before new more
behind_more before events more past new news e f h =
    e ∙ ap (λ (l : List LogEntry). l ++ news) h ∙ append_assoc before events news ∙ ap (λ (l : List LogEntry). before ++ l) (sym f)
