use Rattle.std.proofs.Common.{◌≡◌, List, [], ◌∷◌, ◌++◌, String, Global, string_bytes, Option, Some, None, option_map, option_and_then, refl, sym, ap, ◌∙◌, append_assoc, rules}
use Rattle.toml.specs.View.{view, members_view}
use Rattle.toml.specs.declared.value.Value.{Value}
use Rattle.pool_versions.specs.declared.backend.Backend.{Backend}
use Rattle.version_drafts.specs.Words.{server_of, servers_of}
use Rattle.version_drafts.proofs.words.servers_of.Goals as goal

one_more : (found : List Backend) (s : Backend) (o : Option (List Backend)) → option_map (λ rest. (found ++ s ∷ []) ++ rest) o ≡ option_map (λ rest. found ++ rest) (option_map (λ rest. s ∷ rest) o)
one_more found s None = refl
one_more found s (Some rest) = ap Some (append_assoc found (s ∷ []) rest)

-- an entry was taken
taken : (found : List Backend) (n : String Global) (v : Value) (old rest : List (String Global × Value)) (s : Backend) (all : Option (List Backend)) → old ≡ (n, v) ∷ rest → server_of (string_bytes n) (view v) ≡ Some s
    → option_map (λ rest. found ++ rest) (servers_of (members_view old)) ≡ all → option_map (λ rest. (found ++ s ∷ []) ++ rest) (servers_of (members_view rest)) ≡ all
taken found n v old rest s all is one before =
    one_more found s (servers_of (members_view rest))
    ∙ ap (λ (o : Option Backend). option_map (λ rest. found ++ rest) (option_and_then (λ b. option_map (λ more. b ∷ more) (servers_of (members_view rest))) o)) (sym one)
    ∙ ap (λ (es : List (String Global × Value)). option_map (λ rest. found ++ rest) (servers_of (members_view es))) (sym is)
    ∙ before

pub loop-name-preserved : goal.loop-name-preserved
loop-name-preserved c =
    ap (λ (l : List Backend). option_map (λ rest. l ++ rest) (servers_of (members_view c.next.new.self))) c.in_ok-push.ensures.items
    ∙ taken c.loop-name.found.items c.in-Some.name.now c.in-Some.value.now c.loop-name.name-iterator c.next.new.self c.in-Some-2.server (servers_of (members_view c.args.table.now.entries))
    c.in-Some.ensures.steps (search rules) c.loop-name.invariant
