-- Lists of services, part by part.
use Rattle.std.proofs.Common.{◌≡◌, ℕ, ◌+◌, ◌<◌, ◌≤◌, List, [], ◌∷◌, ◌++◌, length, map, take, get_or, sym, ap, ◌∙◌, arith}
use Rattle.std.proofs.lemmas.List.{take_more, take_all, length-map, get_or-map}
use Rattle.pool_versions.specs.declared.service.Service.{Service}
use Rattle.pool_versions.specs.Same.{Parts, parts_of}

part_at : (xs : List Service) (i : ℕ) (a : Service) (d : Parts) → i < length xs → a ≡ get_or xs i a → get_or (map parts_of xs) i d ≡ parts_of a
part_at xs i a d lt is = get_or-map parts_of xs i a d lt ∙ sym (ap parts_of is)

more : (xs : List Service) (i : ℕ) (a : Service) → i < length xs → a ≡ get_or xs i a → take (i + 1) (map parts_of xs) ≡ take i (map parts_of xs) ++ parts_of a ∷ []
more xs i a lt is =
    let many : length (map parts_of xs) ≡ length xs = length-map xs parts_of in
    take_more (map parts_of xs) i (parts_of a) (omega (arith, many, lt)) ∙ ap (λ (p : Parts). take i (map parts_of xs) ++ p ∷ []) (part_at xs i a (parts_of a) lt is)

-- one more pair of services of the same parts
pub parts_more : (xs ys : List Service) (i : ℕ) (a b : Service) → i < length xs → i < length ys → a ≡ get_or xs i a → b ≡ get_or ys i b → take i (map parts_of xs) ≡ take i (map parts_of ys) → parts_of a ≡ parts_of b → take (i + 1) (map parts_of xs) ≡ take (i + 1) (map parts_of ys)
parts_more xs ys i a b lt mt is js e f = more xs i a lt is ∙ ap (λ (l : List Parts). l ++ parts_of a ∷ []) e ∙ ap (λ (p : Parts). take i (map parts_of ys) ++ p ∷ []) f ∙ sym (more ys i b mt js)

-- services at one place of lists of the same parts
pub parts_at : (xs ys : List Service) (i : ℕ) (a b : Service) → i < length xs → i < length ys → a ≡ get_or xs i a → b ≡ get_or ys i b → map parts_of xs ≡ map parts_of ys → parts_of a ≡ parts_of b
parts_at xs ys i a b lt mt is js e = sym (part_at xs i a (parts_of a) lt is) ∙ ap (λ (l : List Parts). get_or l i (parts_of a)) e ∙ part_at ys i b (parts_of a) mt js

-- all of them
pub parts_all : (xs : List Service) (i : ℕ) → length xs ≤ i → take i (map parts_of xs) ≡ map parts_of xs
parts_all xs i le = let many : length (map parts_of xs) ≡ length xs = length-map xs parts_of in take_all i (map parts_of xs) (omega (arith, many, le))

-- the parts of one more service
pub parts_next : (xs : List Service) (i : ℕ) (a : Service) (p : Parts) (ps : List Parts) → i < length xs → a ≡ get_or xs i a → ps ≡ take i (map parts_of xs) → p ≡ parts_of a → ps ++ p ∷ [] ≡ take (i + 1) (map parts_of xs)
parts_next xs i a p ps lt is e f = ap (λ (l : List Parts). l ++ p ∷ []) e ∙ ap (λ (q : Parts). take i (map parts_of xs) ++ q ∷ []) f ∙ sym (more xs i a lt is)
