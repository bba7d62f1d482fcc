-- The loops that fill an image. Assumes nothing.
use Rattle.std.proofs.Common.{◌≡◌, ℕ, suc, ◌+◌, ◌-◌, ◌*◌, ◌/◌, ◌%◌, ◌<◌, List, [], ◌∷◌, ◌++◌, length, get_or, drop, sym, ap, ◌∙◌, div-one, arith}
use Rattle.std.proofs.lemmas.List.{at_drop_more, append_assoc}
use Rattle.indices.specs.Places.{product}
use Rattle.images.specs.Bytes.{bytes}
use Rattle.images.specs.Filled.{repeated, pairs_for}

pub repeated_more : (bs : List ℕ) (n k : ℕ) → k < n → repeated (n - k) bs ≡ bs ++ repeated (n - (k + 1)) bs
repeated_more bs n k l = let e : n - k ≡ suc (n - (k + 1)) = omega arith in ap (λ t. repeated t bs) e

pairs_more : (ss : List (List ℕ)) (at k : ℕ) → k < length ss → pairs_for at (drop k ss) ≡ bytes 4 at ++ (bytes 4 (8 * product (get_or ss k [])) ++ pairs_for (at + 8 * product (get_or ss k [])) (drop (k + 1) ss))
pairs_more ss at k l = at_drop_more (pairs_for at) ss k [] l

-- the four bytes of a number, as the library writes them
abbrev pub four : ℕ → List ℕ
four x = (x / 16777216 % 256) ∷ (x / 65536 % 256) ∷ (x / 256 % 256) ∷ (x % 256) ∷ []

four_bytes : (x : ℕ) → four x ≡ bytes 4 x
four_bytes x = rw (div-one x)

pub pair_pushed : (xs ys zs : List ℕ) (ss : List (List ℕ)) (at k n : ℕ) → k < length ss → n ≡ product (get_or ss k []) → ys ≡ xs ++ four at → zs ≡ ys ++ four (8 * n) → zs ++ pairs_for (at + 8 * n) (drop (k + 1) ss) ≡ xs ++ pairs_for at (drop k ss)
pair_pushed xs ys zs ss at k n l e p q =
    let rest = pairs_for (at + 8 * n) (drop (k + 1) ss) in
    ap (λ t. t ++ rest) (q ∙ ap (λ t. t ++ four (8 * n)) p)
    ∙ append_assoc (xs ++ four at) (four (8 * n)) rest ∙ append_assoc xs (four at) (four (8 * n) ++ rest)
    ∙ ap (λ t. xs ++ (t ++ (four (8 * n) ++ rest))) (four_bytes at)
    ∙ ap (λ t. xs ++ (bytes 4 at ++ (t ++ rest))) (four_bytes (8 * n))
    ∙ ap (λ t. xs ++ (bytes 4 at ++ (bytes 4 (8 * t) ++ pairs_for (at + 8 * t) (drop (k + 1) ss)))) e
    ∙ ap (λ t. xs ++ t) (sym (pairs_more ss at k l))
