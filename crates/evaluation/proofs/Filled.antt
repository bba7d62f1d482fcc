-- A tray that is filled from its start. Assumes nothing.
use Rattle.std.proofs.Common.{◌≡◌, ℕ, zero, suc, ◌+◌, ◌<◌, ◌≤◌, List, [], ◌∷◌, ◌++◌, length, take, set, sym, ap, ◌∙◌, add-one, arith}
use Rattle.std.proofs.lemmas.List.{take_all, take_more_set}
use Rattle.evaluation.specs.Tray.{counted}

counted_more : {X : Type 0} (f : ℕ → X) (n k : ℕ) → counted f n (suc k) ≡ counted f n k ++ f (n + k) ∷ []
counted_more f n zero = let e : n ≡ n + 0 = omega arith in ap (λ j. f j ∷ []) e
counted_more f n (suc k) =
    let e : n + 1 + k ≡ n + suc k = omega arith in
    ap (λ t. f n ∷ t) (counted_more f (n + 1) k ∙ ap (λ j. counted f (n + 1) k ++ f j ∷ []) e)

-- one more element is worked out
pub filled_more : {X : Type 0} (f : ℕ → X) (k : ℕ) (xs : List X) → k < length xs → take k xs ≡ counted f 0 k → take (k + 1) (set xs k (f k)) ≡ counted f 0 (k + 1)
filled_more f k xs l h =
    let z : k ≡ 0 + k = omega arith in
    take_more_set xs k (f k) l ∙ ap (λ t. t ++ f k ∷ []) h ∙ ap (λ j. counted f 0 k ++ f j ∷ []) z ∙ sym (counted_more f 0 k) ∙ ap (counted f 0) (sym (add-one k))

pub filled_all : {X : Type 0} (f : ℕ → X) (k n : ℕ) (xs : List X) → k ≡ n → length xs ≤ k → take k xs ≡ counted f 0 k → xs ≡ counted f 0 n
filled_all f k n xs e l h = sym (take_all k xs l) ∙ h ∙ ap (counted f 0) e
