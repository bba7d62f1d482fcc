-- Frames that wait in a vector, the last one at its end. Assumes nothing.
use Rattle.std.proofs.Common.{◌≡◌, ◌<◌, true, false, List, [], ◌∷◌, ◌++◌, length, reverse, refl, ap, ◌∙◌, subst, arith}
use Rattle.std.proofs.lemmas.Bool.{false≢true}
use Rattle.std.proofs.lemmas.List.{reverse-append, length-reverse}

module _ {X : Type 0} where
  -- one put on top, or taken from there
  pub on_top : (xs : List X) {ys : List X} {x : X} → ys ≡ xs ++ x ∷ [] → reverse ys ≡ x ∷ reverse xs
  on_top xs {x = x} e = ap reverse e ∙ reverse-append xs (x ∷ [])

  pub room_for : (xs : List X) → length (reverse xs) < 15 → length xs < 15
  room_for xs h = subst (λ n. n < 15) (length-reverse xs) h

  pub no_frames : (xs : List X) → (0 < length xs → false ≡ true) → reverse xs ≡ []
  no_frames [] h = refl
  no_frames (x ∷ xs) h = absurd (false≢true (h (omega arith)))
