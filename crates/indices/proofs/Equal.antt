-- Lists of numbers, compared one by one. Assumes nothing.
use Rattle.std.proofs.Common.{◌≡◌, ℕ, suc, ◌+◌, ◌<◌, ◌≤◌, true, false, ◌&&◌, eqb, List, [], ◌∷◌, length, get_or, drop, refl, ap, ◌∙◌}
use Rattle.std.proofs.lemmas.Bool.{and_parts, and_from, and_left, and_right, eqb-true, eq-eqb, ne_eqb, false≢true}
use Rattle.std.proofs.lemmas.List.{drop_more, drop_all}
use Rattle.indices.specs.Dimensions.{same}

pub same_uneven : (xs ys : List ℕ) → (length xs ≡ length ys → ⊥) → same xs ys ≡ false
same_uneven [] [] n = absurd (n refl)
same_uneven [] (y ∷ ys) n = refl
same_uneven (x ∷ xs) [] n = refl
same_uneven (x ∷ xs) (y ∷ ys) n = and_right (eqb x y) (same xs ys) (same_uneven xs ys (λ e. n (ap suc e)))

pub same_equal : (xs ys : List ℕ) → same xs ys ≡ true → xs ≡ ys
same_equal [] [] h = refl
same_equal [] (y ∷ ys) h = absurd (false≢true h)
same_equal (x ∷ xs) [] h = absurd (false≢true h)
same_equal (x ∷ xs) (y ∷ ys) h =
    let p = and_parts (eqb x y) (same xs ys) h in
    let e = eqb-true x y p.0 in
    let f = same_equal xs ys p.1 in
    cc

-- a loop's step at dimension d
module _ (xs ys : List ℕ) (d : ℕ) (l : d < length xs) (k : d < length ys) where
  same_more : same (drop d xs) (drop d ys) ≡ (eqb (get_or xs d 0) (get_or ys d 0) && same (drop (d + 1) xs) (drop (d + 1) ys))
  same_more = rw (drop_more xs d 0 l, drop_more ys d 0 k)

  pub same_bad : (get_or xs d 0 ≡ get_or ys d 0 → ⊥) → same (drop d xs) (drop d ys) ≡ false
  same_bad n = same_more ∙ and_left (eqb (get_or xs d 0) (get_or ys d 0)) (same (drop (d + 1) xs) (drop (d + 1) ys)) (ne_eqb (get_or xs d 0) (get_or ys d 0) n)

  pub same_good : get_or xs d 0 ≡ get_or ys d 0 → same (drop d xs) (drop d ys) ≡ same (drop (d + 1) xs) (drop (d + 1) ys)
  same_good e = same_more ∙ ap (λ t. t && same (drop (d + 1) xs) (drop (d + 1) ys)) (eq-eqb (get_or xs d 0) (get_or ys d 0) e)

pub same_all : (xs ys : List ℕ) (d : ℕ) → length xs ≤ d → length ys ≤ d → same (drop d xs) (drop d ys) ≡ true
same_all xs ys d l k = rw (drop_all d xs l, drop_all d ys k)

pub same_self : (xs : List ℕ) → same xs xs ≡ true
same_self [] = refl
same_self (x ∷ xs) = and_from (eqb x x) (same xs xs) (eq-eqb x x refl) (same_self xs)
