-- Lists of shapes, compared one by one. Assumes nothing.
use Rattle.std.proofs.Common.{◌≡◌, ℕ, suc, ◌+◌, ◌<◌, Bool, true, false, not, cond, eqb, ltb, List, [], ◌∷◌, map, length, Ok, Err, Result, Some, None, sym, refl, ap, ◌∙◌, arith}
use Rattle.std.proofs.Math.Dec.{leb-suc-suc}
use Rattle.std.specs.List.{position, position_or_len, zip}
use Rattle.std.proofs.lemmas.Bool.{cond-true, cond-false, eqb-true, eq-eqb, ltb-true, lt-ltb}
use Rattle.std.proofs.lemmas.List.{length-map}
use Rattle.std.proofs.lemmas.Slice.Zip.{length-zip}
use Rattle.indices.specs.Dimensions.{same}
use Rattle.indices.proofs.Equal.{same_equal}
use Rattle.shapes.specs.Shapes.{extents_of}
use Rattle.shapes.specs.declared.shape.Shape.{Shape}
use Rattle.shapes.proofs.Asked.{some_since, none_since}
use Rattle.stores.specs.declared.mismatch.Mismatch.{Mismatch}
use Rattle.stores.specs.declared.mismatch.Mismatch.TheVariants.{Count, Shape as Other}
use Rattle.stores.specs.Matching.{first_other, difference}

-- a shape and the one beside it are two
abbrev pub unlike : Shape × Shape → Bool
unlike p = not (same (extents_of p.0) (extents_of p.1))

-- the first pair of unlike shapes is the first shape that is another
first_is : (n : ℕ) (ss ts : List Shape) → length ss ≡ length ts → first_other n (map extents_of ss) (map extents_of ts) ≡ cond (ltb (position_or_len unlike (zip ss ts)) (length (zip ss ts))) (Err (Other (n + position_or_len unlike (zip ss ts)))) (Ok tt)
first_is n [] [] l = refl
first_is n [] (t ∷ ts) l = absurd (omega arith)
first_is n (s ∷ ss) [] l = absurd (omega arith)
first_is n (s ∷ ss) (t ∷ ts) l = by (same (extents_of s) (extents_of t)) (position_or_len unlike (zip ss ts)) (length (zip ss ts)) (first_is (n + 1) ss ts (omega arith))
  where
    by : (b : Bool) (k m : ℕ) → first_other (n + 1) (map extents_of ss) (map extents_of ts) ≡ cond (ltb k m) (Err (Other (n + 1 + k))) (Ok tt) → cond b (first_other (n + 1) (map extents_of ss) (map extents_of ts)) (Err (Other n)) ≡ cond (ltb (cond (not (not b)) (1 + k) 0) (suc m)) (Err (Other (n + cond (not (not b)) (1 + k) 0))) (Ok tt)
    by true k m h =
        let e : 1 + k ≡ suc k = omega arith in
        let f : n + 1 + k ≡ n + suc k = omega arith in
        h ∙ ap (λ t. cond (ltb k m) (Err (Other t)) (Ok tt)) f ∙ ap (λ t. cond t (Err (Other (n + suc k))) (Ok tt)) (sym (leb-suc-suc (suc k) m)) ∙ ap (λ t. cond (ltb t (suc m)) (Err (Other (n + t))) (Ok tt)) (sym e)
    by false k m h = let e : n + 0 ≡ n = omega arith in ap (λ t. Err (Other t)) (sym e) ∙ sym (cond-true (ltb 0 (suc m)) _ _ (lt-ltb 0 (suc m) (omega arith)))

module _ (ss ts : List Shape) (l : length ss ≡ length ts) where
  zipped : length (zip ss ts) ≡ length ss
  zipped = omega (arith, length-zip ss ts)

  pub differs_at : (k : ℕ) → Some k ≡ position unlike (zip ss ts) → (first_other 1 (map extents_of ss) (map extents_of ts) ≡ Err (Other (k + 1))) × (k < length ss)
  differs_at k e =
      let q = position_or_len unlike (zip ss ts) in
      let p = some_since (ltb q (length (zip ss ts))) k q e in
      let f : 1 + q ≡ k + 1 = omega (arith, p.1) in
      (first_is 1 ss ts l ∙ cond-true (ltb q (length (zip ss ts))) _ _ p.0 ∙ ap (λ t. Err (Other t)) f, omega (arith, p.1, ltb-true q (length (zip ss ts)) p.0, zipped))

  pub differs_not : None ≡ position unlike (zip ss ts) → first_other 1 (map extents_of ss) (map extents_of ts) ≡ Ok tt
  differs_not e =
      let q = position_or_len unlike (zip ss ts) in
      first_is 1 ss ts l ∙ cond-false (ltb q (length (zip ss ts))) _ _ (none_since (ltb q (length (zip ss ts))) q e)

  pub difference_is : (xs ys : List (List ℕ)) (r : Result Unit Mismatch) → map extents_of ss ≡ xs → map extents_of ts ≡ ys → first_other 1 (map extents_of ss) (map extents_of ts) ≡ r → r ≡ difference xs ys
  difference_is xs ys r p q e =
      let n : length xs ≡ length ys = sym (ap length p) ∙ length-map ss extents_of ∙ l ∙ sym (length-map ts extents_of) ∙ ap length q in
      sym e ∙ ap (λ t. first_other 1 t (map extents_of ts)) p ∙ ap (first_other 1 xs) q ∙ sym (cond-true (eqb (length xs) (length ys)) _ _ (eq-eqb (length xs) (length ys) n))

-- what compares as equal is equal
others_equal : (n : ℕ) (ss ts : List (List ℕ)) → length ss ≡ length ts → Ok tt ≡ first_other n ss ts → ss ≡ ts
others_equal n [] [] l h = refl
others_equal n [] (t ∷ ts) l h = absurd (omega arith)
others_equal n (s ∷ ss) [] l h = absurd (omega arith)
others_equal n (s ∷ ss) (t ∷ ts) l h = by (same s t) refl h (others_equal (n + 1) ss ts (omega arith))
  where
    by : (b : Bool) → same s t ≡ b → Ok tt ≡ cond b (first_other (n + 1) ss ts) (Err (Other n)) → (Ok tt ≡ first_other (n + 1) ss ts → ss ≡ ts) → s ∷ ss ≡ t ∷ ts
    by true e h rest = let p = same_equal s t e in let q = rest h in cc
    by false e h rest = absurd (let z : ◌≡◌ {A = ℕ} 0 1 = cc in omega arith)

pub difference_none : (ss ts : List (List ℕ)) → Ok tt ≡ difference ss ts → ss ≡ ts
difference_none ss ts h = by (eqb (length ss) (length ts)) refl h
  where
    by : (b : Bool) → eqb (length ss) (length ts) ≡ b → Ok tt ≡ cond b (first_other 1 ss ts) (Err Count) → ss ≡ ts
    by true e h = others_equal 1 ss ts (eqb-true (length ss) (length ts) e) h
    by false e h = absurd (let z : ◌≡◌ {A = ℕ} 0 1 = cc in omega arith)
