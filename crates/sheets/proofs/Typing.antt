-- Typing: an expression has one type, and the type tells those of its parts. Assumes nothing.
use Rattle.std.proofs.Common.{◌≡◌, ℕ, true, ◌⊎◌, List, [], ◌++◌, length, refl, ap, inl, inr}
use Rattle.indices.specs.Dimensions.{two_of, exchanged, removed}
use Rattle.indices.specs.Places.{pick, at1, has}
use Rattle.sheets.specs.Language.{Expr, plus, minus, times, over, Typed, variable, outer, pointwise, turned, contracted, of_variable, of_outer_product, element_by_element, scalar_times, divided_by_scalar, of_transposition, of_contraction}

module _ {ss : List (List ℕ)} where
  pub same_type : {e : Expr} {s t : List ℕ} → Typed ss e s → Typed ss e t → s ≡ t
  same_type (of_variable h) (of_variable k) = refl
  same_type (of_outer_product a b) (of_outer_product c d) =
      let p = same_type a c in
      let q = same_type b d in
      cc
  same_type (element_by_element a b) (element_by_element c d) = same_type a c
  same_type (element_by_element a b) (scalar_times c d) = same_type b d
  same_type (element_by_element a b) (divided_by_scalar c d) = same_type a c
  same_type (scalar_times a b) (element_by_element c d) = same_type b d
  same_type (scalar_times a b) (scalar_times c d) = same_type b d
  same_type (divided_by_scalar a b) (element_by_element c d) = same_type a c
  same_type (divided_by_scalar a b) (divided_by_scalar c d) = same_type a c
  same_type (of_transposition {m} {n} a h) (of_transposition c k) = ap (exchanged m n) (same_type a c)
  same_type (of_contraction {m} {n} a h e) (of_contraction c k f) = ap (removed m n) (same_type a c)

  -- the types of the parts
  pub variable_type : {v : ℕ} {t : List ℕ} → Typed ss (variable v) t → (has ss v ≡ true) × (pick ss v ≡ t)
  variable_type (of_variable h) = (h, refl)

  pub outer_types : {x y : Expr} {t : List ℕ} → Typed ss (outer x y) t → (s : List ℕ) × (u : List ℕ) × Typed ss x s × Typed ss y u × (s ++ u ≡ t)
  outer_types (of_outer_product {s = s} {t = u} a b) = (s, u, a, b, refl)

  pub plus_types : {x y : Expr} {t : List ℕ} → Typed ss (pointwise plus x y) t → Typed ss x t × Typed ss y t
  plus_types (element_by_element a b) = (a, b)

  pub minus_types : {x y : Expr} {t : List ℕ} → Typed ss (pointwise minus x y) t → Typed ss x t × Typed ss y t
  minus_types (element_by_element a b) = (a, b)

  pub times_types : {x y : Expr} {t : List ℕ} → Typed ss (pointwise times x y) t → (Typed ss x t × Typed ss y t) ⊎ (Typed ss x [] × Typed ss y t)
  times_types (element_by_element a b) = inl (a, b)
  times_types (scalar_times a b) = inr (a, b)

  pub over_types : {x y : Expr} {t : List ℕ} → Typed ss (pointwise over x y) t → (Typed ss x t × Typed ss y t) ⊎ (Typed ss x t × Typed ss y [])
  over_types (element_by_element a b) = inl (a, b)
  over_types (divided_by_scalar a b) = inr (a, b)

  pub turned_type : {m n : ℕ} {x : Expr} {t : List ℕ} → Typed ss (turned m n x) t → (s : List ℕ) × Typed ss x s × (two_of m n (length s) ≡ true) × (exchanged m n s ≡ t)
  turned_type (of_transposition {s = s} a h) = (s, a, h, refl)

  pub contracted_type : {m n : ℕ} {x : Expr} {t : List ℕ} → Typed ss (contracted m n x) t → (s : List ℕ) × Typed ss x s × (two_of m n (length s) ≡ true) × (at1 s m ≡ at1 s n) × (removed m n s ≡ t)
  contracted_type (of_contraction {s = s} a h e) = (s, a, h, e, refl)

pub one_type : (ss : List (List ℕ)) (e : Expr) (s t : List ℕ) → Typed ss e s → Typed ss e t → s ≡ t
one_type ss e s t a b = same_type a b
