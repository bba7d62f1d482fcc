-- Lists with an entry for each dimension: an index, or a list of extents.
--   same        two lists are equal, entry by entry
--   two_of      m and n name two dimensions of so many: 1 ≤ m < n ≤ rank
--   exchanged   the entries of dimensions m and n change places
--   removed     the entries of dimensions m and n are left out, m below n
--   inserted    l is put in so that it stands at dimensions m and n, m below n
--   Each2       two lists are as long as each other and related entry by entry
use Rattle.std.specs.Prelude.{ℕ, zero, suc, ◌-◌, Bool, ◌&&◌, List, [], ◌∷◌, ◌==◌, nat_le, nat_lt, slice_index, slice_set}
use Rattle.std.specs.Cmp.Lexicographic.{pointwise}

abbrev pub same : List ℕ → List ℕ → Bool
same xs ys = pointwise ◌==◌ xs ys

abbrev pub two_of : ℕ → ℕ → ℕ → Bool
two_of m n rank = nat_le 1 m && (nat_lt m n && nat_le n rank)

abbrev pub exchanged : ℕ → ℕ → List ℕ → List ℕ
exchanged m n i = slice_set (slice_set i (m - 1) (slice_index i (n - 1))) (n - 1) (slice_index i (m - 1))

-- the entry at p from 0 left out
abbrev pub remove_at : ℕ → List ℕ → List ℕ
remove_at zero [] = []
remove_at zero (y ∷ ys) = ys
remove_at (suc p) [] = []
remove_at (suc p) (y ∷ ys) = y ∷ remove_at p ys

abbrev pub removed : ℕ → ℕ → List ℕ → List ℕ
removed m n i = remove_at (m - 1) (remove_at (n - 1) i)

-- x put in before the entry at p from 0
abbrev pub insert_at : ℕ → ℕ → List ℕ → List ℕ
insert_at zero x ys = x ∷ ys
insert_at (suc p) x [] = x ∷ []
insert_at (suc p) x (y ∷ ys) = y ∷ insert_at p x ys

abbrev pub inserted : ℕ → ℕ → ℕ → List ℕ → List ℕ
inserted m n l i = insert_at (n - 1) l (insert_at (m - 1) l i)

abbrev pub Each2 : (ℕ → ℕ → Type 0) → List ℕ → List ℕ → Type 0
Each2 R [] [] = Unit {0}
Each2 R [] (y ∷ ys) = ⊥
Each2 R (x ∷ xs) [] = ⊥
Each2 R (x ∷ xs) (y ∷ ys) = R x y × Each2 R xs ys
