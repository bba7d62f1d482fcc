-- Places of a table, by its list of extents.
--   within    an index lies in the extents: as long, each coordinate from 1 to its extent
--   product   how many places there are
--   place     the number of a place from 0, row-major: the last coordinate runs fastest
--   unplace   the place of a number
--   column    the number of a place from 0, column-major: the first coordinate runs fastest
--   each      every extent is from 1 to 64
--   proper    a shape: rank at most 4, extents 1 to 64, at most 4,096 places
--   pick      the extents of variable v, from 1, in a list of shapes; none where there is no v
--   at1       the extent of dimension d, from 1; 0 where there is no d
--   has       there is a variable v
--   total     how many places a list of shapes has
--   start     how many places the variables before v have
--   cell      the number of a place through all variables, variable after variable, from 0
use Rattle.std.specs.Prelude.{ℕ, ◌+◌, ◌-◌, ◌*◌, ◌/◌, ◌%◌, Bool, true, false, ◌&&◌, List, [], ◌∷◌, length, take, nat_le, slice_index, slice_index_or}
use Rattle.std.specs.List.{list_all}

abbrev pub within : List ℕ → List ℕ → Bool
within [] [] = true
within [] (c ∷ cs) = false
within (e ∷ es) [] = false
within (e ∷ es) (c ∷ cs) = (nat_le 1 c && nat_le c e) && within es cs

abbrev pub product : List ℕ → ℕ
product [] = 1
product (e ∷ es) = e * product es

abbrev pub place : List ℕ → List ℕ → ℕ
place [] cs = 0
place (e ∷ es) [] = 0
place (e ∷ es) (c ∷ cs) = (c - 1) * product es + place es cs

abbrev pub unplace : List ℕ → ℕ → List ℕ
unplace [] n = []
unplace (e ∷ es) n = (n / product es + 1) ∷ unplace es (n % product es)

abbrev pub column : List ℕ → List ℕ → ℕ
column [] cs = 0
column (e ∷ es) [] = 0
column (e ∷ es) (c ∷ cs) = (c - 1) + e * column es cs

abbrev pub each : List ℕ → Bool
each es = list_all (λ e. nat_le 1 e && nat_le e 64) es

abbrev pub proper : List ℕ → Bool
proper es = nat_le (length es) 4 && (each es && nat_le (product es) 4096)

abbrev pub pick : List (List ℕ) → ℕ → List ℕ
pick ss v = slice_index_or ([] ∷ ss) v []

abbrev pub at1 : List ℕ → ℕ → ℕ
at1 es d = slice_index (0 ∷ es) d

abbrev pub has : List (List ℕ) → ℕ → Bool
has ss v = nat_le 1 v && nat_le v (length ss)

abbrev pub total : List (List ℕ) → ℕ
total [] = 0
total (s ∷ ss) = product s + total ss

abbrev pub start : List (List ℕ) → ℕ → ℕ
start ss v = total (take (v - 1) ss)

abbrev pub cell : List (List ℕ) → ℕ → List ℕ → ℕ
cell ss v i = start ss v + place (pick ss v) i
