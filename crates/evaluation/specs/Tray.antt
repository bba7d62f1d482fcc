-- A statement worked out into a tray: the value of its node at every place in reach of its variable.
--   counted        the values of a function at n, n + 1 and so on, so many of them
--   statement_of   statement s of a sheet, from 1
--   roomy          there is such a statement, and a tray of so many elements has room for its variable's places
--   worked         the values, the last coordinate running fastest
--   tray_answer    how many they are, if store and sheet have the same shapes, the statement is there and the tray has room
--   tray_after     what the tray holds then; beyond the values it is as it was
use Rattle.std.specs.Prelude.{ℕ, zero, suc, ◌+◌, Bool, cond, ◌&&◌, List, [], ◌∷◌, ◌++◌, length, drop, Some, None, Option, nat_le, slice_index_or}
use Rattle.elements.specs.Algebra.{Algebra}
use Rattle.indices.specs.Places.{pick, product, unplace}
use Rattle.sheets.specs.declared.node.Statement.{Statement}
use Rattle.sheets.specs.Language.{blank}
use Rattle.sheets.specs.Sheets.{Contents}
use Rattle.stores.specs.Meaning.{Meaning}
use Rattle.evaluation.specs.Value.{node_value, fits}

abbrev pub counted : {X : Type 0} → (ℕ → X) → ℕ → ℕ → List X
counted f n zero = []
counted f n (suc k) = f n ∷ counted f (n + 1) k

abbrev pub statement_of : Contents → ℕ → Statement
statement_of c s = slice_index_or (blank ∷ c.statements) s blank

-- the rounded extents of the statement's variable
abbrev pub target : {E : Type 0} → Meaning E → Contents → ℕ → List ℕ
target b c s = pick b.reach (statement_of c s).variable

abbrev pub roomy : {E : Type 0} → Meaning E → Contents → ℕ → ℕ → Bool
roomy b c s size = (nat_le 1 s && nat_le s (length c.statements)) && nat_le (product (target b c s)) size

abbrev pub worked : {E : Type 0} → Algebra E → Meaning E → Contents → ℕ → List E
worked a b c s = counted (λ n. node_value a b c (statement_of c s).node (unplace (target b c s) n)) 0 (product (target b c s))

abbrev pub tray_answer : {E : Type 0} → Meaning E → Contents → ℕ → ℕ → Option ℕ
tray_answer b c s size = cond (fits b c && roomy b c s size) (Some (product (target b c s))) None

abbrev pub tray_after : {E : Type 0} → Algebra E → Meaning E → Contents → ℕ → List E → List E
tray_after a b c s tray = cond (fits b c && roomy b c s (length tray)) (worked a b c s ++ drop (product (target b c s)) tray) tray
