-- What a step leaves in the tray.
--   tray_after   where the step works, the values of the statement's node, the last coordinate running fastest, and beyond them
--                what it held; otherwise all that it held
use Rattle.std.specs.Prelude.{ℕ, cond, List, ◌++◌, length, drop}
use Rattle.elements.specs.Algebra.{Algebra}
use Rattle.evaluation.specs.Tray.{worked, target}
use Rattle.indices.specs.Places.{product}
use Rattle.sheets.specs.Sheets.{Contents}
use Rattle.stores.specs.Meaning.{Meaning}
use Rattle.runs.specs.Plain.{works}

abbrev pub tray_after : {E : Type 0} → Algebra E → Meaning E → Contents → ℕ → List E → List E
tray_after a b c next xs = cond (works c next (length xs)) (worked a b c next ++ drop (product (target b c next)) xs) xs
