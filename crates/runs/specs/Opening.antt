-- How a run begins.
--   open_answer   refusal 19 where the store has other shapes than the sheet declares: at the first that differs, or 0 where their number differs
--   Begins        a run has the sheet's tables, and stands at statement 1
use Rattle.std.specs.Prelude.{◌≡◌, ℕ, List, Ok, Err, Result}
use Rattle.refusals.specs.Refusals.{Answer, done, refused}
use Rattle.sheets.specs.Sheets.{Contents}
use Rattle.stores.specs.declared.mismatch.Mismatch.{Mismatch}
use Rattle.stores.specs.Matching.{difference, where_other}

abbrev pub unless_other : Result Unit Mismatch → Answer Unit
unless_other (Ok u) = done tt
unless_other (Err e) = refused 19 (where_other e)

abbrev pub open_answer : Contents → List (List ℕ) → Answer Unit
open_answer c ss = unless_other (difference c.shapes ss)

pub record Begins (c d : Contents) (next : ℕ) : Type 0 where
  pub sheet : d ≡ c
  pub first : next ≡ 1
