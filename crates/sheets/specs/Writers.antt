-- Who wrote a variable last.
--   assigns         statement j assigns the variable
--   Writer          the greatest number below s of a statement that assigns the variable, or none where there is none
--   LastWriter      that of a call that is done
--   writer_answer   question 24: the variable is declared, and s from 1 to one past the last statement
use Rattle.std.specs.Prelude.{◌≡◌, ℕ, ◌+◌, ◌<◌, ◌≤◌, cond, ◌&&◌, List, ◌∷◌, length, Some, None, Ok, Err, Option, Result, nat_le, slice_index_or}
use Rattle.refusals.specs.declared.refusal.Refusal.{Refusal}
use Rattle.indices.specs.Places.{has}
use Rattle.refusals.specs.Refusals.{Answer, done, refused}
use Rattle.sheets.specs.declared.node.Statement.{Statement}
use Rattle.sheets.specs.Language.{blank}
use Rattle.sheets.specs.Sheets.{Contents}

abbrev pub assigns : List Statement → ℕ → ℕ → Type 0
assigns sts v j = (slice_index_or (blank ∷ sts) j blank).variable ≡ v

-- none of the statements after k and before s assigns the variable
abbrev pub Silent : List Statement → ℕ → ℕ → ℕ → Type 0
Silent sts v k s = (j : ℕ) → k < j → j < s → assigns sts v j → ⊥

abbrev pub Writer : List Statement → ℕ → ℕ → Option ℕ → Type 0
Writer sts v s (Some k) = (1 ≤ k) × ((k < s) × (assigns sts v k × Silent sts v k s))
Writer sts v s None = Silent sts v 0 s

abbrev pub LastWriter : List Statement → ℕ → ℕ → Result (Option ℕ) Refusal → Type 0
LastWriter sts v s (Ok found) = Writer sts v s found
LastWriter sts v s (Err e) = Unit

abbrev pub writer_answer : Contents → ℕ → ℕ → Answer Unit
writer_answer c v s = cond (has c.shapes v && (nat_le 1 s && nat_le s (length c.statements + 1))) (done tt) (refused 24 0)
