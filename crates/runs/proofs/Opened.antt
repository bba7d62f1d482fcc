-- Runs that are opened: the store has the sheet's shapes. Assumes nothing.
use Rattle.std.proofs.Common.{◌≡◌, ℕ, List, Ok, Err, Result, refl, arith}
use Rattle.refusals.specs.Refusals.{done}
use Rattle.sheets.specs.Sheets.{Contents}
use Rattle.stores.specs.declared.mismatch.Mismatch.{Mismatch}
use Rattle.stores.specs.Matching.{difference}
use Rattle.stores.proofs.Compared.{difference_none}
use Rattle.runs.specs.Opening.{unless_other, open_answer}

none : (o : Result Unit Mismatch) → done tt ≡ unless_other o → Ok tt ≡ o
none (Ok u) e = refl
none (Err m) e = absurd (let z : ◌≡◌ {A = ℕ} 0 1 = cc in omega arith)

pub opened_fits : (c : Contents) (ss : List (List ℕ)) → done tt ≡ open_answer c ss → c.shapes ≡ ss
opened_fits c ss e = difference_none c.shapes ss (none (difference c.shapes ss) e)
