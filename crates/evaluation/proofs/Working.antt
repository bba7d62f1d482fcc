-- What makes the evaluation of a checked sheet work over a store. Assumes nothing.
use Rattle.std.proofs.Common.{◌≡◌}
use Rattle.elements.specs.Algebra.{Algebra, Laws}
use Rattle.sheets.specs.declared.checked.CheckedSheet.{CheckedSheet}
use Rattle.sheets.specs.Sheets.{contents}
use Rattle.sheets.proofs.Judged.{judged}
use Rattle.stores.specs.Meaning.{Meaning, Lawful}
use Rattle.evaluation.specs.Machine.{setting, Works}

pub works : {E : Type 0} {a : Algebra E} {b : Meaning E} (s : CheckedSheet) → Laws a → Lawful a.zero b → (contents s).shapes ≡ b.shapes → Works (setting a b (contents s))
works s laws law e = record { laws = laws; lawful = law; judged = judged s; fits = e }
