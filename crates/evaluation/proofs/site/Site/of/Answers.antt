use Rattle.std.proofs.Common.{◌≡◌, Some, List, ℕ, Ok, Err, Result, sym, ◌∙◌}
use Rattle.std.specs.Result.{result_ok}
use Rattle.shapes.specs.Shapes.{shapes_of}
use Rattle.stores.specs.declared.mismatch.Mismatch.{Mismatch}
use Rattle.stores.specs.Matching.{difference}
use Rattle.stores.proofs.Compared.{difference_none}
use Rattle.evaluation.proofs.site.Site.of.Goals as goal

agreed : (ss ts : List (List ℕ)) (r : Result Unit Mismatch) → r ≡ difference ss ts → result_ok r ≡ Some tt → ss ≡ ts
agreed ss ts (Ok u) e h = difference_none ss ts e
agreed ss ts (Err m) e h = cc

pub invariant_of-result : goal.invariant_of-result
invariant_of-result g c = record {
  fits = sym c.table.ensures ∙ agreed (shapes_of c.table.result) (g.S.Store.meaning c.args.store.now).shapes c.difference.result c.difference.ensures (sym c.ok.ensures.value ∙ c.in_ok-ok.was);
}
