use Rattle.std.proofs.Common.{◌+◌, ◌*◌, is_some, sym, ap, ◌∙◌}
use Rattle.std.proofs.lemmas.Bool.{cond-true, cond-false}
use Rattle.images.specs.Layout.{coded}
use Rattle.images.proofs.Layouts.{cells_more}
use Rattle.images.proofs.opening.check_part.Goals as goal

pub returns-then-is_none : goal.returns-then-is_none
returns-then-is_none g c =
    let a = g.K.Kind.algebra in let bs = c.args.bytes.now in let at = c.args.at in let n = c.loop-n.n in
    let h = ap is_some (ap a.decode (sym c.number64.ensures) ∙ sym c.decode.ensures) ∙ c.if-is_none.ensures in
    sym (sym c.loop-n.invariant ∙ cells_more a bs at c.args.first c.args.cells n c.loop-n-test.true ∙ cond-false (coded a bs (at + 8 * n)) _ _ h)

pub loop-n-preserved : goal.loop-n-preserved
loop-n-preserved g c =
    let a = g.K.Kind.algebra in let bs = c.args.bytes.now in let at = c.args.at in let n = c.loop-n.n in
    let h = ap is_some (ap a.decode (sym c.number64.ensures) ∙ sym c.decode.ensures) ∙ c.if-is_none.ensures in
    sym (cells_more a bs at c.args.first c.args.cells n c.loop-n-test.true ∙ cond-true (coded a bs (at + 8 * n)) _ _ h) ∙ c.loop-n.invariant
