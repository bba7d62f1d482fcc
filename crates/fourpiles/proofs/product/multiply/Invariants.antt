use Rattle.fourpiles.specs.Product.{Filled, in_rows}
use Rattle.fourpiles.proofs.product.multiply.Given as goal

abbrev pub invariant-loop-i : goal.invariant-loop-i
invariant-loop-i g l = Filled g.K.Kind.algebra l.t (in_rows l.i l.t.columns) (g.S.Store.meaning l.initial.s) (g.S.Store.meaning l.s)
