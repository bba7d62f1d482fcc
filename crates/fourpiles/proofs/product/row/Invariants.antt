use Rattle.fourpiles.specs.Product.{Filled, in_row}
use Rattle.fourpiles.proofs.product.row.Given as goal

abbrev pub invariant-loop-j : goal.invariant-loop-j
invariant-loop-j g l = Filled g.K.Kind.algebra l.t (in_row l.i l.j) (g.S.Store.meaning l.initial.s) (g.S.Store.meaning l.s)
