use Rattle.shapes.specs.Shapes.{shapes_of}
use Rattle.padding.proofs.Cleared.{ClearedTo}
use Rattle.padding.proofs.clearing.clear_all.Given as goal

abbrev pub invariant-loop-k : goal.invariant-loop-k
invariant-loop-k g l = ClearedTo g.K.Kind.algebra.zero (shapes_of l.own) l.k (g.S.Store.meaning l.initial.below) (g.S.Store.meaning l.below)
