use Rattle.shapes.specs.Shapes.{extents_of}
use Rattle.padding.proofs.Cleared.{Clearing}
use Rattle.padding.proofs.clearing.clear.Given as goal

abbrev pub invariant-loop-k : goal.invariant-loop-k
invariant-loop-k g l = Clearing g.K.Kind.algebra.zero (extents_of l.own) (extents_of l.wide) l.v l.k (g.S.Store.meaning l.initial.below) (g.S.Store.meaning l.below)
