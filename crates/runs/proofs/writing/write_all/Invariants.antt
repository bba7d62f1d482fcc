use Rattle.shapes.specs.Shapes.{extents_of}
use Rattle.runs.proofs.Writes.{Writing}
use Rattle.runs.proofs.writing.write_all.Given as goal

abbrev pub invariant-loop-k : goal.invariant-loop-k
invariant-loop-k g l = Writing g.K.Kind.algebra.zero (extents_of l.reach) l.v l.k l.tray (g.S.Store.meaning l.initial.s) (g.S.Store.meaning l.s)
