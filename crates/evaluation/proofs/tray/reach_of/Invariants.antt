use Rattle.std.proofs.Common.{◌≡◌, take}
use Rattle.indices.specs.Places.{pick}
use Rattle.evaluation.proofs.tray.reach_of.Given as goal

abbrev pub invariant-loop-d : goal.invariant-loop-d
invariant-loop-d g l = take l.d l.extent-items ≡ take l.d (pick (g.S.Store.meaning l.s).reach l.v)
