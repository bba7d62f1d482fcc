use Rattle.std.proofs.Common.{◌≡◌, ◌+◌, map, take, drop}
use Rattle.shapes.specs.Shapes.{shapes_of, declared_extents, judged}
use Rattle.shapes.proofs.declaring.TableTryFromRefSliceDeclaration.try_from.Given as goal

abbrev pub invariant-loop-k : goal.invariant-loop-k
invariant-loop-k l =
    (shapes_of l.table ≡ map declared_extents (take l.k l.declared))
    × (judged (map declared_extents l.declared) (l.k + 1) (drop l.k l.declared) ≡ judged (map declared_extents l.declared) 1 l.declared)
