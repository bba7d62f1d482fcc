use Rattle.std.proofs.Common.{◌≡◌, ◌-◌, ◌++◌}
use Rattle.images.specs.Filled.{repeated}
use Rattle.images.proofs.filling.push_repeated.Given as goal

abbrev pub invariant-loop : goal.invariant-loop
invariant-loop l = l.image.items ++ repeated (l.times - l.counter) l.part ≡ l.fn.image.items ++ repeated l.times l.part
