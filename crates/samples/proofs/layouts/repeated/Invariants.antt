use Rattle.std.proofs.Common.{◌≡◌, replicate}
use Rattle.samples.proofs.layouts.repeated.Given as goal

abbrev pub invariant-loop : goal.invariant-loop
invariant-loop g l = l.elements.items ≡ replicate l.counter l.filler
