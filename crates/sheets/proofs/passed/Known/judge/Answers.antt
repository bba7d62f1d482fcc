use Rattle.std.proofs.Common.{arith}
use Rattle.std.proofs.lemmas.Grind.{common_steps}
use Rattle.sheets.proofs.passed.Known.judge.Goals as goal

pub returns-in_ok-operand-in-Transposition : goal.returns-in_ok-operand-in-Transposition
returns-in_ok-operand-in-Transposition c = let t = rw (c.from-m.ensures, c.from-n.ensures) at c.turned.ensures in grind (arith, common_steps)

pub returns-in_ok-operand-in-Contraction : goal.returns-in_ok-operand-in-Contraction
returns-in_ok-operand-in-Contraction c = let t = rw (c.from-m.ensures, c.from-n.ensures) at c.contracted.ensures in grind (arith, common_steps)
