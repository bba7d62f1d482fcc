use Rattle.std.proofs.Common.{◌≡◌, ◌+◌, map, drop}
use Rattle.shapes.specs.Shapes.{shapes_of}
use Rattle.sheets.specs.Rules.{info_in}
use Rattle.sheets.specs.Verdict.{statements_from}
use Rattle.sheets.proofs.passed.Known.judge_statements.Given as goal

abbrev pub invariant-loop-k : goal.invariant-loop-k
invariant-loop-k l =
    statements_from (shapes_of l.self.table.now) (map info_in l.self.nodes.now) (l.k + 1) (drop l.k l.statements) ≡ statements_from (shapes_of l.self.table.now) (map info_in l.self.nodes.now) 1 l.statements
