use Rattle.std.proofs.Common.{◌≡◌, ◌+◌, [], map, length, take, drop}
use Rattle.shapes.specs.Shapes.{shapes_of}
use Rattle.sheets.specs.Rules.{info_in, node_in}
use Rattle.sheets.specs.Verdict.{infos_from}
use Rattle.sheets.proofs.verdict.judge_nodes.Given as goal

abbrev pub invariant-loop-k : goal.invariant-loop-k
invariant-loop-k l =
    record {
      whole : length l.judged ≡ 256;
      same : map node_in (take l.k l.judged) ≡ take l.k l.nodes;
      infos : infos_from (shapes_of l.table) (l.k + 1) (map info_in (take l.k l.judged)) (drop l.k l.nodes) ≡ infos_from (shapes_of l.table) 1 [] l.nodes;
    }
