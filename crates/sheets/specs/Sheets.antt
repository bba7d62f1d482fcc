-- Checked sheets.
--   Contents       what a checked sheet holds
--   contents       that of a sheet
--   judged_sheet   the sheet that the verdict gives where all questions pass
--   filled         what a lent sheet holds after
use Rattle.std.specs.Prelude.{ℕ, List, map, take}
use Rattle.shapes.specs.declared.declaration.Declaration.{Declaration}
use Rattle.refusals.specs.Refusals.{Answer, done, refused, and_then}
use Rattle.shapes.specs.Shapes.{declared, shapes_of}
use Rattle.sheets.specs.declared.checked.CheckedSheet.{CheckedSheet}
use Rattle.sheets.specs.declared.node.Node.{Node}
use Rattle.sheets.specs.declared.node.Statement.{Statement}
use Rattle.sheets.specs.Rules.{Info, info_in, node_in}
use Rattle.sheets.specs.Verdict.{verdict}

pub record Contents : Type 0 where
  pub shapes : List (List ℕ)
  pub nodes : List Node
  pub statements : List Statement
  pub infos : List Info

abbrev pub contents : CheckedSheet → Contents
contents s =
    record { shapes = shapes_of s.table; nodes = map node_in (take s.node_count s.nodes); statements = take s.statement_count s.statements; infos = map info_in (take s.node_count s.nodes) }

abbrev pub judged_sheet : List Declaration → List Node → List Statement → Answer Contents
judged_sheet ds ns sts = and_then (verdict ds ns sts) (λ is. and_then (declared ds) (λ ss. done (record { shapes = ss; nodes = ns; statements = sts; infos = is })))

-- what a lent sheet holds after the verdict, given what it held before
abbrev pub filled : Answer Contents → Contents → Contents
filled (done c) old = c
filled (refused n p) old = old
