use Rattle.std.proofs.Common.{ap, ◌∙◌, arith}
use Rattle.std.proofs.lemmas.List.{take_all}
use Rattle.indices.specs.Places.{total}
use Rattle.shapes.specs.Shapes.{shapes_of}
use Rattle.shapes.proofs.Tables.{shapes_length}
use Rattle.shapes.proofs.table.Table.total.Goals as goal

pub returns : goal.returns
returns c =
    let t = c.args.self.now in
    c.before-2.ensures.value ∙ ap total (take_all t.len (shapes_of t) (omega (arith, shapes_length t)))
