use Rattle.std.proofs.Common.{length, sym, ◌∙◌}
use Rattle.std.proofs.lemmas.Bool.{ne_eqb}
use Rattle.shapes.proofs.Numbering.{within_zip, within_uneven}
use Rattle.shapes.proofs.places.contains.Goals as goal

pub returns-then-es-index : goal.returns-then-es-index
returns-then-es-index c = c.all_reached.ensures ∙ sym (within_zip c.args.es.now c.args.index.now c.if-es-index.true)

pub returns-else-es-index : goal.returns-else-es-index
returns-else-es-index c =
    let es = c.args.es.now in let i = c.args.index.now in
    ne_eqb (length es) (length i) c.if-es-index.false ∙ sym (within_uneven es i c.if-es-index.false)
