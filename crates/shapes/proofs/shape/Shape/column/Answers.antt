use Rattle.std.proofs.Common.{◌≡◌, true, Some, sym, ap, ◌∙◌, arith}
use Rattle.std.proofs.lemmas.Bool.{cond-true, cond-false}
use Rattle.indices.specs.Places.{within, column}
use Rattle.shapes.specs.Shapes.{extents_of}
use Rattle.shapes.proofs.Columns.{column_lt, place_turned}
use Rattle.shapes.proofs.Extents.{proper_parts}
use Rattle.shapes.proofs.shape.Shape.column.Goals as goal

pub returns-then-contains-clause-turned : goal.returns-then-contains-clause-turned
returns-then-contains-clause-turned c =
    let es = extents_of c.args.self.now in let i = c.args.index.now in
    let w : within es i ≡ true = ap (λ t. within t i) (sym c.extents-es.ensures) ∙ sym c.if-contains.ensures in
    let e : c.column.result ≡ column es i = c.column.ensures ∙ ap (λ t. column t i) c.extents-es.ensures in
    ap Some e ∙ sym (cond-true (within es i) _ _ w) ∙ sym (place_turned es i)

pub returns-then-contains-clause-bound : goal.returns-then-contains-clause-bound
returns-then-contains-clause-bound c =
    let s = c.args.self.now in let i = c.args.index.now in
    let w : within (extents_of s) i ≡ true = ap (λ es. within es i) (sym c.extents-es.ensures) ∙ sym c.if-contains.ensures in
    let e : c.column.result ≡ column (extents_of s) i = c.column.ensures ∙ ap (λ es. column es i) c.extents-es.ensures in
    omega (arith, e, column_lt (extents_of s) i w, (proper_parts (extents_of s) s.sound).places)

pub returns-else-contains-clause-turned : goal.returns-else-contains-clause-turned
returns-else-contains-clause-turned c =
    let es = extents_of c.args.self.now in let i = c.args.index.now in
    let w = ap (λ t. within t i) (sym c.extents-es.ensures) ∙ sym c.if-contains.ensures in
    sym (cond-false (within es i) _ _ w) ∙ sym (place_turned es i)
