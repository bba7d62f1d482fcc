use Rattle.std.proofs.Common.{◌-◌, length, sym, ap, ◌∙◌, inl, inr, arith}
use Rattle.std.proofs.lemmas.Bool.{cond-false, cond-true}
use Rattle.indices.specs.Places.{has}
use Rattle.refusals.specs.Refusals.{done}
use Rattle.shapes.specs.Shapes.{shapes_of, extents_of}
use Rattle.shapes.proofs.Tables.{shapes_length, shapes_at, pick_at, counted, counted_not}
use Rattle.shapes.proofs.table.Table.shape.Goals as goal
use Rattle.shapes.proofs.table.Table.shape.Goals.{then-v-lt1-via-then-v-lt1, then-v-lt1-via-else-v-lt1+then-v-self}

pub returns-then-v-lt1 : goal.returns-then-v-lt1
returns-then-v-lt1 c =
    let t = c.args.self.now in let n = length (shapes_of t) in let v = c.args.v in
    elim c.then-v-lt1.branch [
      | then-v-lt1-via-then-v-lt1 w ↦ sym (cond-false (has (shapes_of t) v) _ _ (counted_not n v (inl w.if-v-lt1.true)))
      | then-v-lt1-via-else-v-lt1+then-v-self w ↦ sym (cond-false (has (shapes_of t) v) _ _ (counted_not n v (inr (omega (arith, shapes_length t, w.if-v-self.true)))))
    ]

pub returns : goal.returns
returns c =
    let t = c.args.self.now in let v = c.args.v in let s = c.index-self-v.result in
    let h = counted (length (shapes_of t)) v c.if-v-lt1.false (omega (arith, shapes_length t, c.if-v-self.false)) in
    let p = pick_at (shapes_of t) v c.if-v-lt1.false ∙ shapes_at t (v - 1) s (omega (arith, c.if-v-self.false, c.if-v-lt1.false)) c.index-self-v.is in
    ap (λ x. done (extents_of x)) (sym c.index-self-v.is) ∙ ap done (sym p) ∙ sym (cond-true (has (shapes_of t) v) _ _ h)
