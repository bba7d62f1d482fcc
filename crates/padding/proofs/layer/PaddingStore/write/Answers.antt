use Rattle.std.proofs.Common.{◌≡◌, false, sym, ◌∙◌, subst, inl, inr}
use Rattle.std.proofs.Props.{props}
use Rattle.std.proofs.lemmas.Bool.{and_parts, both_ways}
use Rattle.indices.specs.Places.{has, within, pick}
use Rattle.shapes.specs.Shapes.{shapes_of}
use Rattle.padding.specs.Padded.{padded_from, blank_from, pad_answer, pad_written, pad_kept}
use Rattle.padding.specs.Padding.{Blank}
use Rattle.padding.specs.Rounding.{all_rounded}
use Rattle.padding.proofs.layer.PaddingStore.write.Goals as goal
use Rattle.padding.proofs.layer.PaddingStore.write.Goals.{else-not-is_zero-via-then-not-is_zero+else-not-contains, else-not-is_zero-via-else-not-is_zero}

pub invariant_of-self : goal.invariant_of-self
invariant_of-self g c =
    let s = c.args.self.now in let ss = shapes_of s.table in let b = g.S.Store.meaning s.below in
    let a = g.S.Item.Kind.algebra in let v = c.args.v in let i = c.args.index.now in let x = c.args.x in
    let d = g.S.Store.meaning c.write.new.self in
    let ok = padded_from a s.m.count ss b g.met.S.Item.Kind.lawful s.m.low s.wide s.blank in
    let nil : within (pick ss v) i ≡ false → x ≡ a.zero = λ n. elim c.else-not-is_zero.branch [
      | else-not-is_zero-via-then-not-is_zero+else-not-contains w ↦ absurd (both_ways (within (pick ss v) i) n (and_parts (has ss v) (within (pick ss v) i) (sym w.if-not-contains.ensures)).1)
      | else-not-is_zero-via-else-not-is_zero w ↦ c.is_zero.ensures.decides.0 w.if-not-is_zero.false
    ] in
    let after = pad_kept a.zero s.m.count ss b ok v i x _ d nil c.write.ensures.written in
    record { wide = after.shapes; blank = blank_from a s.m.count ss d after }

pub returns-clause-answer : goal.returns-clause-answer
returns-clause-answer g c =
    let s = c.args.self.now in let ss = shapes_of s.table in let b = g.S.Store.meaning s.below in
    let a = g.S.Item.Kind.algebra in let v = c.args.v in let i = c.args.index.now in
    let ok = padded_from a s.m.count ss b g.met.S.Item.Kind.lawful s.m.low s.wide s.blank in
    c.write.ensures.answer ∙ pad_answer a s.m.count ss b ok v i c.args.x (elim c.else-not-is_zero.branch [
      | else-not-is_zero-via-then-not-is_zero+else-not-contains w ↦ inl (and_parts (has ss v) (within (pick ss v) i) (sym w.if-not-contains.ensures)).1
      | else-not-is_zero-via-else-not-is_zero w ↦ inr (sym c.is_zero.ensures.value ∙ w.if-not-is_zero.false)
    ])

-- two layers with the same tables over one store are the same layer
pub returns-clause-same : goal.returns-clause-same
returns-clause-same g c n =
    let s = c.args.self.now in let ss = shapes_of s.table in
    let W : g.row.S.Denot → Type 0 = λ t. (g.S.Store.meaning t).shapes ≡ all_rounded s.m.count ss in
    let B : g.row.S.Denot → Type 0 = λ t. Blank g.S.Item.Kind.algebra ss (g.S.Store.meaning t) in
    let one : IsProp (W s.below) = hlevel props in
    let two : IsProp (B s.below) = hlevel props in
    let P : g.row.S.Denot → Type 0 = λ t. (w : W t) (b : B t) → record { table = s.table; m = s.m; below = t; wide = w; blank = b } ≡ s in
    subst P (sym (c.write.ensures.same n)) (λ w b i. record { table = s.table; m = s.m; below = s.below; wide = one w s.wide i; blank = two b s.blank i }) _ _

pub returns-clause-written : goal.returns-clause-written
returns-clause-written g c =
    let s = c.args.self.now in let ss = shapes_of s.table in let b = g.S.Store.meaning s.below in
    let a = g.S.Item.Kind.algebra in
    let ok = padded_from a s.m.count ss b g.met.S.Item.Kind.lawful s.m.low s.wide s.blank in
    pad_written a.zero s.m.count ss b ok c.args.v c.args.index.now c.args.x _ (g.S.Store.meaning c.write.new.self) c.write.ensures.written
