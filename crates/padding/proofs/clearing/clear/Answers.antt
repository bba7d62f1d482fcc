use Rattle.std.proofs.Common.{◌≡◌, ℕ, ◌+◌, ◌<◌, ltb, List, is_ok, sym, ap, ◌∙◌, subst, arith}
use Rattle.std.proofs.lemmas.Bool.{both_ways, lt-ltb}
use Rattle.indices.specs.Places.{within, unplace, product}
use Rattle.shapes.specs.Shapes.{extents_of}
use Rattle.shapes.proofs.Asked.{some_since, none_since}
use Rattle.shapes.proofs.Extents.{proper_parts, each_solid}
use Rattle.padding.proofs.Cleared.{Clearing, clear_none, clear_skip, clear_takes, clear_step, clear_all, ok_since}
use Rattle.padding.proofs.clearing.clear.Goals as goal
use Rattle.padding.proofs.clearing.clear.Goals.{then-not-contains, else-not-contains}

pub loop-k-init : goal.loop-k-init
loop-k-init g c = clear_none g.K.Kind.algebra (extents_of c.args.own.now) (extents_of c.args.wide.now) c.args.v (g.S.Store.meaning c.args.below.now)

pub loop-k-preserved : goal.loop-k-preserved
loop-k-preserved g c =
    let own = extents_of c.args.own.now in let outer = c.args.wide.now in let wide = extents_of outer in
    let a = g.K.Kind.algebra in let v = c.args.v in let k = c.loop-k.k in
    let b = g.S.Store.meaning c.args.below.now in let d = g.S.Store.meaning c.loop-k.below in
    let s : List ℕ = c.as_slice-place.result.now in
    let lt : k < product wide = omega (arith, c.size-k-end.ensures, c.loop-k-test.true) in
    let e : s ≡ unplace wide k = c.as_slice-place.ensures ∙ (some_since (ltb k (product wide)) _ _ c.in-Some.ensures).1 in
    let law = g.met.S.Store.lawful c.loop-k.below in
    let sol = each_solid wide (proper_parts wide outer.sound).extents in
    let P : g.row.S.Denot → Type 0 = λ t. Clearing a.zero own wide v (k + 1) b (g.S.Store.meaning t) in
    elim c.if-not-contains.branch [
      | then-not-contains w ↦
          let t = clear_takes a own wide v b k d c.loop-k.invariant law sol lt c.requires.known c.requires.shape s w.zero.result e w.zero.ensures in
          subst P (sym w.below-is) (clear_step a own wide v b k d c.loop-k.invariant law sol lt c.requires.known c.requires.shape (g.S.Store.meaning w.write.new.self) s w.zero.result (is_ok w.write.result) e
          (sym w.if-not-contains.ensures) w.zero.ensures (ok_since w.write.result (w.write.ensures.answer ∙ t)) w.write.ensures.written)
      | else-not-contains w ↦
          subst P (sym w.below-is) (clear_skip a own wide v b k d c.loop-k.invariant (ap (within own) (sym e) ∙ sym w.if-not-contains.ensures))
    ]

pub returns-in_default : goal.returns-in_default
returns-in_default g c =
    let wide = extents_of c.args.wide.now in let k = c.loop-k.k in
    let lt : k < product wide = omega (arith, c.size-k-end.ensures, c.loop-k-test.true) in
    absurd (both_ways (ltb k (product wide)) (none_since (ltb k (product wide)) _ c.in_default.ensures) (lt-ltb k (product wide) lt))

pub returns : goal.returns
returns g c =
    clear_all g.K.Kind.algebra (extents_of c.args.own.now) (extents_of c.args.wide.now) c.args.v (g.S.Store.meaning c.args.below.now) c.loop-k.k (g.S.Store.meaning c.loop-k.below)
    (omega (arith, c.size-k-end.ensures, c.loop-k-test.false)) c.loop-k.invariant
