use Rattle.std.proofs.Common.{◌≡◌, ◌<◌, ℕ, List, [], ◌∷◌, ◌++◌, length, get_or, take, drop, Some, None, refl, sym, ap, ◌∙◌, arith}
use Rattle.std.proofs.lemmas.List.{take_all, take_at, drop_at, take_more, take_more_set}
use Rattle.std.proofs.lemmas.Bool.{cond-true}
use Rattle.std.specs.Option.{option_map}
use Rattle.indices.specs.Places.{pick, has}
use Rattle.shapes.specs.Shapes.{zeros, extents_of}
use Rattle.shapes.proofs.Asked.{done_same}
use Rattle.shapes.proofs.Tables.{extent_next}
use Rattle.evaluation.proofs.Reached.{reach_known, reach_declared, told_there, told_rank, told_few, told_taken, zeros_drop}
use Rattle.evaluation.proofs.Unwrapped.{told_value, told_none}
use Rattle.evaluation.proofs.tray.reach_of.Goals as goal

pub returns-in_err-extent : goal.returns-in_err-extent
returns-in_err-extent g c =
    let b = g.S.Store.meaning c.args.s.now in let law = g.met.S.Store.lawful c.args.s.now in let v = c.args.v in
    let e = told_value c.rank.result c.rank.ensures (sym c.in_ok-rank.was ∙ c.ok.ensures.value) in
    let l : c.loop-d.d < length (pick b.reach v) = omega (arith, told_taken b law v e, c.loop-d-test.true) in
    told_none c.rounded.result c.rounded.ensures (sym c.in_err-extent.was ∙ c.ok-in-loop-d.ensures.value) (extent_next b.reach v c.loop-d.d (reach_known b law v (told_there b law v e)) l)

pub loop-d-preserved : goal.loop-d-preserved
loop-d-preserved g c =
    let b = g.S.Store.meaning c.args.s.now in let law = g.met.S.Store.lawful c.args.s.now in let v = c.args.v in
    let e = told_value c.rank.result c.rank.ensures (sym c.in_ok-rank.was ∙ c.ok.ensures.value) in
    let rs = pick b.reach v in let d = c.loop-d.d in let out = c.loop-d.extent-items in let r = c.in_ok-extent.field-0 in
    let l : d < length rs = omega (arith, told_taken b law v e, c.loop-d-test.true) in
    let x : r ≡ get_or rs d 0 = done_same _ _ _ (told_value c.rounded.result c.rounded.ensures (sym c.in_ok-extent.was ∙ c.ok-in-loop-d.ensures.value)) (extent_next b.reach v d (reach_known b law v (told_there b law v e)) l) in
    take_more_set out d r (omega (arith, c.loop-d-test.true, c.loop-d.auto.extent-items)) ∙ ap (λ t. t ++ r ∷ []) c.loop-d.invariant ∙ ap (λ t. take d rs ++ t ∷ []) x ∙ sym (take_more rs d 0 l)

pub returns : goal.returns
returns g c =
    let b = g.S.Store.meaning c.args.s.now in let law = g.met.S.Store.lawful c.args.s.now in let v = c.args.v in
    let e = told_value c.rank.result c.rank.ensures (sym c.in_ok-rank.was ∙ c.ok.ensures.value) in
    let rs = pick b.reach v in let d = c.loop-d.d in let out = c.loop-d.extent-items in let r = c.in_ok-rank.rank in
    let blank : List ℕ = 0 ∷ 0 ∷ 0 ∷ 0 ∷ [] in
    let few = told_few b law v e in let known = told_there b law v e in
    let n = told_taken b law v e in
    let full : out ≡ rs = sym (take_all d out (omega (arith, c.loop-d-test.false, c.loop-d.auto.extent-items))) ∙ c.loop-d.invariant ∙ take_all d rs (omega (arith, n, c.loop-d-test.false)) in
    let m : length out ≡ r = omega (arith, n, told_rank b law v e, c.loop-d.auto.extent-items) in
    ap (option_map extents_of) c.ok-2.ensures.value ∙ c.try_from.ensures
    ∙ reach_declared b law v known (record { rank = r; extents = out ++ drop r blank }) few (take_at out (drop r blank) r m ∙ full) (ap zeros (drop_at out (drop r blank) r m) ∙ zeros_drop blank r refl)
    ∙ sym (cond-true (has b.shapes v) (Some rs) None known)
