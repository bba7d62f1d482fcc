-- The rounded extents of a variable are a shape. Assumes nothing.
use Rattle.std.proofs.Common.{◌≡◌, ℕ, zero, suc, ◌≤◌, true, ◌&&◌, eqb, leb, List, [], ◌∷◌, length, take, drop, Some, None, refl, ap, ◌∙◌, arith}
use Rattle.std.proofs.lemmas.Bool.{and_parts, and_from, le-leb, cond-true}
use Rattle.std.proofs.lemmas.List.{length-take-le}
use Rattle.shapes.specs.declared.declaration.Declaration.{Declaration}
use Rattle.indices.specs.Places.{pick, has, each, proper}
use Rattle.refusals.specs.Refusals.{done}
use Rattle.shapes.specs.Shapes.{zeros, valid, declared_extents, shape_declared, rank_answer}
use Rattle.shapes.proofs.Asked.{done_since}
use Rattle.shapes.proofs.Extents.{proper_parts, proper_from, each_parts, valid_from}
use Rattle.stores.specs.Meaning.{Meaning, Lawful, Covers}
use Rattle.evaluation.proofs.Spans.{covers_length}

covers_each : (es rs : List ℕ) → Covers es rs → each es ≡ true → each rs ≡ true
covers_each [] [] c h = refl
covers_each [] (r ∷ rs) c h = absurd c
covers_each (e ∷ es) [] c h = absurd c
covers_each (e ∷ es) (r ∷ rs) c h =
    let p = each_parts e es h in
    let o = p.0 in
    let l = c.0 in
    and_from (leb 1 r && leb r 64) (each rs) (and_from (leb 1 r) (leb r 64) (le-leb 1 r (omega arith)) (le-leb r 64 c.1)) (covers_each es rs c.2 p.2)

module _ {E : Type 0} {z : E} (b : Meaning E) (law : Lawful z b) (v : ℕ) (h : has b.shapes v ≡ true) where
  pub reach_length : length (pick b.shapes v) ≡ length (pick b.reach v)
  reach_length = covers_length (pick b.shapes v) (pick b.reach v) (law.covers v h)

  pub reach_rank : length (pick b.reach v) ≤ 4
  reach_rank = let l = reach_length in let r = (proper_parts (pick b.shapes v) (law.shaped v h)).rank in omega arith

  pub reach_proper : proper (pick b.reach v) ≡ true
  reach_proper =
      let es = pick b.shapes v in
      let rs = pick b.reach v in
      proper_from rs (record { rank = reach_rank; extents = covers_each es rs (law.covers v h) (proper_parts es (law.shaped v h)).extents; places = law.places v h })

  pub reach_known : has b.reach v ≡ true
  reach_known = ap (λ n. leb 1 v && leb v n) law.count ∙ h

  -- the declaration of them is one
  pub reach_declared : (d : Declaration) → d.rank ≤ 4 → declared_extents d ≡ pick b.reach v → zeros (drop d.rank d.extents) ≡ true → shape_declared d ≡ Some (pick b.reach v)
  reach_declared d r e y = cond-true (valid d) (Some (declared_extents d)) None (valid_from d r (ap proper e ∙ reach_proper) y) ∙ ap Some e

pub zeros_drop : (es : List ℕ) (n : ℕ) → zeros es ≡ true → zeros (drop n es) ≡ true
zeros_drop es zero h = h
zeros_drop [] (suc n) h = h
zeros_drop (e ∷ es) (suc n) h = zeros_drop es n (and_parts (eqb e 0) (zeros es) h).1

-- what a store tells of a rank
module _ {E : Type 0} {z : E} (b : Meaning E) (law : Lawful z b) (v : ℕ) {r : ℕ} (e : done r ≡ rank_answer b.shapes v) where
  pub told_there : has b.shapes v ≡ true
  told_there = (done_since (has b.shapes v) r (length (pick b.shapes v)) 1 0 e).0

  pub told_rank : r ≡ length (pick b.reach v)
  told_rank = (done_since (has b.shapes v) r (length (pick b.shapes v)) 1 0 e).1 ∙ reach_length b law v told_there

  pub told_few : r ≤ 4
  told_few = let l = reach_rank b law v told_there in let n = told_rank in omega arith

  -- of four extents so many are set
  pub told_taken : length {A = ℕ} (take r (0 ∷ 0 ∷ 0 ∷ 0 ∷ [])) ≡ length (pick b.reach v)
  told_taken = length-take-le {A = ℕ} r (0 ∷ 0 ∷ 0 ∷ 0 ∷ []) told_few ∙ told_rank
