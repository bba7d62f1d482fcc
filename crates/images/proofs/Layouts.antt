-- What the questions about a buffer come to: its parts lie after the pairs and apart, and every cell holds a code. Assumes nothing.
use Rattle.std.proofs.Common.{◌≡◌, ℕ, zero, suc, ◌+◌, ◌-◌, ◌*◌, ◌<◌, ◌≤◌, Bool, true, false, cond, ◌&&◌, eqb, leb, List, [], ◌∷◌, length, get_or, drop, sym, refl, ap, ◌∙◌, subst, arith}
use Rattle.std.proofs.lemmas.List.{at_drop_more}
use Rattle.std.proofs.lemmas.Bool.{and_parts, cond-true, leb-true, eqb-true, false≢true}
use Rattle.elements.specs.Algebra.{Algebra}
use Rattle.indices.specs.Places.{product, pick, has}
use Rattle.refusals.specs.Refusals.{Answer, done, refused, and_then}
use Rattle.shapes.proofs.Asked.{done_since}
use Rattle.shapes.proofs.Tables.{counted_parts}
use Rattle.shapes.specs.declared.declaration.Declaration.{Declaration}
use Rattle.shapes.specs.Shapes.{declared}
use Rattle.images.specs.Image.{image_answer}
use Rattle.images.specs.Layout.{headed, offset, size, paired, pairs_from, pairs, coded, codes_of, codes_from, codes, Laid}

-- a question that was answered, and the one after it
done_if : (b : Bool) (n p : ℕ) (rest : Answer Unit) → cond b rest (refused n p) ≡ done (tt {0}) → (b ≡ true) × (rest ≡ done tt)
done_if true n p rest e = (refl, e)
done_if false n p rest e = absurd (let z : ◌≡◌ {A = ℕ} 0 1 = cc in omega arith)

done_then : (first second : Answer Unit) → and_then first (λ _. second) ≡ done (tt {0}) → (first ≡ done tt) × (second ≡ done tt)
done_then (done u) second e = (refl, e)
done_then (refused n p) second e = absurd (let z : ◌≡◌ {A = ℕ} 0 1 = cc in omega arith)

-- pair v, for a shape s, after the part that ends at `end`
pub record Pair (bs : List ℕ) (v end : ℕ) (s : List ℕ) : Type 0 where
  pub room : 8 * v + 4 ≤ length bs
  pub after : end ≤ offset bs v
  pub exact : size bs v ≡ 8 * product s
  pub inside : offset bs v + size bs v ≤ length bs

pair_parts : (bs : List ℕ) (v end : ℕ) (s : List ℕ) → paired bs v end s ≡ true → Pair bs v end s
pair_parts bs v end s h =
    let o = offset bs v in let z = size bs v in
    let p = and_parts (leb (8 * v + 4) (length bs)) (leb end o && (eqb z (8 * product s) && leb (o + z) (length bs))) h in
    let q = and_parts (leb end o) (eqb z (8 * product s) && leb (o + z) (length bs)) p.1 in
    let r = and_parts (eqb z (8 * product s)) (leb (o + z) (length bs)) q.1 in
    record {
      room = leb-true (8 * v + 4) (length bs) p.0;
      after = leb-true end o q.0;
      exact = eqb-true z (8 * product s) r.0;
      inside = leb-true (o + z) (length bs) r.1;
    }

-- the part of the k-th shape of a list, v being the number of the first
after_done : (bs : List ℕ) (v end : ℕ) (ss : List (List ℕ)) → pairs_from bs v end ss ≡ done (tt {0}) → (k : ℕ) → k < length ss → end ≤ offset bs (v + k)
after_done bs v end [] e k h = absurd (omega arith)
after_done bs v end (s ∷ ss) e zero h =
    let p = pair_parts bs v end s (done_if (paired bs v end s) 7 v _ e).0 in
    let z : v ≡ v + 0 = omega arith in
    omega (arith, p.after, ap (offset bs) z)
after_done bs v end (s ∷ ss) e (suc k) h =
    let d = done_if (paired bs v end s) 7 v _ e in
    let p = pair_parts bs v end s d.0 in
    let z : v + 1 + k ≡ v + suc k = omega arith in
    omega (arith, p.after, after_done bs (v + 1) (offset bs v + size bs v) ss d.1 k (omega arith), ap (offset bs) z)

pub inside_done : (bs : List ℕ) (v end : ℕ) (ss : List (List ℕ)) → pairs_from bs v end ss ≡ done (tt {0}) → (k : ℕ) → k < length ss → (8 * (v + k) + 4 ≤ length bs) × (offset bs (v + k) + 8 * product (get_or ss k []) ≤ length bs)
inside_done bs v end [] e k h = absurd (omega arith)
inside_done bs v end (s ∷ ss) e zero h =
    let p = pair_parts bs v end s (done_if (paired bs v end s) 7 v _ e).0 in
    let z : v ≡ v + 0 = omega arith in
    (omega (arith, p.room), omega (arith, p.inside, p.exact, ap (offset bs) z))
inside_done bs v end (s ∷ ss) e (suc k) h =
    let d = done_if (paired bs v end s) 7 v _ e in
    let r = inside_done bs (v + 1) (offset bs v + size bs v) ss d.1 k (omega arith) in
    let z : v + 1 + k ≡ v + suc k = omega arith in
    (omega (arith, r.0), omega (arith, r.1, ap (offset bs) z))

apart_done : (bs : List ℕ) (v end : ℕ) (ss : List (List ℕ)) → pairs_from bs v end ss ≡ done (tt {0}) → (k j : ℕ) → k < j → j < length ss → offset bs (v + k) + 8 * product (get_or ss k []) ≤ offset bs (v + j)
apart_done bs v end [] e k j l h = absurd (omega arith)
apart_done bs v end (s ∷ ss) e k zero l h = absurd (omega arith)
apart_done bs v end (s ∷ ss) e zero (suc j) l h =
    let d = done_if (paired bs v end s) 7 v _ e in
    let p = pair_parts bs v end s d.0 in
    let r = after_done bs (v + 1) (offset bs v + size bs v) ss d.1 j (omega arith) in
    let y : v + 0 ≡ v = omega arith in
    let z : v + 1 + j ≡ v + suc j = omega arith in
    omega (arith, r, p.exact, ap (offset bs) y, ap (offset bs) z)
apart_done bs v end (s ∷ ss) e (suc k) (suc j) l h =
    let d = done_if (paired bs v end s) 7 v _ e in
    let r = apart_done bs (v + 1) (offset bs v + size bs v) ss d.1 k j (omega arith) (omega arith) in
    let y : v + 1 + k ≡ v + suc k = omega arith in
    let z : v + 1 + j ≡ v + suc j = omega arith in
    omega (arith, r, ap (offset bs) y, ap (offset bs) z)

module _ {E : Type 0} (a : Algebra E) (bs : List ℕ) where
  pub part_done : (at p m : ℕ) → codes_of a bs at p m ≡ done (tt {0}) → (n : ℕ) → n < m → coded a bs (at + 8 * n) ≡ true
  part_done at p zero e n h = absurd (omega arith)
  part_done at p (suc m) e zero h =
      let z : at ≡ at + 8 * 0 = omega arith in ap (coded a bs) (sym z) ∙ (done_if (coded a bs at) 8 p _ e).0
  part_done at p (suc m) e (suc n) h =
      let z : at + 8 + 8 * n ≡ at + 8 * suc n = omega arith in
      ap (coded a bs) (sym z) ∙ part_done (at + 8) (p + 1) m (done_if (coded a bs at) 8 p _ e).1 n (omega arith)

  pub codes_done : (v p : ℕ) (ss : List (List ℕ)) → codes_from a bs v p ss ≡ done (tt {0}) → (k n : ℕ) → k < length ss → n < product (get_or ss k []) → coded a bs (offset bs (v + k) + 8 * n) ≡ true
  codes_done v p [] e k n h l = absurd (omega arith)
  codes_done v p (s ∷ ss) e zero n h l =
      let d = done_then (codes_of a bs (offset bs v) p (product s)) _ e in
      let z : v ≡ v + 0 = omega arith in
      ap (λ u. coded a bs (offset bs u + 8 * n)) (sym z) ∙ part_done (offset bs v) p (product s) d.0 n l
  codes_done v p (s ∷ ss) e (suc k) n h l =
      let d = done_then (codes_of a bs (offset bs v) p (product s)) _ e in
      let z : v + 1 + k ≡ v + suc k = omega arith in
      ap (λ u. coded a bs (offset bs u + 8 * n)) (sym z) ∙ codes_done (v + 1) (p + product s) ss d.1 k n (omega arith) l

-- both questions answered, the buffer is laid out as it should be
module _ {E : Type 0} (a : Algebra E) (bs : List ℕ) (ss : List (List ℕ)) (p : pairs bs ss ≡ done (tt {0})) (q : codes a bs ss ≡ done (tt {0})) where
  known : (k : ℕ) → has ss (suc k) ≡ true → k < length ss
  known k h = (counted_parts (length ss) (suc k) h).1

  at_one : (k : ℕ) → offset bs (1 + k) ≡ offset bs (suc k)
  at_one k = let e : 1 + k ≡ suc k = omega arith in ap (offset bs) e

  after_all : (v : ℕ) → has ss v ≡ true → 8 * length ss + 4 ≤ offset bs v
  after_all zero h = absurd (false≢true h)
  after_all (suc k) h = omega (arith, after_done bs 1 (8 * length ss + 4) ss p k (known k h), at_one k)

  inside_all : (v : ℕ) → has ss v ≡ true → offset bs v + 8 * product (pick ss v) ≤ length bs
  inside_all zero h = absurd (false≢true h)
  inside_all (suc k) h = omega (arith, (inside_done bs 1 (8 * length ss + 4) ss p k (known k h)).1, at_one k)

  apart_all : (v w : ℕ) → has ss v ≡ true → has ss w ≡ true → v < w → offset bs v + 8 * product (pick ss v) ≤ offset bs w
  apart_all zero w h g l = absurd (false≢true h)
  apart_all (suc k) zero h g l = absurd (false≢true g)
  apart_all (suc k) (suc j) h g l = omega (arith, apart_done bs 1 (8 * length ss + 4) ss p k j (omega arith) (known j g), at_one k, at_one j)

  cells_all : (v n : ℕ) → has ss v ≡ true → n < product (pick ss v) → coded a bs (offset bs v + 8 * n) ≡ true
  cells_all zero n h l = absurd (false≢true h)
  cells_all (suc k) n h l = ap (λ o. coded a bs (o + 8 * n)) (sym (at_one k)) ∙ codes_done a bs 1 1 ss q k n (known k h) l

  pub laid : Laid a ss bs
  laid = record { after = after_all; inside = inside_all; apart = apart_all; cells = cells_all }

-- a buffer that was opened is laid out so
pub opened_laid : {E : Type 0} (a : Algebra E) (ds : List Declaration) (bs : List ℕ) (ss : List (List ℕ)) → done ss ≡ image_answer a ds bs → Laid a ss bs
opened_laid a ds bs ss e = by_shapes (declared ds) e
  where
    by_codes : (ts : List (List ℕ)) (p q : Answer Unit) → pairs bs ts ≡ p → codes a bs ts ≡ q → done ss ≡ and_then p (λ _. and_then q (λ _. done ts)) → Laid a ss bs
    by_codes ts (done u) (done w) p q e = let f : ts ≡ ss = cc in subst (λ t. Laid a t bs) f (laid a bs ts p q)
    by_codes ts (done u) (refused n k) p q e = absurd (let z : ◌≡◌ {A = ℕ} 0 1 = cc in omega arith)
    by_codes ts (refused n k) q p r e = absurd (let z : ◌≡◌ {A = ℕ} 0 1 = cc in omega arith)

    by_header : (ts : List (List ℕ)) (b : Bool) → done ss ≡ cond b (and_then (pairs bs ts) (λ _. and_then (codes a bs ts) (λ _. done ts))) (refused 6 0) → Laid a ss bs
    by_header ts true e = by_codes ts (pairs bs ts) (codes a bs ts) refl refl e
    by_header ts false e = absurd (let z : ◌≡◌ {A = ℕ} 0 1 = cc in omega arith)

    by_shapes : (d : Answer (List (List ℕ))) → done ss ≡ and_then d (λ ts. cond (headed a.number (length ts) bs) (and_then (pairs bs ts) (λ _. and_then (codes a bs ts) (λ _. done ts))) (refused 6 0)) → Laid a ss bs
    by_shapes (done ts) e = by_header ts (headed a.number (length ts) bs) e
    by_shapes (refused n k) e = absurd (let z : ◌≡◌ {A = ℕ} 0 1 = cc in omega arith)

-- a loop's step at shape k, which is s: its pair was looked at
module _ (bs : List ℕ) (ss : List (List ℕ)) (k end : ℕ) (l : k < length ss) where
  pairs_more : (s : List ℕ) → s ≡ get_or ss k [] → pairs_from bs (k + 1) end (drop k ss) ≡ cond (paired bs (k + 1) end s) (pairs_from bs (k + 1 + 1) (offset bs (k + 1) + size bs (k + 1)) (drop (k + 1) ss)) (refused 7 (k + 1))
  pairs_more s e = rw e (at_drop_more (pairs_from bs (k + 1) end) ss k [] l)

  pub pair_found : (s : List ℕ) (n : ℕ) → s ≡ get_or ss k [] → done n ≡ cond (paired bs (k + 1) end s) (done (offset bs (k + 1) + size bs (k + 1))) (refused 7 (k + 1)) → pairs_from bs (k + 1 + 1) n (drop (k + 1) ss) ≡ pairs_from bs (k + 1) end (drop k ss)
  pair_found s n e f =
      let p = done_since (paired bs (k + 1) end s) n _ _ _ f in
      ap (λ t. pairs_from bs (k + 1 + 1) t (drop (k + 1) ss)) p.1 ∙ sym (pairs_more s e ∙ cond-true (paired bs (k + 1) end s) _ _ p.0)

  pub pair_refused : (s : List ℕ) (n p : ℕ) → s ≡ get_or ss k [] → refused n p ≡ cond (paired bs (k + 1) end s) (done (offset bs (k + 1) + size bs (k + 1))) (refused 7 (k + 1)) → refused n p ≡ pairs_from bs (k + 1) end (drop k ss)
  pair_refused s n p e f = by (paired bs (k + 1) end s) f (sym (pairs_more s e))
    where
      by : (b : Bool) → ◌≡◌ {A = Answer ℕ} (refused n p) (cond b (done (offset bs (k + 1) + size bs (k + 1))) (refused 7 (k + 1))) → cond b (pairs_from bs (k + 1 + 1) (offset bs (k + 1) + size bs (k + 1)) (drop (k + 1) ss)) (refused 7 (k + 1)) ≡ pairs_from bs (k + 1) end (drop k ss) → refused n p ≡ pairs_from bs (k + 1) end (drop k ss)
      by true f g = absurd (let z : ◌≡◌ {A = ℕ} 0 1 = cc in omega arith)
      by false f g = cc

pub codes_more : {E : Type 0} (a : Algebra E) (bs : List ℕ) (ss : List (List ℕ)) (k p : ℕ) → k < length ss → codes_from a bs (k + 1) p (drop k ss) ≡ and_then (codes_of a bs (offset bs (k + 1)) p (product (get_or ss k []))) (λ _. codes_from a bs (k + 1 + 1) (p + product (get_or ss k [])) (drop (k + 1) ss))
codes_more a bs ss k p h = at_drop_more (codes_from a bs (k + 1) p) ss k [] h

pub cells_more : {E : Type 0} (a : Algebra E) (bs : List ℕ) (at p m n : ℕ) → n < m → codes_of a bs (at + 8 * n) (p + n) (m - n) ≡ cond (coded a bs (at + 8 * n)) (codes_of a bs (at + 8 * (n + 1)) (p + (n + 1)) (m - (n + 1))) (refused 8 (p + n))
cells_more a bs at p m n h =
    let e : m - n ≡ suc (m - (n + 1)) = omega arith in
    let f : at + 8 * n + 8 ≡ at + 8 * (n + 1) = omega arith in
    let g : p + n + 1 ≡ p + (n + 1) = omega arith in
    ap (codes_of a bs (at + 8 * n) (p + n)) e
    ∙ ap (λ t. cond (coded a bs (at + 8 * n)) (codes_of a bs t (p + n + 1) (m - (n + 1))) (refused 8 (p + n))) f
    ∙ ap (λ t. cond (coded a bs (at + 8 * n)) (codes_of a bs (at + 8 * (n + 1)) t (m - (n + 1))) (refused 8 (p + n))) g
