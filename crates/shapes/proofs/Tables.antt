-- Tables of shapes, and the numbers of places through all their variables. Assumes nothing.
use Rattle.std.proofs.Common.{◌≡◌, ℕ, zero, suc, ◌+◌, ◌-◌, ◌<◌, ◌≤◌, Bool, true, false, cond, ◌&&◌, leb, ◌⊎◌, List, [], ◌∷◌, ◌++◌, map, length, get_or, take, set, sym, refl, ap, ◌∙◌, subst, ⊎_elim, add-one, arith}
use Rattle.std.proofs.lemmas.Bool.{and_parts, and_from, and_left, and_right, leb-true, le-leb, lt-leb, cond-true, cases_order}
use Rattle.std.proofs.lemmas.List.{get_or-map, get_or-take, length-map, length-take-le, map_push, take_more_set}
use Rattle.shapes.specs.declared.shape.Shape.{Shape}
use Rattle.shapes.specs.declared.table.Table.{Table}
use Rattle.indices.specs.Places.{within, product, total, cell, proper, pick, at1, has}
use Rattle.refusals.specs.Refusals.{done, refused}
use Rattle.shapes.specs.Shapes.{extents_of, shapes_of, shape_answer, extent_answer, place_answer}
use Rattle.shapes.proofs.Numbering.{place_lt, place_same}

-- what a table holds
pub shapes_length : (t : Table) → length (shapes_of t) ≡ t.len
shapes_length t =
    let l : t.len ≤ length t.shapes = omega (arith, t.few, t.whole) in
    length-map (take t.len t.shapes) extents_of ∙ length-take-le t.len t.shapes l

pub shapes_at : (t : Table) (k : ℕ) (s : Shape) → k < t.len → s ≡ get_or t.shapes k s → get_or (shapes_of t) k [] ≡ extents_of s
shapes_at t k s h e =
    let l : t.len ≤ length t.shapes = omega (arith, t.few, t.whole) in
    let n = length-take-le t.len t.shapes l in
    get_or-map extents_of (take t.len t.shapes) k s [] (omega arith) ∙ ap extents_of (get_or-take t.len t.shapes k s h ∙ sym e)

-- the shape of number k among those that a table lists
pub listed : (ss : List (List ℕ)) (xs : List Shape) (k : ℕ) (s : Shape) → map extents_of xs ≡ ss → k < length xs → s ≡ get_or xs k s → extents_of s ≡ get_or ss k []
listed ss xs k s e l p = ap extents_of p ∙ sym (get_or-map extents_of xs k s [] l) ∙ ap (λ t. get_or t k []) e

pub shapes_added : (ss : List Shape) (n : ℕ) (s : Shape) → n < length ss → map extents_of (take (n + 1) (set ss n s)) ≡ map extents_of (take n ss) ++ extents_of s ∷ []
shapes_added ss n s h = ap (map extents_of) (take_more_set ss n s h) ∙ map_push extents_of (take n ss) s

proper_at : (ss : List Shape) (k : ℕ) → proper (get_or (map extents_of ss) k []) ≡ true
proper_at [] k = refl
proper_at (s ∷ ss) zero = s.sound
proper_at (s ∷ ss) (suc k) = proper_at ss k

pub proper_pick : (t : Table) (v : ℕ) → proper (pick (shapes_of t) v) ≡ true
proper_pick t zero = refl
proper_pick t (suc k) = proper_at (take t.len t.shapes) k

-- variables and dimensions count from 1
pub pick_at : (ss : List (List ℕ)) (v : ℕ) → 1 ≤ v → pick ss v ≡ get_or ss (v - 1) []
pick_at ss zero h = absurd (omega arith)
pick_at ss (suc n) h = let e : suc n - 1 ≡ n = omega arith in ap (λ k. get_or ss k []) (sym e)

pub pick_next : (ss : List (List ℕ)) (k : ℕ) → pick ss (k + 1) ≡ get_or ss k []
pick_next ss k = rw (add-one k)

pub at1_next : (es : List ℕ) (k : ℕ) → at1 es (k + 1) ≡ get_or es k 0
at1_next es k = rw (add-one k)

-- from 1 to n
pub counted : (n v : ℕ) → 1 ≤ v → v ≤ n → (leb 1 v && leb v n) ≡ true
counted n v a b = and_from (leb 1 v) (leb v n) (le-leb 1 v a) (le-leb v n b)

pub counted_parts : (n v : ℕ) → (leb 1 v && leb v n) ≡ true → (1 ≤ v) × (v ≤ n)
counted_parts n v h = let p = and_parts (leb 1 v) (leb v n) h in (leb-true 1 v p.0, leb-true v n p.1)

pub counted_not : (n v : ℕ) → (v < 1) ⊎ (n < v) → (leb 1 v && leb v n) ≡ false
counted_not n v h = ⊎_elim (λ l. and_left (leb 1 v) (leb v n) (lt-leb 1 v l)) (λ l. and_right (leb 1 v) (leb v n) (lt-leb v n l)) h

-- a shape and an extent that are asked for, and are there
pub shape_next : (ss : List (List ℕ)) (k : ℕ) → k < length ss → shape_answer ss (k + 1) ≡ done (get_or ss k [])
shape_next ss k l = cond-true (has ss (k + 1)) _ _ (counted (length ss) (k + 1) (omega arith) (omega arith)) ∙ ap done (pick_next ss k)

pub extent_next : (ss : List (List ℕ)) (v d : ℕ) → has ss v ≡ true → d < length (pick ss v) → extent_answer ss v (d + 1) ≡ done (get_or (pick ss v) d 0)
extent_next ss v d h l =
    let n = length (pick ss v) in
    cond-true (has ss v && (leb 1 (d + 1) && leb (d + 1) n)) _ _ (and_from (has ss v) (leb 1 (d + 1) && leb (d + 1) n) h (counted n (d + 1) (omega arith) (omega arith)))
    ∙ ap done (at1_next (pick ss v) d)

-- how many places there are up to a variable
pub total_more : (ss : List (List ℕ)) (k : ℕ) → k < length ss → total (take (k + 1) ss) ≡ total (take k ss) + product (get_or ss k [])
total_more [] k h = absurd (omega arith)
total_more (s ∷ ss) zero h = omega arith
total_more (s ∷ ss) (suc k) h =
    let e : suc k + 1 ≡ suc (k + 1) = omega arith in
    let q = total_more ss k (omega arith) in
    rw e (omega arith)

total_take : (ss : List (List ℕ)) (j k : ℕ) → j ≤ k → total (take j ss) ≤ total (take k ss)
total_take ss zero k h = omega arith
total_take [] (suc j) k h = omega arith
total_take (s ∷ ss) (suc j) zero h = absurd (omega arith)
total_take (s ∷ ss) (suc j) (suc k) h = let q = total_take ss j k (omega arith) in omega arith

total_all : (ss : List (List ℕ)) (k : ℕ) → total (take k ss) ≤ total ss
total_all ss zero = omega arith
total_all [] (suc k) = omega arith
total_all (s ∷ ss) (suc k) = let q = total_all ss k in omega arith

-- the number of a place through all variables
module _ (ss : List (List ℕ)) where
  -- a variable's places end where the next one's start
  cell_below : (v : ℕ) (i : List ℕ) → has ss v ≡ true → within (pick ss v) i ≡ true → cell ss v i < total (take v ss)
  cell_below v i h w =
      let p = counted_parts (length ss) v h in
      let q = total_more ss (v - 1) (omega arith) in
      let e : v - 1 + 1 ≡ v = omega arith in
      let r : total (take (v - 1 + 1) ss) ≡ total (take v ss) = ap (λ t. total (take t ss)) e in
      let s = ap product (pick_at ss v p.0) in
      let l = place_lt (pick ss v) i w in
      omega arith

  pub cell_lt : (v : ℕ) (i : List ℕ) → has ss v ≡ true → within (pick ss v) i ≡ true → cell ss v i < total ss
  cell_lt v i h w = let l = cell_below v i h w in omega (arith, total_all ss v)

  cell_apart : (v w : ℕ) (i j : List ℕ) → has ss v ≡ true → within (pick ss v) i ≡ true → v < w → cell ss v i < cell ss w j
  cell_apart v w i j h p l = let a = cell_below v i h p in omega (arith, total_take ss v (w - 1) (omega arith))

  cell_same : (v : ℕ) (i j : List ℕ) → within (pick ss v) i ≡ true → within (pick ss v) j ≡ true → cell ss v i ≡ cell ss v j → i ≡ j
  cell_same v i j p q e = place_same (pick ss v) i j p q (omega arith)

  -- two places have two numbers
  pub cell_other : (v w : ℕ) (i j : List ℕ) → has ss v ≡ true → within (pick ss v) i ≡ true → has ss w ≡ true → within (pick ss w) j ≡ true → (w ≡ v → j ≡ i → ⊥) → cell ss w j ≡ cell ss v i → ⊥
  cell_other v w i j h p k q ne e =
      ⊎_elim
      (λ (l : w ≡ v). ne l (cell_same v j i (subst (λ u. within (pick ss u) j ≡ true) l q) p (ap (λ u. cell ss u j) (sym l) ∙ e)))
      (⊎_elim (λ (l : w < v). let a = cell_apart w v j i k q l in omega arith) (λ (l : v < w). let a = cell_apart v w i j h p l in omega arith))
      (cases_order w v)

-- what it tells that a place was found
pub record Placed (ss : List (List ℕ)) (v : ℕ) (i : List ℕ) (k : ℕ) : Type 0 where
  pub known : has ss v ≡ true
  pub inside : within (pick ss v) i ≡ true
  pub number : k ≡ cell ss v i

pub placed : (ss : List (List ℕ)) (v : ℕ) (i : List ℕ) (k : ℕ) → done k ≡ place_answer ss v i → Placed ss v i k
placed ss v i k e = by (has ss v) (within (pick ss v) i) refl refl e
  where
    by : (h w : Bool) → has ss v ≡ h → within (pick ss v) i ≡ w → done k ≡ cond h (cond w (done (cell ss v i)) (refused 2 0)) (refused 1 0) → Placed ss v i k
    by true true p q e = record { known = p; inside = q; number = cc }
    by true false p q e = absurd (let z : ◌≡◌ {A = ℕ} 0 1 = cc in omega arith)
    by false w p q e = absurd (let z : ◌≡◌ {A = ℕ} 0 1 = cc in omega arith)
