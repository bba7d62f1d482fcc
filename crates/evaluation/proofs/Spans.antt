-- How far the dimensions of an expression that has a type go. Assumes nothing.
use Rattle.std.proofs.Common.{◌≡◌, ℕ, zero, suc, ◌≤◌, true, ◌&&◌, leb, List, [], ◌∷◌, length, sym, refl, ap, ◌∙◌, subst, arith}
use Rattle.std.proofs.lemmas.Bool.{and_parts, and_from, leb-true, le-leb, false≢true}
use Rattle.indices.specs.Dimensions.{exchanged, removed, Each2}
use Rattle.indices.specs.Places.{pick, at1, has, within, each}
use Rattle.shapes.proofs.Extents.{proper_parts, each_parts}
use Rattle.indices.proofs.Within.{each2_length, each2_append, each2_exchanged, each2_removed, each2_at, each2_unique}
use Rattle.sheets.specs.Language.{Expr, Operation, plus, minus, times, over, Typed, of_variable, of_outer_product, element_by_element, scalar_times, divided_by_scalar, of_transposition, of_contraction}
use Rattle.stores.specs.Meaning.{Meaning, Lawful, Covers, dimension}
use Rattle.evaluation.specs.Value.{wider, spans, seen}

-- r is the rounded extent of e: some variable has a dimension with both
pub record Rounds {E : Type 0} (b : Meaning E) (e r : ℕ) : Type 0 where
  pub v : ℕ
  pub d : ℕ
  pub there : dimension b.shapes v d ≡ true
  pub extent : at1 (pick b.shapes v) d ≡ e
  pub rounded : at1 (pick b.reach v) d ≡ r

each2_from : (R : ℕ → ℕ → Type 0) (xs ys : List ℕ) → length xs ≡ length ys → ((d : ℕ) → 1 ≤ d → d ≤ length xs → R (at1 xs d) (at1 ys d)) → Each2 R xs ys
each2_from R [] [] l f = tt
each2_from R [] (y ∷ ys) l f = absurd (omega arith)
each2_from R (x ∷ xs) [] l f = absurd (omega arith)
each2_from R (x ∷ xs) (y ∷ ys) l f = (f 1 (omega arith) (omega arith), each2_from R xs ys (omega arith) (λ d p q. later d p q))
  where
    later : (d : ℕ) → 1 ≤ d → d ≤ length xs → R (at1 xs d) (at1 ys d)
    later zero p q = absurd (omega arith)
    later (suc d) p q = f (suc (suc d)) (omega arith) (omega arith)

pub covers_length : (es rs : List ℕ) → Covers es rs → length es ≡ length rs
covers_length [] [] h = refl
covers_length [] (r ∷ rs) h = absurd h
covers_length (e ∷ es) [] h = absurd h
covers_length (e ∷ es) (r ∷ rs) h = ap suc (covers_length es rs h.2)

covers_at : (es rs : List ℕ) (d : ℕ) → Covers es rs → 1 ≤ d → d ≤ length es → (at1 es d ≤ at1 rs d) × (at1 rs d ≤ 64)
covers_at es rs zero h p q = absurd (omega arith)
covers_at [] rs (suc d) h p q = absurd (omega arith)
covers_at (e ∷ es) [] (suc d) h p q = absurd h
covers_at (e ∷ es) (r ∷ rs) (suc zero) h p q = (h.0, h.1)
covers_at (e ∷ es) (r ∷ rs) (suc (suc d)) h p q = covers_at es rs (suc d) h.2 (omega arith) (omega arith)

each_one : (es : List ℕ) (d : ℕ) → each es ≡ true → 1 ≤ d → d ≤ length es → 1 ≤ at1 es d
each_one es zero h p q = absurd (omega arith)
each_one [] (suc d) h p q = absurd (omega arith)
each_one (e ∷ es) (suc zero) h p q = (each_parts e es h).0
each_one (e ∷ es) (suc (suc d)) h p q = each_one es (suc d) (each_parts e es h).2 (omega arith) (omega arith)

either_of : (R : ℕ → ℕ → Type 0) (op : Operation) (s u w : List ℕ) → Each2 R s u → Each2 R s w → Each2 R s (wider op u w)
either_of R plus s u w p q = p
either_of R minus s u w p q = p
either_of R times s u w p q = q
either_of R over s u w p q = p

pub wider_same : (op : Operation) (s : List ℕ) → wider op s s ≡ s
wider_same plus s = refl
wider_same minus s = refl
wider_same times s = refl
wider_same over s = refl

-- with the extents as limits, an expression goes as far as its type says
pub spans_type : {ss : List (List ℕ)} {e : Expr} {s : List ℕ} → Typed ss e s → spans ss e ≡ s
unfolding spans
spans_type (of_variable h) = refl
spans_type (of_outer_product p q) = let x = spans_type p in let y = spans_type q in cc
spans_type {ss} (element_by_element {op = op} {x = x} {y = y} {s = s} p q) =
    ap (λ u. wider op u (spans ss y)) (spans_type p) ∙ ap (wider op s) (spans_type q) ∙ wider_same op s
spans_type (scalar_times p q) = spans_type q
spans_type (divided_by_scalar p q) = spans_type p
spans_type (of_transposition {m = m} {n = n} p h) = ap (exchanged m n) (spans_type p)
spans_type (of_contraction {m = m} {n = n} p h e) = ap (removed m n) (spans_type p)

module _ {E : Type 0} {z : E} (b : Meaning E) (law : Lawful z b) where
  pub rounds_unique : (e r t : ℕ) → Rounds b e r → Rounds b e t → r ≡ t
  rounds_unique e r t p q = sym p.rounded ∙ law.alike p.v q.v p.d q.d p.there q.there (p.extent ∙ sym q.extent) ∙ q.rounded

  pub rounds_bounds : (e r : ℕ) → Rounds b e r → (1 ≤ e) × (e ≤ r) × (r ≤ 64)
  rounds_bounds e r p =
      let es = pick b.shapes p.v in
      let rs = pick b.reach p.v in
      let t = and_parts (has b.shapes p.v) (leb 1 p.d && leb p.d (length es)) p.there in
      let u = and_parts (leb 1 p.d) (leb p.d (length es)) t.1 in
      let f = leb-true 1 p.d u.0 in
      let l = leb-true p.d (length es) u.1 in
      let c = covers_at es rs p.d (law.covers p.v t.0) f l in
      let o = each_one es p.d (proper_parts es (law.shaped p.v t.0)).extents f l in
      let x = p.extent in
      let y = p.rounded in
      let g = c.0 in
      let h = c.1 in
      (omega arith, omega arith, omega arith)

  variable_rounds : (v : ℕ) → has b.shapes v ≡ true → Each2 (Rounds b) (pick b.shapes v) (pick b.reach v)
  variable_rounds v h =
      let es = pick b.shapes v in
      each2_from (Rounds b) es (pick b.reach v) (covers_length es (pick b.reach v) (law.covers v h))
      (λ d f l. record {
        v = v;
        d = d;
        there = and_from (has b.shapes v) (leb 1 d && leb d (length es)) h (and_from (leb 1 d) (leb d (length es)) (le-leb 1 d f) (le-leb d (length es) l));
        extent = refl;
        rounded = refl;
      })

  -- over a store it goes as far as the rounded extents of its type
  pub typed_rounds : {e : Expr} {s : List ℕ} → Typed b.shapes e s → Each2 (Rounds b) s (spans b.reach e)
  unfolding spans
  typed_rounds (of_variable {v = v} h) = variable_rounds v h
  typed_rounds (of_outer_product {x = x} {y = y} {s = s} {t = t} p q) = each2_append (Rounds b) s t (spans b.reach x) (spans b.reach y) (typed_rounds p) (typed_rounds q)
  typed_rounds (element_by_element {op = op} {x = x} {y = y} {s = s} p q) = either_of (Rounds b) op s (spans b.reach x) (spans b.reach y) (typed_rounds p) (typed_rounds q)
  typed_rounds (scalar_times p q) = typed_rounds q
  typed_rounds (divided_by_scalar p q) = typed_rounds p
  typed_rounds (of_transposition {m = m} {n = n} {x = x} {s = s} p h) = each2_exchanged (Rounds b) m n s (spans b.reach x) h (typed_rounds p)
  typed_rounds (of_contraction {m = m} {n = n} {x = x} {s = s} p h e) = each2_removed (Rounds b) m n s (spans b.reach x) (typed_rounds p)

  pub spans_length : {e : Expr} {s : List ℕ} → Typed b.shapes e s → length s ≡ length (spans b.reach e)
  spans_length {e} {s} t = each2_length (Rounds b) s (spans b.reach e) (typed_rounds t)

  -- expressions of one type go equally far
  pub spans_same : {x y : Expr} {s : List ℕ} → Typed b.shapes x s → Typed b.shapes y s → spans b.reach x ≡ spans b.reach y
  spans_same {x} {y} {s} p q = each2_unique (Rounds b) rounds_unique s (spans b.reach x) (spans b.reach y) (typed_rounds p) (typed_rounds q)

  -- what is in shape is in reach
  wide : (s r i : List ℕ) → Each2 (Rounds b) s r → within s i ≡ true → within r i ≡ true
  wide [] [] [] t h = refl
  wide [] [] (c ∷ cs) t h = h
  wide [] (r ∷ rs) i t h = absurd t
  wide (e ∷ es) [] i t h = absurd t
  wide (e ∷ es) (r ∷ rs) [] t h = h
  wide (e ∷ es) (r ∷ rs) (c ∷ cs) t h =
      let p = and_parts (leb 1 c && leb c e) (within es cs) h in
      let q = and_parts (leb 1 c) (leb c e) p.0 in
      let g = (rounds_bounds e r t.0).1 in
      let k = leb-true c e q.1 in
      and_from (leb 1 c && leb c r) (within rs cs) (and_from (leb 1 c) (leb c r) q.0 (le-leb c r (omega arith))) (wide es rs cs t.1 p.1)

  pub shape_reached : {e : Expr} {s : List ℕ} → Typed b.shapes e s → (i : List ℕ) → within s i ≡ true → within (spans b.reach e) i ≡ true
  shape_reached {e} {s} t i h = wide s (spans b.reach e) i (typed_rounds t) h

  -- the extent of a dimension, and its rounded one
  pub limit_bounds : {e : Expr} {s : List ℕ} → Typed b.shapes e s → (d : ℕ) → 1 ≤ d → d ≤ length s → (1 ≤ at1 s d) × (at1 s d ≤ at1 (spans b.reach e) d) × (at1 (spans b.reach e) d ≤ 64)
  limit_bounds {e} {s} t d f l = rounds_bounds (at1 s d) (at1 (spans b.reach e) d) (each2_at (Rounds b) s (spans b.reach e) d (typed_rounds t) f l)

  -- dimensions with one extent have one rounded extent
  pub limit_same : {e : Expr} {s : List ℕ} → Typed b.shapes e s → (d c : ℕ) → 1 ≤ d → d ≤ length s → 1 ≤ c → c ≤ length s → at1 s d ≡ at1 s c → at1 (spans b.reach e) d ≡ at1 (spans b.reach e) c
  limit_same {e} {s} t d c f l g k h =
      let r = spans b.reach e in
      rounds_unique (at1 s d) (at1 r d) (at1 r c) (each2_at (Rounds b) s r d (typed_rounds t) f l) (subst (λ x. Rounds b x (at1 r c)) (sym h) (each2_at (Rounds b) s r c (typed_rounds t) g k))

-- an index within some extents is seen as it is
pub seen_self : (s i : List ℕ) → within s i ≡ true → seen s i ≡ i
seen_self [] [] h = refl
seen_self [] (c ∷ cs) h = absurd (false≢true h)
seen_self (e ∷ es) i h = refl

-- it does so whether the limits are rounded or not
pub seen_alike : (s t i : List ℕ) → length s ≡ length t → seen s i ≡ seen t i
seen_alike [] [] i e = refl
seen_alike [] (y ∷ t) i e = absurd (omega arith)
seen_alike (x ∷ s) [] i e = absurd (omega arith)
seen_alike (x ∷ s) (y ∷ t) i e = refl
