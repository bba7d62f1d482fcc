-- The law of padding. Assumes nothing.
use Rattle.std.proofs.Common.{◌≡◌, ℕ, zero, suc, ◌+◌, ◌-◌, ◌<◌, ◌≤◌, Bool, true, false, ◌⊎◌, List, [], ◌∷◌, ◌++◌, length, take, drop, sym, refl, ap, ◌∙◌, subst, inl, inr, ⊎_elim, arith}
use Rattle.std.proofs.lemmas.Bool.{and_from, and_right, both_ways}
use Rattle.elements.specs.Algebra.{Algebra, Laws, total}
use Rattle.indices.specs.Dimensions.{two_of, exchanged, removed, inserted}
use Rattle.indices.specs.Places.{pick, at1, has, within}
use Rattle.indices.proofs.Within.{two_parts, within_parts, within_join, within_exchanged, within_exchanged_back, within_inserted, within_removed}
use Rattle.sheets.specs.Language.{Expr, Operation, plus, minus, times, over, Typed, pointwise, of_variable, of_outer_product, element_by_element, scalar_times, divided_by_scalar, of_transposition, of_contraction}
use Rattle.stores.specs.Meaning.{Meaning, Lawful}
use Rattle.evaluation.specs.Law.{Shows, Law}
use Rattle.evaluation.specs.Value.{applied, wider, spans, seen, value}
use Rattle.evaluation.proofs.Spans.{spans_type, wider_same, spans_length, spans_same, shape_reached, limit_bounds, limit_same, seen_self, seen_alike}

-- sums: of equal values, and of zeros past the limit
module _ {E : Type 0} (a : Algebra E) (f g : ℕ → E) where
  total_same : (n : ℕ) → ((l : ℕ) → 1 ≤ l → l ≤ n → f l ≡ g l) → total a f n ≡ total a g n
  total_same zero h = refl
  total_same (suc n) h = let p = total_same n (λ l u v. h l u (omega arith)) in let q = h (suc n) (omega arith) (omega arith) in cc

module _ {E : Type 0} (a : Algebra E) (laws : Laws a) (f : ℕ → E) where
  total_past : (n k r : ℕ) → r ≡ k + n → ((l : ℕ) → n < l → l ≤ r → f l ≡ a.zero) → total a f r ≡ total a f n
  total_past n zero r e h = let q : r ≡ n = omega arith in ap (total a f) q
  total_past n (suc k) zero e h = absurd (omega arith)
  total_past n (suc k) (suc r) e h =
      ap (a.plus (total a f r)) (h (suc r) (omega arith) (omega arith)) ∙ laws.plus_zero (total a f r) ∙ total_past n k r (omega arith) (λ l u v. h l u (omega arith))

  pub total_zero : (r : ℕ) → ((l : ℕ) → 1 ≤ l → l ≤ r → f l ≡ a.zero) → total a f r ≡ a.zero
  total_zero r h = total_past 0 r r (omega arith) (λ l u v. h l (omega arith) v)

pub total_cut : {E : Type 0} (a : Algebra E) (laws : Laws a) (f g : ℕ → E) (n r : ℕ) → n ≤ r → ((l : ℕ) → 1 ≤ l → l ≤ n → f l ≡ g l) → ((l : ℕ) → n < l → l ≤ r → f l ≡ a.zero) → total a f r ≡ total a g n
total_cut a laws f g n r h p q = total_past a laws f n (r - n) r (omega arith) q ∙ total_same a f g n p

module _ {E : Type 0} (a : Algebra E) (laws : Laws a) where
  both_zero : (op : Operation) (x y : E) → x ≡ a.zero → y ≡ a.zero → applied a op x y ≡ a.zero
  both_zero plus x y p q = ap (a.plus x) q ∙ laws.plus_zero x ∙ p
  both_zero minus x y p q = ap (a.minus x) q ∙ ap (λ t. a.minus t a.zero) p ∙ laws.zero_minus_zero
  both_zero times x y p q = ap (a.times x) q ∙ laws.times_zero x
  both_zero over x y p q = ap (λ t. a.over t y) p ∙ laws.zero_over y

  either_zero : (x y : E) → (x ≡ a.zero) ⊎ (y ≡ a.zero) → a.times x y ≡ a.zero
  either_zero x y h = ⊎_elim (λ p. ap (λ t. a.times t y) p ∙ laws.zero_times y) (λ p. ap (a.times x) p ∙ laws.times_zero x) h

not_true : {A : Type 0} (b : Bool) → b ≡ false → b ≡ true → A
not_true b p q = absurd (both_ways b p q)

-- an index that is not in a joined shape is not in one of the two
outer_outside : (s t i : List ℕ) (n : ℕ) → length s ≡ n → within (s ++ t) i ≡ false → (within s (take n i) ≡ false) ⊎ (within t (drop n i) ≡ false)
outer_outside s t i n l o = by (within s (take n i)) (within t (drop n i)) refl refl
  where
    by : (x y : Bool) → within s (take n i) ≡ x → within t (drop n i) ≡ y → (within s (take n i) ≡ false) ⊎ (within t (drop n i) ≡ false)
    by false y p q = inl p
    by true false p q = inr q
    by true true p q =
        not_true (within (s ++ t) i) o
        (within_join s t i (subst (λ k. within s (take k i) ≡ true) (sym l) p) (subst (λ k. within t (drop k i) ≡ true) (sym l) q))

not_within : (b : Bool) → (b ≡ true → ⊥) → b ≡ false
not_within true n = absurd (n refl)
not_within false n = refl

empty : (s : List ℕ) → 0 ≡ length s → s ≡ []
empty [] e = refl
empty (c ∷ cs) e = absurd (omega arith)

module _ {E : Type 0} {z : E} (b : Meaning E) (law : Lawful z b) where
  -- where an operation element by element goes, each operand goes that is no scalar
  each_reached : (op : Operation) {x y : Expr} {s : List ℕ} → Typed b.shapes x s → Typed b.shapes y s → (i : List ℕ) → within (wider op (spans b.reach x) (spans b.reach y)) i ≡ true → (within (spans b.reach x) i ≡ true) × (within (spans b.reach y) i ≡ true)
  each_reached op {x} {y} p q i r =
      let e = spans_same b law p q in
      let w : within (spans b.reach x) i ≡ true = subst (λ u. within u i ≡ true) (ap (wider op (spans b.reach x)) (sym e) ∙ wider_same op (spans b.reach x)) r in
      (w, subst (λ u. within u i ≡ true) e w)

  scalar_reached : {x : Expr} → Typed b.shapes x [] → (i : List ℕ) → within (spans b.reach x) (seen (spans b.reach x) i) ≡ true
  scalar_reached {x} p i = ap (λ u. within u (seen u i)) (empty (spans b.reach x) (spans_length b law p))

  self_reached : (s i : List ℕ) → within s i ≡ true → within s (seen s i) ≡ true
  self_reached s i w = ap (within s) (seen_self s i w) ∙ w

  -- both operands are in reach where they are taken
  pub operands_reached : {op : Operation} {x y : Expr} {s : List ℕ} → Typed b.shapes (pointwise op x y) s → (i : List ℕ) → within (wider op (spans b.reach x) (spans b.reach y)) i ≡ true → (within (spans b.reach x) (seen (spans b.reach x) i) ≡ true) × (within (spans b.reach y) (seen (spans b.reach y) i) ≡ true)
  operands_reached (element_by_element {op = op} p q) i r = let w = each_reached op p q i r in (self_reached _ i w.0, self_reached _ i w.1)
  operands_reached (scalar_times p q) i r = (scalar_reached p i, self_reached _ i r)
  operands_reached (divided_by_scalar p q) i r = (self_reached _ i r, scalar_reached q i)

  pub two_reached : {x : Expr} {s : List ℕ} (m n : ℕ) → Typed b.shapes x s → two_of m n (length s) ≡ true → two_of m n (length (spans b.reach x)) ≡ true
  two_reached m n p h = subst (λ k. two_of m n k ≡ true) (spans_length b law p) h

  pub pair_reached : {x : Expr} {s : List ℕ} (m n : ℕ) → Typed b.shapes x s → two_of m n (length s) ≡ true → at1 s m ≡ at1 s n → at1 (spans b.reach x) m ≡ at1 (spans b.reach x) n
  pair_reached {s = s} m n p h e = let t = two_parts m n (length s) h in limit_same b law p m n t.0 (omega (arith, t.1, t.2)) (omega (arith, t.0, t.1)) t.2 e

module _ {E : Type 0} (a : Algebra E) (laws : Laws a) (b : Meaning E) (law : Lawful a.zero b) where
  outside : {e : Expr} {s : List ℕ} → Typed b.shapes e s → (i : List ℕ) → within (spans b.reach e) i ≡ true → within s i ≡ false → value a b.at b.reach e i ≡ a.zero
  unfolding spans value
  outside (of_variable {v = v} h) i r o =
      law.spare v i (and_from (has b.shapes v) (within (pick b.reach v) i) h r) (and_right (has b.shapes v) (within (pick b.shapes v) i) o)
  outside (of_outer_product {x = x} {y = y} {s = s} {t = t} p q) i r o =
      let w = within_parts (spans b.reach x) (spans b.reach y) i r in
      either_zero a laws _ _
      (⊎_elim (λ h. inl (outside p (take (length (spans b.reach x)) i) w.0 h)) (λ h. inr (outside q (drop (length (spans b.reach x)) i) w.1 h))
      (outer_outside s t i (length (spans b.reach x)) (spans_length b law p) o))
  outside (element_by_element {op = op} {x = x} {y = y} p q) i r o =
      let w = each_reached b law op p q i r in
      both_zero a laws op _ _
      (ap (value a b.at b.reach x) (seen_self (spans b.reach x) i w.0) ∙ outside p i w.0 o)
      (ap (value a b.at b.reach y) (seen_self (spans b.reach y) i w.1) ∙ outside q i w.1 o)
  outside (scalar_times {x = x} {y = y} p q) i r o =
      either_zero a laws _ _ (inr (ap (value a b.at b.reach y) (seen_self (spans b.reach y) i r) ∙ outside q i r o))
  outside (divided_by_scalar {x = x} {y = y} p q) i r o =
      ap (λ t. a.over t (value a b.at b.reach y (seen (spans b.reach y) i))) (ap (value a b.at b.reach x) (seen_self (spans b.reach x) i r) ∙ outside p i r o)
      ∙ laws.zero_over (value a b.at b.reach y (seen (spans b.reach y) i))
  outside (of_transposition {m = m} {n = n} {x = x} {s = s} p h) i r o =
      outside p (exchanged m n i) (within_exchanged m n (spans b.reach x) i (two_reached b law m n p h) r)
      (not_within (within s (exchanged m n i)) (λ t. not_true (within (exchanged m n s) i) o (within_exchanged_back m n s i h t)))
  outside (of_contraction {m = m} {n = n} {x = x} {s = s} p h e) i r o =
      total_zero a laws (λ l. value a b.at b.reach x (inserted m n l i)) (at1 (spans b.reach x) m)
      (λ l u v. outside p (inserted m n l i) (within_inserted m n l (spans b.reach x) i (two_reached b law m n p h) (pair_reached b law m n p h e) u v r)
      (not_within (within s (inserted m n l i)) (λ t. not_true (within (removed m n s) i) o (within_removed m n l s i h t).0)))

  module _ (at : ℕ → List ℕ → E) (shows : Shows at b) where
    -- an operand is taken at the same index, whether the limits are rounded or not
    taken : {x : Expr} {u : List ℕ} → Typed b.shapes x u → (i : List ℕ) → value a b.at b.reach x (seen u i) ≡ value a at b.shapes x (seen u i) → value a b.at b.reach x (seen (spans b.reach x) i) ≡ value a at b.shapes x (seen (spans b.shapes x) i)
    taken {x} {u} p i h =
        ap (value a b.at b.reach x) (seen_alike (spans b.reach x) u i (sym (spans_length b law p))) ∙ h ∙ ap (λ t. value a at b.shapes x (seen t i)) (sym (spans_type p))

    inside : {e : Expr} {s : List ℕ} → Typed b.shapes e s → (i : List ℕ) → within s i ≡ true → value a b.at b.reach e i ≡ value a at b.shapes e i
    unfolding spans value
    inside (of_variable {v = v} h) i w = sym (shows v i (and_from (has b.shapes v) (within (pick b.shapes v) i) h w))
    inside (of_outer_product {x = x} {y = y} {s = s} {t = t} p q) i w =
        let k = within_parts s t i w in
        let l = sym (spans_length b law p) in
        let n = sym (ap length (spans_type p)) in
        let f : value a b.at b.reach x (take (length (spans b.reach x)) i) ≡ value a at b.shapes x (take (length (spans b.shapes x)) i) =
        ap (λ j. value a b.at b.reach x (take j i)) l ∙ inside p (take (length s) i) k.0 ∙ ap (λ j. value a at b.shapes x (take j i)) n in
        let g : value a b.at b.reach y (drop (length (spans b.reach x)) i) ≡ value a at b.shapes y (drop (length (spans b.shapes x)) i) =
        ap (λ j. value a b.at b.reach y (drop j i)) l ∙ inside q (drop (length s) i) k.1 ∙ ap (λ j. value a at b.shapes y (drop j i)) n in
        cc
    inside (element_by_element {x = x} {y = y} {s = s} p q) i w =
        let k = self_reached b law s i w in
        let f = taken p i (inside p (seen s i) k) in
        let g = taken q i (inside q (seen s i) k) in
        cc
    inside (scalar_times {s = s} p q) i w =
        let f = taken p i (inside p [] refl) in
        let g = taken q i (inside q (seen s i) (self_reached b law s i w)) in
        cc
    inside (divided_by_scalar {s = s} p q) i w =
        let f = taken p i (inside p (seen s i) (self_reached b law s i w)) in
        let g = taken q i (inside q [] refl) in
        cc
    inside (of_transposition {m = m} {n = n} {s = s} p h) i w = inside p (exchanged m n i) (within_exchanged m n s i h w)
    inside (of_contraction {m = m} {n = n} {x = x} {s = s} p h e) i w =
        let t = two_parts m n (length s) h in
        let d = limit_bounds b law p m t.0 (omega (arith, t.1, t.2)) in
        let r = shape_reached b law p in
        total_cut a laws (λ l. value a b.at b.reach x (inserted m n l i)) (λ l. value a at b.shapes x (inserted m n l i)) (at1 s m) (at1 (spans b.reach x) m) d.1
        (λ l u v. inside p (inserted m n l i) (within_inserted m n l s i h e u v w))
        (λ l u v.
        outside p (inserted m n l i)
        (within_inserted m n l (spans b.reach x) i (two_reached b law m n p h) (pair_reached b law m n p h e) (omega arith) v (shape_reached b law (of_contraction p h e) i w))
        (not_within (within s (inserted m n l i)) (λ f. absurd (let g = (within_removed m n l s i h f).2 in omega arith))))
        ∙ ap (λ j. total a (λ l. value a at b.shapes x (inserted m n l i)) (at1 j m)) (sym (spans_type p))

pub padding_law : {E : Type 0} (a : Algebra E) → Laws a → (b : Meaning E) → Lawful a.zero b → Law a b
padding_law a laws b law = record {
  spare = λ e s i t. outside a laws b law t i;
  plain = λ e s i at t w shows. inside a laws b law at shows t i w;
  alike = λ e s i o t w l h shows.
      inside a laws o l o.at (λ v j _. refl) (subst (λ ss. Typed ss e s) (sym h) t) i w
      ∙ ap (λ ss. value a o.at ss e i) h
      ∙ sym (inside a laws b law o.at shows t i w);
}
