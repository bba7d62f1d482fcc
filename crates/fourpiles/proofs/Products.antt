-- Products of tables: entries that stand in a store, filled in step by step. Assumes nothing.
use Rattle.std.proofs.Common.{◌≡◌, ℕ, zero, suc, ◌+◌, ◌<◌, ◌≤◌, true, ◌&&◌, ◌||◌, leb, ◌⊎◌, List, [], ◌∷◌, sym, refl, ap, ◌∙◌, subst, inl, inr, ⊎_elim, add-one, arith}
use Rattle.std.proofs.lemmas.Bool.{and_from, le-leb, cond-true, or_left, cases_lt}
use Rattle.elements.specs.Algebra.{Algebra, total, is_zero}
use Rattle.indices.specs.Places.{has, pick, within}
use Rattle.refusals.specs.Refusals.{done}
use Rattle.stores.specs.Meaning.{Meaning, Lawful, Covers, Written, in_reach, read_answer, write_answer}
use Rattle.fourpiles.specs.declared.plan.Plan.{Plan}
use Rattle.fourpiles.specs.Product.{Sides, Conforms, entry, Filled, in_row, in_rows}

-- a place of a table of rank 2 is in shape and in reach
pub inside : (h w i j : ℕ) → 1 ≤ i → i ≤ h → 1 ≤ j → j ≤ w → within (h ∷ w ∷ []) (i ∷ j ∷ []) ≡ true
inside h w i j a b c d =
    and_from (leb 1 i && leb i h) ((leb 1 j && leb j w) && true) (and_from (leb 1 i) (leb i h) (le-leb 1 i a) (le-leb i h b))
    (and_from (leb 1 j && leb j w) true (and_from (leb 1 j) (leb j w) (le-leb 1 j c) (le-leb j w d)) refl)

reached : (h w : ℕ) (rs : List ℕ) (i j : ℕ) → Covers (h ∷ w ∷ []) rs → 1 ≤ i → i ≤ h → 1 ≤ j → j ≤ w → within rs (i ∷ j ∷ []) ≡ true
reached h w [] i j k a b c d = absurd k
reached h w (x ∷ []) i j k a b c d = absurd k.2
reached h w (x ∷ y ∷ []) i j k a b c d = inside x y i j a (omega (arith, k.0)) c (omega (arith, k.2.0))
reached h w (x ∷ y ∷ z ∷ rs) i j k a b c d = absurd k.2.2

module _ {E : Type 0} (z : E) (m : Meaning E) (law : Lawful z m) (v h w : ℕ) (s : Sides m.shapes v h w) (i j : ℕ) (a : 1 ≤ i) (b : i ≤ h) (c : 1 ≤ j) (d : j ≤ w) where
  pub entry_in_reach : within (pick m.reach v) (i ∷ j ∷ []) ≡ true
  entry_in_reach = reached h w (pick m.reach v) i j (subst (λ es. Covers es (pick m.reach v)) s.extents (law.covers v s.known)) a b c d

  pub entry_in_shape : within (pick m.shapes v) (i ∷ j ∷ []) ≡ true
  entry_in_shape = ap (λ es. within es (i ∷ j ∷ [])) s.extents ∙ inside h w i j a b c d

  pub reads : read_answer m v (i ∷ j ∷ []) ≡ done (m.at v (i ∷ j ∷ []))
  reads = cond-true (has m.shapes v) _ _ s.known ∙ cond-true (within (pick m.reach v) (i ∷ j ∷ [])) _ _ entry_in_reach

  pub writes : (g : Algebra E) (x : E) → write_answer g m v (i ∷ j ∷ []) x ≡ done tt
  writes g x =
      cond-true (has m.shapes v) _ _ s.known ∙ cond-true (within (pick m.reach v) (i ∷ j ∷ [])) _ _ entry_in_reach
      ∙ cond-true (within (pick m.shapes v) (i ∷ j ∷ []) || is_zero g x) _ _ (or_left (within (pick m.shapes v) (i ∷ j ∷ [])) (is_zero g x) entry_in_shape)

-- sums of equal terms
total_same : {E : Type 0} (g : Algebra E) (f h : ℕ → E) (n : ℕ) → ((l : ℕ) → 1 ≤ l → l ≤ n → f l ≡ h l) → total g f n ≡ total g h n
total_same g f h zero e = refl
total_same g f h (suc n) e =
    ap (λ x. g.plus x (f (suc n))) (total_same g f h n (λ l a b. e l a (omega arith))) ∙ ap (g.plus (total g h n)) (e (suc n) (omega arith) (omega arith))

pub total_more : {E : Type 0} (g : Algebra E) (f : ℕ → E) (n : ℕ) → total g f (n + 1) ≡ g.plus (total g f n) (f (n + 1))
total_more g f n = rw (add-one n)

-- a place of two coordinates is known by these
subst2 : (P : ℕ → ℕ → Type 0) (i j a b : ℕ) → ◌≡◌ {A = List ℕ} (i ∷ j ∷ []) (a ∷ b ∷ []) → P a b → P i j
subst2 P i j a b e x = let p : a ≡ i = cc in let q : b ≡ j = cc in subst (λ y. P i y) q (subst (λ y. P y b) p x)

below : (a b : ℕ) → (a ≤ b) ⊎ (b < a)
below a b = ⊎_elim inr inl (cases_lt b a)

-- entries are filled in one after another
module _ {E : Type 0} (g : Algebra E) (t : Plan) where
  pub filled_like : (m n : Meaning E) (some more : ℕ → ℕ → Type 0) → ((i j : ℕ) → more i j → some i j) → ((i j : ℕ) → some i j → more i j) → Filled g t some m n → Filled g t more m n
  filled_like m n some more to from f = record {
    shapes = f.shapes;
    reach = f.reach;
    product = λ i j s. f.product i j (to i j s);
    others = λ w k r ne. f.others w k r (λ i j s. ne i j (from i j s));
  }

  pub conforms_after : (m n : Meaning E) (some : ℕ → ℕ → Type 0) → Filled g t some m n → Conforms m.shapes t → Conforms n.shapes t
  conforms_after m n some f c = subst (λ ss. Conforms ss t) (sym f.shapes) c

  pub filled_one : (m n : Meaning E) (i j : ℕ) → Written true m t.result (i ∷ j ∷ []) (entry g m.at t i j) n → Filled g t (λ a b. (a ≡ i) × (b ≡ j)) m n
  filled_one m n i j w = record {
    shapes = w.shapes;
    reach = w.reach;
    product = λ a b e. ap (λ x. n.at t.result (x ∷ b ∷ [])) e.0 ∙ ap (λ y. n.at t.result (i ∷ y ∷ [])) e.1 ∙ w.put refl
        ∙ ap (λ x. entry g m.at t x j) (sym e.0) ∙ ap (entry g m.at t a) (sym e.1);
    others = λ u k r ne. w.others u k r (λ _ p q. ne i j (refl, refl) p q);
  }

  module _ (z : E) (m n o : Meaning E) (law : Lawful z m) (c : Conforms m.shapes t) (some more : ℕ → ℕ → Type 0) (f : Filled g t some m n) (h : Filled g t more n o) where
    same_reach : (w : ℕ) (k : List ℕ) → in_reach n w k ≡ in_reach m w k
    same_reach w k = ap (λ ss. has ss w && within (pick n.reach w) k) f.shapes ∙ ap (λ rs. has m.shapes w && within (pick rs w) k) f.reach

    reachable : (v a b i j : ℕ) → Sides m.shapes v a b → 1 ≤ i → i ≤ a → 1 ≤ j → j ≤ b → in_reach m v (i ∷ j ∷ []) ≡ true
    reachable v a b i j s p q r u = and_from (has m.shapes v) (within (pick m.reach v) (i ∷ j ∷ [])) s.known (entry_in_reach z m law v a b s i j p q r u)

    -- the factors have not changed, so an entry is what it was
    entry_kept : (i j : ℕ) → in_rows t.rows t.columns i j → entry g n.at t i j ≡ entry g m.at t i j
    entry_kept i j s =
        total_same g _ _ t.inner (λ l p q.
        ap (λ x. g.times x (n.at t.right (l ∷ j ∷ [])))
        (f.others t.left (i ∷ l ∷ []) (reachable t.left t.rows t.inner i l c.left s.0 s.1 p q) (λ _ _ _ e _. c.not_left e))
        ∙ ap (g.times (m.at t.left (i ∷ l ∷ [])))
        (f.others t.right (l ∷ j ∷ []) (reachable t.right t.inner t.columns l j c.right p q s.2 s.3) (λ _ _ _ e _. c.not_right e)))

    -- what is filled in after some entries adds to them
    pub filled_more : ((i j : ℕ) → some i j → in_rows t.rows t.columns i j) → ((i j : ℕ) → more i j → in_rows t.rows t.columns i j) → ((i j : ℕ) → some i j → more i j → ⊥) → Filled g t (λ i j. some i j ⊎ more i j) m o
    filled_more inner outer apart = record {
      shapes = h.shapes ∙ f.shapes;
      reach = h.reach ∙ f.reach;
      product = λ i j. ⊎_elim
          (λ s. let r = inner i j s in
          h.others t.result (i ∷ j ∷ []) (same_reach t.result (i ∷ j ∷ []) ∙ reachable t.result t.rows t.columns i j c.result r.0 r.1 r.2 r.3)
          (λ a b x _ e. apart i j s (subst2 more i j a b e x))
          ∙ f.product i j s)
          (λ s. h.product i j s ∙ entry_kept i j (outer i j s));
      others = λ w k r ne. h.others w k (same_reach w k ∙ r) (λ i j s. ne i j (inr s)) ∙ f.others w k r (λ i j s. ne i j (inl s));
    }

-- a row grows by a place, and the rows by a row
module _ {E : Type 0} (g : Algebra E) (t : Plan) (z : E) (m n o : Meaning E) (law : Lawful z m) (c : Conforms m.shapes t) where
  pub row_more : (i j : ℕ) → 1 ≤ i → i ≤ t.rows → j < t.columns → Filled g t (in_row i j) m n → Filled g t (λ a b. (a ≡ i) × (b ≡ j + 1)) n o → Filled g t (in_row i (j + 1)) m o
  row_more i j p q l f h =
      filled_like g t m o _ (in_row i (j + 1))
      (λ a b s. ⊎_elim (λ (r : b ≤ j). inl (s.0, s.1, r)) (λ (r : j < b). inr (s.0, omega arith)) (below b j))
      (λ a b. ⊎_elim (λ s. (s.0, s.1, omega arith)) (λ s. (s.0, omega arith, omega arith)))
      (filled_more g t z m n o law c (in_row i j) _ f h
      (λ a b s. (omega arith, omega arith, omega arith, omega arith)) (λ a b s. (omega arith, omega arith, omega arith, omega arith)) (λ a b s r. omega arith))

  pub rows_more : (i : ℕ) → i < t.rows → Filled g t (in_rows i t.columns) m n → Filled g t (in_row (i + 1) t.columns) n o → Filled g t (in_rows (i + 1) t.columns) m o
  rows_more i l f h =
      filled_like g t m o _ (in_rows (i + 1) t.columns)
      (λ a b s. ⊎_elim (λ (r : a ≤ i). inl (s.0, r, s.2, s.3)) (λ (r : i < a). inr (omega arith, s.2, s.3)) (below a i))
      (λ a b. ⊎_elim (λ s. (s.0, omega arith, s.2, s.3)) (λ s. (omega arith, omega arith, s.1, s.2)))
      (filled_more g t z m n o law c (in_rows i t.columns) _ f h
      (λ a b s. (s.0, omega arith, s.2, s.3)) (λ a b s. (omega arith, omega arith, s.1, s.2)) (λ a b s r. omega arith))
