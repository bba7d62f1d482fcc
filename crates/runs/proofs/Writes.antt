-- A tray's elements written to the places of one variable, one after another. Assumes nothing.
use Rattle.std.proofs.Common.{◌≡◌, ℕ, ◌+◌, ◌<◌, ◌≤◌, Bool, true, false, ◌&&◌, ◌||◌, List, length, get_or, sym, refl, ap, ◌∙◌, ⊎_elim, arith}
use Rattle.std.proofs.lemmas.List.{get_or_default}
use Rattle.std.proofs.lemmas.Bool.{and_from, cond-true, cases_eq, cases_Bool, or_left, or_right, eq-eqb}
use Rattle.elements.specs.Algebra.{Algebra, is_zero}
use Rattle.indices.specs.Places.{within, place, unplace, product, pick, has}
use Rattle.refusals.specs.Refusals.{done}
use Rattle.shapes.proofs.Numbering.{Solid, within_unplace, place_unplace, unplace_place, place_lt}
use Rattle.stores.specs.Meaning.{Meaning, Written, write_answer, in_reach}
use Rattle.runs.specs.Writing.{SpareZero, Wrote}

-- the places of v with a number below k hold the tray's elements
pub record Writing {E : Type 0} (z : E) (wide : List ℕ) (v k : ℕ) (xs : List E) (b o : Meaning E) : Type 0 where
  pub shapes : o.shapes ≡ b.shapes
  pub reach : o.reach ≡ b.reach
  pub set : (i : List ℕ) → within wide i ≡ true → place wide i < k → o.at v i ≡ get_or xs (place wide i) z
  pub others : (w : ℕ) (i : List ℕ) → in_reach b w i ≡ true → (w ≡ v → ⊥) → o.at w i ≡ b.at w i

module _ {E : Type 0} (a : Algebra E) (wide : List ℕ) (v : ℕ) (xs : List E) (b : Meaning E) where
  pub write_none : Writing a.zero wide v 0 xs b b
  write_none = record { shapes = refl; reach = refl; set = λ i p l. absurd (omega arith); others = λ w i p n. refl }

  module _ (wd : pick b.reach v ≡ wide) where
    pub write_done : (k : ℕ) (o : Meaning E) → product wide ≤ k → Writing a.zero wide v k xs b o → Wrote a.zero b v xs o
    write_done k o l inv = record {
      shapes = inv.shapes;
      reach = inv.reach;
      set = λ i p.
          let q : within wide i ≡ true = ap (λ t. within t i) (sym wd) ∙ p in
          let h = place_lt wide i q in
          inv.set i q (omega arith) ∙ ap (λ t. get_or xs (place t i) a.zero) (sym wd);
      others = inv.others;
    }

    module _ (k : ℕ) (c : Meaning E) (inv : Writing a.zero wide v k xs b c) (sol : Solid wide) (lt : k < product wide) (kn : has b.shapes v ≡ true) (room : product wide ≤ length xs) (s : List ℕ) (e : s ≡ unplace wide k) (x : E) (f : x ≡ get_or xs k x) where
      element : x ≡ get_or xs k a.zero
      element = f ∙ get_or_default xs k x a.zero (omega arith)

      inside : within wide s ≡ true
      inside = ap (within wide) e ∙ within_unplace wide k sol lt

      number : place wide s ≡ k
      number = ap (place wide) e ∙ place_unplace wide k sol lt

      still_known : has c.shapes v ≡ true
      still_known = ap (λ t. has t v) inv.shapes ∙ kn

      still_wide : pick c.reach v ≡ wide
      still_wide = ap (λ t. pick t v) inv.reach ∙ wd

      reached : (i : List ℕ) → within wide i ≡ true → in_reach c v i ≡ true
      reached i p = and_from (has c.shapes v) (within (pick c.reach v) i) still_known (ap (λ t. within t i) still_wide ∙ p)

      -- the element is zero, or the place is in shape
      fits : SpareZero a.zero b v xs → within (pick c.shapes v) s || is_zero a x ≡ true
      fits sp =
          ⊎_elim
          (λ (h : within (pick c.shapes v) s ≡ true). or_left (within (pick c.shapes v) s) (is_zero a x) h)
          (λ (h : within (pick c.shapes v) s ≡ false).
          let g : get_or xs (place (pick b.reach v) s) a.zero ≡ a.zero =
          sp s (ap (λ t. within t s) wd ∙ inside) (ap (λ t. within (pick t v) s) (sym inv.shapes) ∙ h) in
          let z : x ≡ a.zero = element ∙ ap (λ t. get_or xs t a.zero) (sym number) ∙ ap (λ t. get_or xs (place t s) a.zero) (sym wd) ∙ g in
          or_right (within (pick c.shapes v) s) (is_zero a x) (eq-eqb (a.code x) (a.code a.zero) (ap a.code z)))
          (cases_Bool (within (pick c.shapes v) s))

      -- so the store takes it
      pub write_takes : SpareZero a.zero b v xs → write_answer a c v s x ≡ done tt
      write_takes sp =
          cond-true (has c.shapes v) _ _ still_known ∙ cond-true (within (pick c.reach v) s) _ _ (ap (λ t. within t s) still_wide ∙ inside)
          ∙ cond-true (within (pick c.shapes v) s || is_zero a x) _ _ (fits sp)

      pub write_step : (d : Meaning E) (r : Bool) → r ≡ true → Written r c v s x d → Writing a.zero wide v (k + 1) xs b d
      write_step d r o w = record {
        shapes = w.shapes ∙ inv.shapes;
        reach = w.reach ∙ inv.reach;
        set = λ i p l.
            ⊎_elim
            (λ (h : place wide i ≡ k).
            let g : i ≡ s = sym (unplace_place wide i p) ∙ ap (unplace wide) h ∙ sym e in
            ap (d.at v) g ∙ w.put o ∙ element ∙ ap (λ t. get_or xs t a.zero) (sym h))
            (λ (n : place wide i ≡ k → ⊥). w.others v i (reached i p) (λ _ _ g. n (ap (place wide) g ∙ number)) ∙ inv.set i p (omega arith))
            (cases_eq (place wide i) k);
        others = λ u i p n.
            w.others u i (ap (λ t. has t u && within (pick c.reach u) i) inv.shapes ∙ ap (λ t. has b.shapes u && within (pick t u) i) inv.reach ∙ p) (λ _ h _. n h)
            ∙ inv.others u i p n;
      }
