-- Places made zero, one after another, and what that leaves of a store. Assumes nothing.
use Rattle.std.proofs.Common.{◌≡◌, ℕ, ◌+◌, ◌<◌, ◌≤◌, Bool, true, false, ◌&&◌, ◌||◌, List, is_ok, Ok, Err, Result, sym, refl, ap, ◌∙◌, subst, ⊎_elim, arith}
use Rattle.std.proofs.lemmas.Bool.{and_parts, and_from, cond-true, both_ways, cases_eq, or_right, eq-eqb}
use Rattle.elements.specs.Algebra.{Algebra, is_zero}
use Rattle.indices.specs.Places.{within, place, unplace, product, pick, has}
use Rattle.refusals.specs.declared.refusal.Refusal.{Refusal}
use Rattle.refusals.specs.Refusals.{done, answered}
use Rattle.shapes.proofs.Numbering.{Solid, within_unplace, place_unplace, unplace_place, place_lt}
use Rattle.stores.specs.Meaning.{Meaning, Lawful, Covers, Written, write_answer, in_reach, in_shape}
use Rattle.padding.specs.Clearing.{ClearedOne}
use Rattle.padding.specs.Padded.{within_covered}

-- what is done is not refused
pub ok_since : (r : Result Unit Refusal) → answered r ≡ done tt → is_ok r ≡ true
ok_since (Ok x) e = refl
ok_since (Err d) e = absurd (let z : ◌≡◌ {A = ℕ} 0 1 = cc in omega arith)

-- two meanings with the same shapes and reach have the same places
module _ {E : Type 0} (b c : Meaning E) (p : c.shapes ≡ b.shapes) (q : c.reach ≡ b.reach) (v : ℕ) (i : List ℕ) where
  reach_as : in_reach c v i ≡ in_reach b v i
  reach_as = ap (λ t. has t v && within (pick c.reach v) i) p ∙ ap (λ t. has b.shapes v && within (pick t v) i) q

-- the places of v with a number below k are cleared
pub record Clearing {E : Type 0} (z : E) (own wide : List ℕ) (v k : ℕ) (b c : Meaning E) : Type 0 where
  pub shapes : c.shapes ≡ b.shapes
  pub reach : c.reach ≡ b.reach
  pub zeroed : (i : List ℕ) → within wide i ≡ true → within own i ≡ false → place wide i < k → c.at v i ≡ z
  pub kept : (w : ℕ) (i : List ℕ) → in_reach b w i ≡ true → (w ≡ v → within wide i ≡ true → within own i ≡ false → ⊥) → c.at w i ≡ b.at w i

module _ {E : Type 0} (a : Algebra E) (own wide : List ℕ) (v : ℕ) (b : Meaning E) where
  pub clear_none : Clearing a.zero own wide v 0 b b
  clear_none = record { shapes = refl; reach = refl; zeroed = λ i p q l. absurd (omega arith); kept = λ w i p n. refl }

  pub clear_all : (k : ℕ) (c : Meaning E) → product wide ≤ k → Clearing a.zero own wide v k b c → ClearedOne a.zero own wide v b c
  clear_all k c l inv = record { shapes = inv.shapes; reach = inv.reach; zeroed = λ i p q. let h = place_lt wide i p in inv.zeroed i p q (omega arith); kept = inv.kept }

  module _ (k : ℕ) (c : Meaning E) (inv : Clearing a.zero own wide v k b c) where
    -- a place in its own shape is passed over
    pub clear_skip : within own (unplace wide k) ≡ true → Clearing a.zero own wide v (k + 1) b c
    clear_skip h = record {
      shapes = inv.shapes;
      reach = inv.reach;
      zeroed = λ i p q l.
          ⊎_elim
          (λ (e : place wide i ≡ k).
          let f : unplace wide k ≡ i = ap (unplace wide) (sym e) ∙ unplace_place wide i p in
          absurd (both_ways (within own i) q (ap (within own) (sym f) ∙ h)))
          (λ (n : place wide i ≡ k → ⊥). inv.zeroed i p q (omega arith))
          (cases_eq (place wide i) k);
      kept = inv.kept;
    }

    module _ (law : Lawful a.zero c) (sol : Solid wide) (lt : k < product wide) (kn : has b.shapes v ≡ true) (sh : pick b.shapes v ≡ wide) where
      reached : (i : List ℕ) → within wide i ≡ true → in_reach c v i ≡ true
      reached i p =
          let kc : has c.shapes v ≡ true = ap (λ t. has t v) inv.shapes ∙ kn in
          let sc : pick c.shapes v ≡ wide = ap (λ t. pick t v) inv.shapes ∙ sh in
          and_from (has c.shapes v) (within (pick c.reach v) i) kc
          (within_covered wide (pick c.reach v) i (subst (λ t. Covers t (pick c.reach v)) sc (law.covers v kc)) p)

      -- the store takes zero there
      pub clear_takes : (s : List ℕ) (x : E) → s ≡ unplace wide k → x ≡ a.zero → write_answer a c v s x ≡ done tt
      clear_takes s x e f =
          let r = and_parts (has c.shapes v) (within (pick c.reach v) s) (reached s (ap (within wide) e ∙ within_unplace wide k sol lt)) in
          let n : is_zero a x ≡ true = eq-eqb (a.code x) (a.code a.zero) (ap a.code f) in
          cond-true (has c.shapes v) _ _ r.0 ∙ cond-true (within (pick c.reach v) s) _ _ r.1
          ∙ cond-true (within (pick c.shapes v) s || is_zero a x) _ _ (or_right (within (pick c.shapes v) s) (is_zero a x) n)

      pub clear_step : (d : Meaning E) (s : List ℕ) (x : E) (r : Bool) → s ≡ unplace wide k → within own s ≡ false → x ≡ a.zero → r ≡ true → Written r c v s x d → Clearing a.zero own wide v (k + 1) b d
      clear_step d s x r e out f o w =
          let ws : within wide s ≡ true = ap (within wide) e ∙ within_unplace wide k sol lt in
          let ps : place wide s ≡ k = ap (place wide) e ∙ place_unplace wide k sol lt in
          record {
            shapes = w.shapes ∙ inv.shapes;
            reach = w.reach ∙ inv.reach;
            zeroed = λ i p q l.
                ⊎_elim
                (λ (h : place wide i ≡ k).
                let g : i ≡ s = sym (unplace_place wide i p) ∙ ap (unplace wide) h ∙ sym e in
                ap (d.at v) g ∙ w.put o ∙ f)
                (λ (n : place wide i ≡ k → ⊥). w.others v i (reached i p) (λ _ _ g. n (ap (place wide) g ∙ ps)) ∙ inv.zeroed i p q (omega arith))
                (cases_eq (place wide i) k);
            kept = λ u i p n.
                w.others u i (reach_as b c inv.shapes inv.reach u i ∙ p) (λ _ h g. n h (ap (within wide) g ∙ ws) (ap (within own) g ∙ out))
                ∙ inv.kept u i p n;
          }

-- the first n variables are cleared
pub record ClearedTo {E : Type 0} (z : E) (ss : List (List ℕ)) (n : ℕ) (b c : Meaning E) : Type 0 where
  pub shapes : c.shapes ≡ b.shapes
  pub reach : c.reach ≡ b.reach
  pub zeroed : (v : ℕ) (i : List ℕ) → v ≤ n → in_shape b v i ≡ true → within (pick ss v) i ≡ false → c.at v i ≡ z
  pub kept : (v : ℕ) (i : List ℕ) → in_reach b v i ≡ true → (v ≤ n → in_shape b v i ≡ true → within (pick ss v) i ≡ false → ⊥) → c.at v i ≡ b.at v i

module _ {E : Type 0} (z : E) (ss : List (List ℕ)) (b : Meaning E) where
  pub cleared_step : (k : ℕ) (c d : Meaning E) (own wide : List ℕ) → Lawful z b → pick ss (k + 1) ≡ own → pick b.shapes (k + 1) ≡ wide → has b.shapes (k + 1) ≡ true → ClearedTo z ss k b c → ClearedOne z own wide (k + 1) c d → ClearedTo z ss (k + 1) b d
  cleared_step k c d own wide law eo ew kn inv one = record {
    shapes = one.shapes ∙ inv.shapes;
    reach = one.reach ∙ inv.reach;
    zeroed = λ v i l p q.
        let h = and_parts (has b.shapes v) (within (pick b.shapes v) i) p in
        ⊎_elim
        (λ (e : v ≡ k + 1).
        ap (λ t. d.at t i) e
        ∙ one.zeroed i (ap (λ t. within t i) (sym ew) ∙ ap (λ t. within (pick b.shapes t) i) (sym e) ∙ h.1)
        (ap (λ t. within t i) (sym eo) ∙ ap (λ t. within (pick ss t) i) (sym e) ∙ q))
        (λ (n : v ≡ k + 1 → ⊥).
        let r = and_from (has b.shapes v) (within (pick b.reach v) i) h.0 (within_covered (pick b.shapes v) (pick b.reach v) i (law.covers v h.0) h.1) in
        one.kept v i (reach_as b c inv.shapes inv.reach v i ∙ r) (λ e _ _. n e) ∙ inv.zeroed v i (omega arith) p q)
        (cases_eq v (k + 1));
    kept = λ v i p n.
        one.kept v i (reach_as b c inv.shapes inv.reach v i ∙ p)
        (λ e y x. n (omega arith)
        (and_from (has b.shapes v) (within (pick b.shapes v) i) (ap (has b.shapes) e ∙ kn) (ap (λ t. within (pick b.shapes t) i) e ∙ ap (λ t. within t i) ew ∙ y))
        (ap (λ t. within (pick ss t) i) e ∙ ap (λ t. within t i) eo ∙ x))
        ∙ inv.kept v i p (λ l s q. n (omega arith) s q);
  }
