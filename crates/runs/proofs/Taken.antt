-- Places in shape: a store reads and takes every element there. Assumes nothing.
use Rattle.std.proofs.Common.{◌≡◌, ℕ, Bool, true, false, cond, ◌&&◌, ◌||◌, eqb, List, sym, refl, ap, ◌∙◌, subst}
use Rattle.std.proofs.lemmas.Bool.{and_parts, and_from, cond-true, or_left, eqb-true, eq-eqb, both_ways}
use Rattle.elements.specs.Algebra.{Algebra, is_zero}
use Rattle.evaluation.specs.Value.{spans}
use Rattle.evaluation.proofs.Spans.{shape_reached}
use Rattle.indices.specs.Dimensions.{same}
use Rattle.indices.specs.Places.{pick, has, within}
use Rattle.refusals.specs.Refusals.{done}
use Rattle.indices.proofs.Equal.{same_equal, same_self}
use Rattle.sheets.specs.Language.{of_variable}
use Rattle.sheets.specs.Sheets.{Contents}
use Rattle.stores.specs.Meaning.{Meaning, Lawful, Written, in_shape, in_reach, read_answer, write_answer}
use Rattle.runs.specs.Agreement.{Moved}
use Rattle.runs.specs.Plain.{State, put, in_sheet, put_at, after}

module _ {E : Type 0} (a : Algebra E) (b : Meaning E) (law : Lawful a.zero b) (v : ℕ) (i : List ℕ) (h : in_shape b v i ≡ true) where
  known : has b.shapes v ≡ true
  known = (and_parts (has b.shapes v) (within (pick b.shapes v) i) h).0

  inside : within (pick b.shapes v) i ≡ true
  inside = (and_parts (has b.shapes v) (within (pick b.shapes v) i) h).1

  reached : within (pick b.reach v) i ≡ true
  unfolding spans
  reached = shape_reached b law (of_variable {v = v} known) i inside

  pub reads : read_answer b v i ≡ done (b.at v i)
  reads = cond-true (has b.shapes v) _ _ known ∙ cond-true (within (pick b.reach v) i) _ _ reached

  pub takes : (x : E) → write_answer a b v i x ≡ done tt
  takes x =
      cond-true (has b.shapes v) _ _ known ∙ cond-true (within (pick b.reach v) i) _ _ reached
      ∙ cond-true (within (pick b.shapes v) i || is_zero a x) _ _ (or_left (within (pick b.shapes v) i) (is_zero a x) inside)

-- what a write leaves is what a put does
pub put_moved : {E : Type 0} (a : Algebra E) (c : Contents) (rs : List (List ℕ)) (b o : Meaning E) (n v : ℕ) (i : List ℕ) (x : E) → in_sheet c v i ≡ true → Written true b v i x o → Moved b (after a c rs (record { at = b.at; next = n }) (put v i x)) o n
put_moved {E} a c rs b o n v i x h w =
    subst (λ t. Moved b (cond t (put_at s v i x) s) o n) (sym h)
    (record { shapes = w.shapes; reach = w.reach; at = λ u j r. by u j r (eqb u v && same j i) refl; next = refl })
  where
    s : State E
    s = record { at = b.at; next = n }

    by : (u : ℕ) (j : List ℕ) → in_reach b u j ≡ true → (d : Bool) → (eqb u v && same j i) ≡ d → o.at u j ≡ cond d x (b.at u j)
    by u j r true e =
        let p = and_parts (eqb u v) (same j i) e in
        ap (λ t. o.at t j) (eqb-true u v p.0) ∙ ap (o.at v) (same_equal j i p.1) ∙ w.put refl
    by u j r false e =
        w.others u j r (λ _ p q. both_ways (eqb u v && same j i) e (and_from (eqb u v) (same j i) (eq-eqb u v p) (ap (λ t. same t i) q ∙ same_self i)))
