-- A step: what is worked out, what is written, and what that leaves. Assumes nothing.
use Rattle.std.proofs.Common.{◌≡◌, ℕ, zero, suc, ◌+◌, ◌<◌, ◌≤◌, Bool, true, false, cond, ◌&&◌, eqb, leb, List, [], ◌∷◌, ◌++◌, length, get_or, drop, Ok, is_ok, sym, refl, ap, ◌∙◌, subst, arith}
use Rattle.std.proofs.lemmas.Bool.{and_parts, and_from, le-leb, cond-true, cond-false, eqb-true, eq-eqb, both_ways}
use Rattle.elements.specs.Algebra.{Algebra, Laws}
use Rattle.evaluation.specs.Tray.{counted, statement_of, target, roomy, worked}
use Rattle.evaluation.specs.Value.{fits, node_value}
use Rattle.evaluation.proofs.Padded.{padding_law}
use Rattle.evaluation.proofs.Targets.{target_known, target_typed, target_reach}
use Rattle.indices.specs.Dimensions.{same}
use Rattle.indices.specs.Places.{pick, has, within, product, place, unplace}
use Rattle.refusals.specs.Refusals.{done, refused}
use Rattle.indices.proofs.Equal.{same_self}
use Rattle.shapes.proofs.Numbering.{place_lt, unplace_place}
use Rattle.sheets.specs.Sheets.{Contents}
use Rattle.sheets.specs.Terms.{expression_of, Judged}
use Rattle.stores.specs.Matching.{first_other, difference}
use Rattle.stores.specs.Meaning.{Meaning, Lawful, in_reach}
use Rattle.runs.specs.Agreement.{Moved}
use Rattle.runs.specs.Plain.{State, step, works, step_answer, stepped, after}
use Rattle.runs.specs.Writing.{SpareZero, Wrote}

-- lists of shapes do not differ from themselves
other_self : (k : ℕ) (ss : List (List ℕ)) → first_other k ss ss ≡ Ok tt
other_self k [] = refl
other_self k (s ∷ ss) = cond-true (same s s) _ _ (same_self s) ∙ other_self (k + 1) ss

difference_self : (ss : List (List ℕ)) → difference ss ss ≡ Ok tt
difference_self ss = cond-true (eqb (length ss) (length ss)) _ _ (eq-eqb (length ss) (length ss) refl) ∙ other_self 1 ss

counted_at : {X : Type 0} (f : ℕ → X) (m n k : ℕ) (xs : List X) (z : X) → k < n → get_or (counted f m n ++ xs) k z ≡ f (m + k)
counted_at f m zero k xs z l = absurd (omega arith)
counted_at f m (suc n) zero xs z l = let e : m ≡ m + 0 = omega arith in ap f e
counted_at f m (suc n) (suc k) xs z l = let e : m + 1 + k ≡ m + suc k = omega arith in counted_at f (m + 1) n k xs z (omega arith) ∙ ap f e

-- a step that is refused leaves all as it was
pub idle : {E : Type 0} (a : Algebra E) (c : Contents) (rs : List (List ℕ)) (b : Meaning E) (n size : ℕ) → works c n size ≡ false → Moved b (after a c rs (record { at = b.at; next = n }) (step size)) b n
idle {E} a c rs b n size h =
    subst (λ t. Moved b (cond t (stepped a c rs s) s) b n) (sym h) (record { shapes = refl; reach = refl; at = λ v i r. refl; next = refl })
  where
    s : State E
    s = record { at = b.at; next = n }

module _ (c : Contents) (n size : ℕ) (long : 4096 ≤ size) where
  pub none_left : (leb 1 n && leb n (length c.statements)) ≡ false → 1 ≤ n → leb n (length c.statements) ≡ false
  none_left h l = by (leb 1 n) (leb n (length c.statements)) h (le-leb 1 n l)
    where
      by : (x y : Bool) → (x && y) ≡ false → x ≡ true → y ≡ false
      by true y e f = e
      by false y e f = absurd (both_ways false refl f)

  pub no_work : leb n (length c.statements) ≡ false → works c n size ≡ false
  no_work h = ap (λ t. leb 4096 size && t) h ∙ by (leb 4096 size)
    where
      by : (x : Bool) → (x && false) ≡ false
      by true = refl
      by false = refl

  pub answer_none : leb n (length c.statements) ≡ false → refused 22 0 ≡ step_answer c n size
  answer_none h = sym (cond-true (leb 4096 size) _ _ (le-leb 4096 size long) ∙ cond-false (leb n (length c.statements)) _ _ h)

  module _ (there : (leb 1 n && leb n (length c.statements)) ≡ true) where
    left : leb n (length c.statements) ≡ true
    left = (and_parts (leb 1 n) (leb n (length c.statements)) there).1

    pub work : works c n size ≡ true
    work = and_from (leb 4096 size) (leb n (length c.statements)) (le-leb 4096 size long) left

    pub answer_done : done n ≡ step_answer c n size
    answer_done = sym (cond-true (leb 4096 size) _ _ (le-leb 4096 size long) ∙ cond-true (leb n (length c.statements)) _ _ left)

    module _ {E : Type 0} (a : Algebra E) (laws : Laws a) (b : Meaning E) (law : Lawful a.zero b) (judged : Judged c) (fit : c.shapes ≡ b.shapes) where
      pub variable_known : has b.shapes (statement_of c n).variable ≡ true
      variable_known = target_known b law c judged fit n there

      pub few_places : product (target b c n) ≤ 4096
      few_places = law.places (statement_of c n).variable variable_known

      -- the statement can be worked out
      pub workable : (fits b c && roomy b c n size) ≡ true
      workable =
          let p = few_places in
          and_from (fits b c) (roomy b c n size) (ap is_ok (ap (λ ss. difference ss b.shapes) fit ∙ difference_self b.shapes))
          (and_from (leb 1 n && leb n (length c.statements)) (leb (product (target b c n)) size) there (le-leb (product (target b c n)) size (omega arith)))

      -- what the tray holds for a place
      module _ (xs tray : List E) (is : xs ≡ worked a b c n ++ drop (product (target b c n)) tray) where
        tray_at : (i : List ℕ) → within (target b c n) i ≡ true → get_or xs (place (target b c n) i) a.zero ≡ node_value a b c (statement_of c n).node i
        tray_at i h =
            let rs = target b c n in
            let f : ℕ → E = λ j. node_value a b c (statement_of c n).node (unplace rs j) in
            let e : 0 + place rs i ≡ place rs i = omega arith in
            ap (λ t. get_or t (place rs i) a.zero) is ∙ counted_at f 0 (product rs) (place rs i) (drop (product rs) tray) a.zero (place_lt rs i h) ∙ ap f e
            ∙ ap (node_value a b c (statement_of c n).node) (unplace_place rs i h)

        pub spare_zero : SpareZero a.zero b (statement_of c n).variable xs
        spare_zero i h o =
            tray_at i h
            ∙ (padding_law a laws b law).spare (expression_of c.nodes (statement_of c n).node) (pick b.shapes (statement_of c n).variable) i (target_typed b law c judged fit n there)
            (ap (λ t. within t i) (target_reach b law c judged fit n there) ∙ h) o

        pub step_moved : (o : Meaning E) → Wrote a.zero b (statement_of c n).variable xs o → Moved b (after a c b.reach (record { at = b.at; next = n }) (step size)) o (n + 1)
        step_moved o w =
            subst (λ t. Moved b (cond t (stepped a c b.reach s) s) o (n + 1)) (sym work)
            (record { shapes = w.shapes; reach = w.reach; at = λ u j r. by u j r (eqb u (statement_of c n).variable) refl; next = refl })
          where
            s : State E
            s = record { at = b.at; next = n }

            by : (u : ℕ) (j : List ℕ) → in_reach b u j ≡ true → (d : Bool) → eqb u (statement_of c n).variable ≡ d → o.at u j ≡ cond d (node_value a b c (statement_of c n).node j) (b.at u j)
            by u j r true e =
                let q = eqb-true u (statement_of c n).variable e in
                let h : within (target b c n) j ≡ true = ap (λ t. within (pick b.reach t) j) (sym q) ∙ (and_parts (has b.shapes u) (within (pick b.reach u) j) r).1 in
                ap (λ t. o.at t j) q ∙ w.set j h ∙ tray_at j h
            by u j r false e = w.others u j r (λ q. both_ways (eqb u (statement_of c n).variable) e (eq-eqb u (statement_of c n).variable q))
