-- Every chain of calls stands: it replies and holds as plain evaluation does, and its padded places are zero. Assumes nothing.
use Rattle.std.proofs.Common.{◌≡◌, ℕ, ◌≤◌, Bool, true, false, cond, ◌&&◌, eqb, leb, List, length, sym, refl, ap, ◌∙◌, subst, arith}
use Rattle.std.proofs.lemmas.Bool.{and_parts, and_from, le-leb, eqb-true, both_ways}
use Rattle.elements.specs.Algebra.{Algebra, Laws}
use Rattle.evaluation.specs.Law.{Shows}
use Rattle.evaluation.specs.Tray.{statement_of, target}
use Rattle.evaluation.specs.Value.{spans, value}
use Rattle.evaluation.proofs.Padded.{padding_law}
use Rattle.evaluation.proofs.Spans.{shape_reached}
use Rattle.evaluation.proofs.Targets.{target_typed, target_reach}
use Rattle.indices.specs.Dimensions.{same}
use Rattle.indices.specs.Places.{pick, has, within}
use Rattle.refusals.specs.Refusals.{done, refused, and_then}
use Rattle.indices.proofs.Equal.{same_equal}
use Rattle.sheets.specs.Language.{Expr, of_variable}
use Rattle.sheets.specs.Sheets.{Contents}
use Rattle.sheets.specs.Terms.{expression_of, Judged}
use Rattle.stores.specs.Meaning.{Meaning, Lawful, in_shape, in_reach}
use Rattle.runs.specs.Agreement.{Point, state_of, Moved, Moves, Chain, end, call, Always}
use Rattle.runs.specs.Plain.{Call, fetch, put, step, rewind, Reply, element, State, in_sheet, works, put_at, stepped, reply, after, replies, afters}

module _ {E : Type 0} (a : Algebra E) (laws : Laws a) (c : Contents) (judged : Judged c) where
  -- a point of a run, and the plain state that it shows
  record Holds (s : State E) (p : Point E) : Type 0 where
    fit : c.shapes ≡ p.meaning.shapes
    lawful : Lawful a.zero p.meaning
    shows : Shows s.at p.meaning
    next : s.next ≡ p.next
    low : 1 ≤ p.next

  module _ (p : Point E) (fit : c.shapes ≡ p.meaning.shapes) (law : Lawful a.zero p.meaning) (low : 1 ≤ p.next) where
    in_sheet_shape : (v : ℕ) (i : List ℕ) → in_sheet c v i ≡ in_shape p.meaning v i
    in_sheet_shape v i = ap (λ ss. has ss v && within (pick ss v) i) fit

    there : (size : ℕ) → works c p.next size ≡ true → (leb 1 p.next && leb p.next (length c.statements)) ≡ true
    there size h = and_from (leb 1 p.next) (leb p.next (length c.statements)) (le-leb 1 p.next low) (and_parts (leb 4096 size) (leb p.next (length c.statements)) h).1

    -- padded places stay zero
    spare_after : (k : Call E) (v : ℕ) (i : List ℕ) → in_reach p.meaning v i ≡ true → in_shape p.meaning v i ≡ false → (after a c p.meaning.reach (state_of p) k).at v i ≡ a.zero
    spare_after (fetch w j) v i h o = law.spare v i h o
    spare_after (put w j x) v i h o = by (in_sheet c w j) refl
      where
        at : (b d : Bool) → in_sheet c w j ≡ true → (eqb v w && same i j) ≡ d → cond d x (p.meaning.at v i) ≡ a.zero
        at b true e f =
            let q = and_parts (eqb v w) (same i j) f in
            let g : in_shape p.meaning v i ≡ true = sym (in_sheet_shape v i) ∙ ap (λ t. in_sheet c t i) (eqb-true v w q.0) ∙ ap (in_sheet c w) (same_equal i j q.1) ∙ e in
            absurd (both_ways (in_shape p.meaning v i) o g)
        at b false e f = law.spare v i h o

        by : (b : Bool) → in_sheet c w j ≡ b → (cond b (put_at (state_of p) w j x) (state_of p)).at v i ≡ a.zero
        by true e = at true (eqb v w && same i j) e refl
        by false e = law.spare v i h o
    spare_after (step size) v i h o = by (works c p.next size) refl
      where
        n : ℕ
        n = p.next

        at : (d : Bool) → works c n size ≡ true → eqb v (statement_of c n).variable ≡ d → cond d (value a p.meaning.at p.meaning.reach (expression_of c.nodes (statement_of c n).node) i) (p.meaning.at v i) ≡ a.zero
        at true e f =
            let b = p.meaning in
            let w = (statement_of c n).variable in
            let q : v ≡ w = eqb-true v w f in
            let r = and_parts (has b.shapes v) (within (pick b.reach v) i) h in
            let g : within (target b c n) i ≡ true = ap (λ t. within (pick b.reach t) i) (sym q) ∙ r.1 in
            let m : within (pick b.shapes w) i ≡ false = ap (λ t. within (pick b.shapes t) i) (sym q) ∙ outside (has b.shapes v) (within (pick b.shapes v) i) r.0 o in
            (padding_law a laws b law).spare (expression_of c.nodes (statement_of c n).node) (pick b.shapes w) i (target_typed b law c judged fit n (there size e))
            (ap (λ t. within t i) (target_reach b law c judged fit n (there size e)) ∙ g) m
          where
            outside : (x y : Bool) → x ≡ true → (x && y) ≡ false → y ≡ false
            outside true y e f = f
            outside false y e f = absurd (both_ways false refl e)
        at false e f = law.spare v i h o

        by : (b : Bool) → works c n size ≡ b → (cond b (stepped a c p.meaning.reach (state_of p)) (state_of p)).at v i ≡ a.zero
        by true e = at (eqb v (statement_of c n).variable) e refl
        by false e = law.spare v i h o
    spare_after rewind v i h o = law.spare v i h o

    lawful_after : (k : Call E) (q : Point E) → Moved p.meaning (after a c p.meaning.reach (state_of p) k) q.meaning q.next → Lawful a.zero q.meaning
    lawful_after k q m =
        let b = p.meaning in
        let o = q.meaning in
        let l : Lawful a.zero (record { shapes = b.shapes; reach = b.reach; at = o.at }) =
        record {
          few = law.few;
          count = law.count;
          shaped = law.shaped;
          covers = law.covers;
          places = law.places;
          alike = law.alike;
          spare = λ v i h n. m.at v i h ∙ spare_after k v i h n;
        } in
        subst (λ rs. Lawful a.zero (record { shapes = o.shapes; reach = rs; at = o.at })) (sym m.reach)
        (subst (λ ss. Lawful a.zero (record { shapes = ss; reach = b.reach; at = o.at })) (sym m.shapes) l)

    module _ (at : ℕ → List ℕ → E) (shows : Shows at p.meaning) where
      abbrev plain : State E
      plain = record { at = at; next = p.next }

      reply_same : (k : Call E) → reply c (state_of p) k ≡ reply c plain k
      reply_same (fetch v i) = by (in_sheet c v i) refl
        where
          by : (b : Bool) → in_sheet c v i ≡ b → and_then (cond b (done (p.meaning.at v i)) (refused 20 0)) (λ x. done (element x)) ≡ and_then (cond b (done (at v i)) (refused 20 0)) (λ x. done (element x))
          by true e = ap (λ x. done (element x)) (sym (shows v i (sym (in_sheet_shape v i) ∙ e)))
          by false e = refl
      reply_same (put v i x) = refl
      reply_same (step size) = refl
      reply_same rewind = refl

      shows_after : (k : Call E) (v : ℕ) (i : List ℕ) → in_shape p.meaning v i ≡ true → (after a c c.shapes plain k).at v i ≡ (after a c p.meaning.reach (state_of p) k).at v i
      shows_after (fetch w j) v i h = shows v i h
      shows_after (put w j x) v i h = by (in_sheet c w j)
        where
          by : (b : Bool) → (cond b (put_at plain w j x) plain).at v i ≡ (cond b (put_at (state_of p) w j x) (state_of p)).at v i
          by true = ap (cond (eqb v w && same i j) x) (shows v i h)
          by false = shows v i h
      shows_after (step size) v i h = by (works c p.next size) refl
        where
          e : ℕ → Expr
          e n = expression_of c.nodes (statement_of c n).node

          set : (d : Bool) → works c p.next size ≡ true → eqb v (statement_of c p.next).variable ≡ d → cond d (value a at c.shapes (e p.next) i) (at v i) ≡ cond d (value a p.meaning.at p.meaning.reach (e p.next) i) (p.meaning.at v i)
          set true w f =
              let b = p.meaning in
              let n = p.next in
              let u = (statement_of c n).variable in
              let g = (and_parts (has b.shapes v) (within (pick b.shapes v) i) h).1 in
              let m : within (pick b.shapes u) i ≡ true = ap (λ t. within (pick b.shapes t) i) (sym (eqb-true v u f)) ∙ g in
              ap (λ ss. value a at ss (e n) i) fit ∙ sym ((padding_law a laws b law).plain (e n) (pick b.shapes u) i at (target_typed b law c judged fit n (there size w)) m shows)
          set false w f = shows v i h

          by : (d : Bool) → works c p.next size ≡ d → (cond d (stepped a c c.shapes plain) plain).at v i ≡ (cond d (stepped a c p.meaning.reach (state_of p)) (state_of p)).at v i
          by true w = set (eqb v (statement_of c p.next).variable) w refl
          by false w = shows v i h
      shows_after rewind v i h = shows v i h

      next_same : (k : Call E) → (after a c c.shapes plain k).next ≡ (after a c p.meaning.reach (state_of p) k).next
      next_same (fetch w j) = refl
      next_same (put w j x) = by (in_sheet c w j)
        where
          by : (b : Bool) → (cond b (put_at plain w j x) plain).next ≡ (cond b (put_at (state_of p) w j x) (state_of p)).next
          by true = refl
          by false = refl
      next_same (step size) = by (works c p.next size)
        where
          by : (b : Bool) → (cond b (stepped a c c.shapes plain) plain).next ≡ (cond b (stepped a c p.meaning.reach (state_of p)) (state_of p)).next
          by true = refl
          by false = refl
      next_same rewind = refl

      next_low : (k : Call E) → 1 ≤ (after a c p.meaning.reach (state_of p) k).next
      next_low (fetch w j) = low
      next_low (put w j x) = by (in_sheet c w j)
        where
          by : (b : Bool) → 1 ≤ (cond b (put_at (state_of p) w j x) (state_of p)).next
          by true = low
          by false = low
      next_low (step size) = by (works c p.next size)
        where
          by : (b : Bool) → 1 ≤ (cond b (stepped a c p.meaning.reach (state_of p)) (state_of p)).next
          by true = omega arith
          by false = low
      next_low rewind = omega arith

      holds_after : (k : Call E) (q : Point E) → Moved p.meaning (after a c p.meaning.reach (state_of p) k) q.meaning q.next → Holds (after a c c.shapes plain k) q
      unfolding spans
      holds_after k q m =
          let n = next_low k in
          let y = m.next in
          record {
            fit = fit ∙ sym m.shapes;
            lawful = lawful_after k q m;
            shows = λ v i h.
                let g : in_shape p.meaning v i ≡ true = ap (λ ss. has ss v && within (pick ss v) i) (sym m.shapes) ∙ h in
                shows_after k v i g ∙ sym (m.at v i (reached v i g));
            next = next_same k ∙ sym m.next;
            low = omega arith;
          }
        where
          reached : (v : ℕ) (i : List ℕ) → in_shape p.meaning v i ≡ true → in_reach p.meaning v i ≡ true
          reached v i h =
              let b = p.meaning in
              let g = and_parts (has b.shapes v) (within (pick b.shapes v) i) h in
              and_from (has b.shapes v) (within (pick b.reach v) i) g.0 (shape_reached b law (of_variable {v = v} g.0) i g.1)

  moves_hold : (s : State E) (p q : Point E) (k : Call E) (r : Reply E) → Holds s p → Moves a c k p r q → (r ≡ reply c s k) × Holds (after a c c.shapes s k) q
  moves_hold s p q k r h m =
      let e : record { at = s.at; next = p.next } ≡ s = ap (λ n. record { at = s.at; next = n }) (sym h.next) in
      subst (λ t. (r ≡ reply c t k) × Holds (after a c c.shapes t k) q) e
      (m.replied ∙ reply_same p h.fit h.lawful h.low s.at h.shows k, holds_after p h.fit h.lawful h.low s.at h.shows k q m.moved)

  chain_holds : {p q : Point E} {ks : List (Call E)} {rs : List (Reply E)} (s : State E) → Holds s p → Chain a c p ks rs q → (rs ≡ replies a c c.shapes s ks) × Holds (afters a c c.shapes s ks) q
  chain_holds s h end = (refl, h)
  chain_holds s h (call {k = k} {r = r} {p = p} {q = q} m rest) =
      let t = moves_hold s p q k r h m in
      let u = chain_holds (after a c c.shapes s k) t.1 rest in
      let x = t.0 in
      let y = u.0 in
      (cc, u.1)

  pub always : (b : Meaning E) (at : ℕ → List ℕ → E) → Lawful a.zero b → c.shapes ≡ b.shapes → Shows at b → Always a c at b
  always b at law fit shows ks rs q ch =
      let s : State E = record { at = at; next = 1 } in
      let t = chain_holds s (record { fit = fit; lawful = law; shows = shows; next = refl; low = omega arith }) ch in
      let h = t.1 in
      record { replied = t.0; shapes = sym h.fit; shows = h.shows; next = sym h.next; spare = h.lawful.spare }
