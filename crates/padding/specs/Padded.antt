-- A padding over a store: a lawful meaning, read and written. Assumes nothing.
use Rattle.std.specs.Prelude.{◌≡◌, ℕ, ◌≤◌, Bool, true, false, cond, ◌&&◌, ◌||◌, ◌⊎◌, List, [], ◌∷◌, length, Some, ◌≢◌, nat_le, refl}
use Rattle.std.proofs.Common.{sym, ap, ◌∙◌, subst, inl, inr, ⊎_elim, arith}
use Rattle.std.proofs.lemmas.Bool.{and_parts, cond-true, cond-false, eqb-true, eq-eqb, both_ways, false≢true, cases_Bool, cases_eq, or_left, or_right, or_from}
use Rattle.std.proofs.lemmas.List.{length-map}
use Rattle.elements.specs.Algebra.{Algebra, Laws, is_zero}
use Rattle.shapes.specs.declared.table.Table.{Table}
use Rattle.indices.specs.Places.{within, pick, has, at1}
use Rattle.refusals.specs.Refusals.{Answer, done, refused}
use Rattle.shapes.specs.Shapes.{shapes_of}
use Rattle.shapes.proofs.Numbering.{within_parts, within_step}
use Rattle.shapes.proofs.Tables.{shapes_length, proper_pick, counted_parts}
use Rattle.stores.specs.Meaning.{Meaning, Lawful, Covers, Written, dimension, read_answer, write_answer, in_reach}
use Rattle.padding.specs.Padding.{padded, Padded, Blank}
use Rattle.padding.specs.Rounding.{round, rounded, all_rounded}
use Rattle.padding.specs.Rounded.{round_least, within_rounded, pick_rounded, at1_rounded}

some_same : {X : Type 0} {x y : X} → Some x ≡ Some y → x ≡ y
some_same e = cc

-- zero by its code is zero, and the other way round
module _ {E : Type 0} (a : Algebra E) (m : ℕ) (ss : List (List ℕ)) (b : Meaning E) where
  pub padded_from : Laws a → 1 ≤ m → b.shapes ≡ all_rounded m ss → Blank a ss b → Padded a.zero m ss b
  padded_from laws p e h = record {
    positive = p;
    shapes = e;
    clear = λ v i r q.
        let c = eqb-true (a.code (b.at v i)) (a.code a.zero) (h v i r q) in
        some_same (sym (laws.decode_code (b.at v i)) ∙ ap a.decode c ∙ laws.decode_code a.zero);
  }

  pub blank_from : Padded a.zero m ss b → Blank a ss b
  blank_from ok v i r q = eq-eqb (a.code (b.at v i)) (a.code a.zero) (ap a.code (ok.clear v i r q))

-- what lies in a shape lies in what covers it
pub within_covered : (es rs i : List ℕ) → Covers es rs → within es i ≡ true → within rs i ≡ true
within_covered [] [] i c h = h
within_covered [] (r ∷ rs) i c h = absurd c
within_covered (e ∷ es) [] i c h = absurd c
within_covered (e ∷ es) (r ∷ rs) [] c h = absurd (false≢true h)
within_covered (e ∷ es) (r ∷ rs) (k ∷ i) c h =
    let p = within_parts e k es i h in
    within_step r k rs i p.0 (omega arith) ∙ within_covered es rs i c.2 p.2

-- what covers the rounded extents covers the extents
covers_narrow : (m : ℕ) (es rs : List ℕ) → 1 ≤ m → Covers (rounded m es) rs → Covers es rs
covers_narrow m [] [] p c = tt
covers_narrow m [] (r ∷ rs) p c = c
covers_narrow m (e ∷ es) [] p c = c
covers_narrow m (e ∷ es) (r ∷ rs) p c = let q = (round_least m e p).above in (omega arith, c.1, covers_narrow m es rs p c.2)

and_second : (x y : Bool) → x ≡ true → (x && y) ≡ false → y ≡ false
and_second true y e f = f
and_second false y e f = absurd (false≢true e)

-- two indices are equal or not
cases_index : (i j : List ℕ) → (i ≡ j) ⊎ (i ≢ j)
cases_index [] [] = inl refl
cases_index [] (y ∷ j) = inr (λ e. let z : ◌≡◌ {A = ℕ} 0 1 = cc in omega arith)
cases_index (x ∷ i) [] = inr (λ e. let z : ◌≡◌ {A = ℕ} 0 1 = cc in omega arith)
cases_index (x ∷ i) (y ∷ j) =
    ⊎_elim
    (λ (p : x ≡ y). ⊎_elim (λ (q : i ≡ j). inl cc) (λ (n : i ≡ j → ⊥). inr (λ e. n (let f : i ≡ j = cc in f))) (cases_index i j))
    (λ (n : x ≡ y → ⊥). inr (λ e. n (let f : x ≡ y = cc in f)))
    (cases_eq x y)

-- a place is the one that was written, or holds what it held
written_at : {E : Type 0} (b c : Meaning E) (v u : ℕ) (i j : List ℕ) (x : E) (r : Bool) → Written r b v i x c → in_reach b u j ≡ true → ((r ≡ true) × (u ≡ v) × (j ≡ i)) ⊎ (c.at u j ≡ b.at u j)
written_at b c v u i j x r w s = by (cases_Bool r) (cases_eq u v) (cases_index j i)
  where
    by : (r ≡ true) ⊎ (r ≡ false) → (u ≡ v) ⊎ (u ≢ v) → (j ≡ i) ⊎ (j ≢ i) → ((r ≡ true) × (u ≡ v) × (j ≡ i)) ⊎ (c.at u j ≡ b.at u j)
    by (inl o) (inl e) (inl f) = inl (o, e, f)
    by (inl o) (inl e) (inr f) = inr (w.others u j s (λ _ _ y. f y))
    by (inl o) (inr e) f = inr (w.others u j s (λ _ y _. e y))
    by (inr o) e f = inr (w.others u j s (λ y _ _. both_ways r o y))

-- what a read's answer tells of its two questions
read_since : {X : Type 0} (h w : Bool) (x y : X) → done y ≡ cond h (cond w (done x) (refused 2 0)) (refused 1 0) → (h ≡ true) × (w ≡ true)
read_since true true x y e = (refl, refl)
read_since true false x y e = absurd (let z : ◌≡◌ {A = ℕ} 0 1 = cc in omega arith)
read_since false w x y e = absurd (let z : ◌≡◌ {A = ℕ} 0 1 = cc in omega arith)

unread_since : {X Y : Type 0} (h w : Bool) (x : X) (u : Answer Y) (n p : ℕ) → ◌≡◌ {A = Answer X} (refused n p) (cond h (cond w (done x) (refused 2 0)) (refused 1 0)) → refused n p ≡ cond h (cond w u (refused 2 0)) (refused 1 0)
unread_since true true x u n p e = absurd (let z : ◌≡◌ {A = ℕ} 0 1 = cc in omega arith)
unread_since true false x u n p e = cc
unread_since false w x u n p e = cc

module _ {E : Type 0} (z : E) (m : ℕ) (ss : List (List ℕ)) (b : Meaning E) (ok : Padded z m ss b) where
  same_count : length b.shapes ≡ length ss
  same_count = ap length ok.shapes ∙ length-map ss (rounded m)

  same_known : (v : ℕ) → has b.shapes v ≡ has ss v
  same_known v = ap (λ n. nat_le 1 v && nat_le v n) same_count

  same_reach : (v : ℕ) (i : List ℕ) → in_reach b v i ≡ in_reach (padded ss b) v i
  same_reach v i = ap (λ t. t && within (pick b.reach v) i) (same_known v)

  wide_at : (v : ℕ) → pick b.shapes v ≡ rounded m (pick ss v)
  wide_at v = ap (λ t. pick t v) ok.shapes ∙ pick_rounded m ss v

  same_dimension : (v d : ℕ) → dimension b.shapes v d ≡ dimension ss v d
  same_dimension v d =
      ap (λ t. t && (nat_le 1 d && nat_le d (length (pick b.shapes v)))) (same_known v)
      ∙ ap (λ n. has ss v && (nat_le 1 d && nat_le d n)) (ap length (wide_at v) ∙ length-map (pick ss v) (round m))

  extent_wide : (v d : ℕ) → dimension ss v d ≡ true → at1 (pick b.shapes v) d ≡ round m (at1 (pick ss v) d)
  extent_wide v d h =
      let q = counted_parts (length (pick ss v)) d (and_parts (has ss v) (nat_le 1 d && nat_le d (length (pick ss v))) h).1 in
      ap (λ es. at1 es d) (wide_at v) ∙ at1_rounded m (pick ss v) d q.0 q.1

  -- a read asks the same of the store below
  pub pad_read : (v : ℕ) (i : List ℕ) → read_answer b v i ≡ read_answer (padded ss b) v i
  pad_read v i = ap (λ t. cond t (cond (within (pick b.reach v) i) (done (b.at v i)) (refused 2 0)) (refused 1 0)) (same_known v)

  pub pad_written : (v : ℕ) (i : List ℕ) (x : E) (r : Bool) (c : Meaning E) → Written r b v i x c → Written r (padded ss b) v i x (padded ss c)
  pad_written v i x r c w = record { shapes = refl; reach = w.reach; put = w.put; others = λ u j p ne. w.others u j (same_reach u j ∙ p) ne }

  -- a write that puts nothing but zero outside the true shapes keeps the padding
  pub pad_kept : (v : ℕ) (i : List ℕ) (x : E) (r : Bool) (c : Meaning E) → (within (pick ss v) i ≡ false → x ≡ z) → Written r b v i x c → Padded z m ss c
  pad_kept v i x r c nil w = record {
    positive = ok.positive;
    shapes = w.shapes ∙ ok.shapes;
    clear = λ u j p q.
        let s : in_reach b u j ≡ true = ap (λ t. has t u && within (pick b.reach u) j) (sym w.shapes) ∙ ap (λ t. has c.shapes u && within (pick t u) j) (sym w.reach) ∙ p in
        ⊎_elim
        (λ h. ap (λ t. c.at t j) h.1 ∙ ap (c.at v) h.2 ∙ w.put h.0 ∙ nil (ap (within (pick ss v)) (sym h.2) ∙ ap (λ t. within (pick ss t) j) (sym h.1) ∙ q))
        (λ h. h ∙ ok.clear u j s q)
        (written_at b c v u i j x r w s);
  }

module _ {E : Type 0} (a : Algebra E) (m : ℕ) (ss : List (List ℕ)) (b : Meaning E) (ok : Padded a.zero m ss b) (v : ℕ) (i : List ℕ) (x : E) where
  -- what is neither zero nor in its true shape is refused, by what a read answers
  pub pad_spare : (y : E) → (has ss v && within (pick ss v) i) ≡ false → is_zero a x ≡ false → done y ≡ read_answer b v i → refused 3 0 ≡ write_answer a (padded ss b) v i x
  pad_spare y p q e =
      let k = read_since (has b.shapes v) (within (pick b.reach v) i) (b.at v i) y e in
      let h = sym (same_known a.zero m ss b ok v) ∙ k.0 in
      let o = and_second (has ss v) (within (pick ss v) i) h p in
      sym (cond-true (has ss v) _ _ h ∙ cond-true (within (pick b.reach v) i) _ _ k.1 ∙ cond-false (within (pick ss v) i || is_zero a x) _ _ (or_from (within (pick ss v) i) (is_zero a x) o q))

  pub pad_refused : (n p : ℕ) → refused n p ≡ read_answer b v i → refused n p ≡ write_answer a (padded ss b) v i x
  pad_refused n p e =
      let u : Answer Unit = cond (within (pick ss v) i || is_zero a x) (done tt) (refused 3 0) in
      unread_since (has b.shapes v) (within (pick b.reach v) i) (b.at v i) u n p e
      ∙ ap (λ t. cond t (cond (within (pick b.reach v) i) u (refused 2 0)) (refused 1 0)) (same_known a.zero m ss b ok v)

  -- anything else is asked of the store below
  pub pad_answer : (within (pick ss v) i ≡ true) ⊎ (is_zero a x ≡ true) → write_answer a b v i x ≡ write_answer a (padded ss b) v i x
  pad_answer h =
      let wide = within (pick b.shapes v) i in let own = within (pick ss v) i in let n = is_zero a x in
      let same : (wide || n) ≡ (own || n) = ⊎_elim
      (λ (p : own ≡ true). or_left wide n (ap (λ t. within t i) (wide_at a.zero m ss b ok v) ∙ within_rounded m (pick ss v) i ok.positive p) ∙ sym (or_left own n p))
      (λ (p : n ≡ true). or_right wide n p ∙ sym (or_right own n p)) h in
      ap (λ t. cond t (cond (within (pick b.reach v) i) (cond (wide || n) (done tt) (refused 3 0)) (refused 2 0)) (refused 1 0)) (same_known a.zero m ss b ok v)
      ∙ ap (λ t. cond (has ss v) (cond (within (pick b.reach v) i) (cond t (done tt) (refused 3 0)) (refused 2 0)) (refused 1 0)) same

pub padded_lawful : {E : Type 0} (z : E) (m : ℕ) (t : Table) (b : Meaning E) → Lawful z b → Padded z m (shapes_of t) b → Lawful z (padded (shapes_of t) b)
padded_lawful z m t b law ok =
    let ss = shapes_of t in
    let known = same_known z m ss b ok in
    record {
      few = omega (arith, shapes_length t, t.few);
      count = law.count ∙ same_count z m ss b ok;
      shaped = λ v h. proper_pick t v;
      covers = λ v h.
          covers_narrow m (pick ss v) (pick b.reach v) ok.positive
          (subst (λ es. Covers es (pick b.reach v)) (wide_at z m ss b ok v) (law.covers v (known v ∙ h)));
      places = λ v h. law.places v (known v ∙ h);
      alike = λ v w d e p q r.
          law.alike v w d e (same_dimension z m ss b ok v d ∙ p) (same_dimension z m ss b ok w e ∙ q)
          (extent_wide z m ss b ok v d p ∙ ap (round m) r ∙ sym (extent_wide z m ss b ok w e q));
      spare = λ v i p q.
          let h = (and_parts (has ss v) (within (pick b.reach v) i) p).0 in
          ok.clear v i (same_reach z m ss b ok v i ∙ p)
          (and_second (has ss v) (within (pick ss v) i) h q);
    }
