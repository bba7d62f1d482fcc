-- Where the dimensions of a node come from, by what it is made of, and how an index is held against them. Assumes nothing.
use Rattle.std.proofs.Common.{◌≡◌, ℕ, ◌+◌, ◌-◌, ◌<◌, ◌≤◌, true, false, ◌&&◌, ltb, leb, Some, None, Option, is_some, List, [], ◌++◌, length, get_or, drop, sym, refl, ap, ◌∙◌, subst, arith, length-append}
use Rattle.std.proofs.lemmas.List.{drop_all}
use Rattle.std.proofs.lemmas.Bool.{and_parts, and_from, leb-true, ltb-true, le-leb, cond-true, false≢true}
use Rattle.indices.specs.Dimensions.{two_of, exchanged, removed}
use Rattle.indices.specs.Places.{pick, at1, has, within}
use Rattle.refusals.specs.Refusals.{done}
use Rattle.shapes.specs.Shapes.{extent_answer}
use Rattle.shapes.proofs.Numbering.{within_more, within_low, within_high, within_step}
use Rattle.shapes.proofs.Tables.{at1_next, counted}
use Rattle.indices.proofs.Within.{two_parts, length_exchanged, length_removed, at1_append_left, at1_append_right, at1_exchanged_first, at1_exchanged_second, at1_exchanged_other, at1_removed_before, at1_removed_between, at1_removed_after}
use Rattle.sheets.specs.declared.term.Operation.{Operation}
use Rattle.sheets.specs.declared.term.Operation.TheVariants.{Plus, Minus, Times, Over}
use Rattle.sheets.specs.declared.term.Term.{Term}
use Rattle.sheets.specs.declared.term.Term.TheVariants.{Variable, Outer, Pointwise, Turned, Contracted}
use Rattle.sheets.specs.Language.{Expr, plus, minus, times, over, Typed, variable, outer, pointwise, turned, contracted}
use Rattle.sheets.specs.Rules.{earlier, info_at}
use Rattle.sheets.specs.Sheets.{Contents}
use Rattle.sheets.specs.Terms.{expression_of, node_there, UnfoldsTo, Judged, Told}
use Rattle.sheets.proofs.Typing.{same_type, variable_type, turned_type, contracted_type}
use Rattle.stores.specs.Meaning.{Meaning, Lawful}
use Rattle.evaluation.specs.declared.reach.Source.TheVariants as source
use Rattle.evaluation.specs.Sources.{Comes, Ranked, Traced, Follows}
use Rattle.evaluation.specs.Value.{spans}
use Rattle.evaluation.proofs.Spans.{spans_length}

-- entries of lists
left_comes : (xs ys : List ℕ) (d : ℕ) → d ≤ length xs → 1 ≤ d → Comes (xs ++ ys) d xs d
left_comes xs ys d h f = (at1_append_left xs ys d f h, f, h)

right_comes : (xs ys : List ℕ) (d : ℕ) → length xs < d → d ≤ length (xs ++ ys) → Comes (xs ++ ys) d ys (d - length xs)
right_comes xs ys d h l = let n = length-append xs ys in (at1_append_right xs ys d h, omega arith, omega arith)

first_comes : (m n : ℕ) (xs : List ℕ) → two_of m n (length xs) ≡ true → Comes (exchanged m n xs) m xs n
first_comes m n xs t = let p = two_parts m n (length xs) t in (at1_exchanged_first m n xs t, omega (arith, p.0, p.1), p.2)

second_comes : (m n : ℕ) (xs : List ℕ) → two_of m n (length xs) ≡ true → Comes (exchanged m n xs) n xs m
second_comes m n xs t = let p = two_parts m n (length xs) t in (at1_exchanged_second m n xs t, p.0, omega (arith, p.1, p.2))

other_comes : (m n d : ℕ) (xs : List ℕ) → two_of m n (length xs) ≡ true → (d ≡ m → ⊥) → (d ≡ n → ⊥) → 1 ≤ d → d ≤ length (exchanged m n xs) → Comes (exchanged m n xs) d xs d
other_comes m n d xs t u v f l = (at1_exchanged_other m n d xs t f u v, f, omega (arith, length_exchanged m n xs))

before_comes : (m n d : ℕ) (xs : List ℕ) → two_of m n (length xs) ≡ true → d < m → 1 ≤ d → Comes (removed m n xs) d xs d
before_comes m n d xs t h f = let p = two_parts m n (length xs) t in (at1_removed_before m n d xs t f h, f, omega (arith, p.1, p.2))

between_comes : (m n d : ℕ) (xs : List ℕ) → two_of m n (length xs) ≡ true → m ≤ d → d + 1 < n → Comes (removed m n xs) d xs (d + 1)
between_comes m n d xs t g h = let p = two_parts m n (length xs) t in (at1_removed_between m n d xs t g h, omega arith, omega (arith, p.2))

after_comes : (m n d : ℕ) (xs : List ℕ) → two_of m n (length xs) ≡ true → m ≤ d → n ≤ d + 1 → d ≤ length (removed m n xs) → Comes (removed m n xs) d xs (d + 2)
after_comes m n d xs t g h l = (at1_removed_after m n d xs t h g, omega arith, omega (arith, length_removed m n xs t))

-- the parts of a node
pub operand_there : (c : Contents) (k a : ℕ) → node_there c k ≡ true → earlier a k ≡ true → node_there c a ≡ true
operand_there c k a t h =
    let p = and_parts (leb 1 k) (leb k (length c.nodes)) t in
    let q = and_parts (leb 1 a) (ltb a k) h in
    let u = leb-true k (length c.nodes) p.1 in
    let v = ltb-true a k q.1 in
    and_from (leb 1 a) (leb a (length c.nodes)) q.0 (le-leb a (length c.nodes) (omega arith))

module _ (c : Contents) (j : Judged c) (k : ℕ) (t : node_there c k ≡ true) where
  abbrev expr : ℕ → Expr
  expr n = expression_of c.nodes n

  -- what is known of the spans of its expression, from what that is made of
  made : (x : Expr) → expr k ≡ x → (rs : List (List ℕ)) (d e : ℕ) (ys : List ℕ) → (1 ≤ d → d ≤ length (spans rs x) → Comes (spans rs x) d ys e) → 1 ≤ d → d ≤ length (spans rs (expr k)) → Comes (spans rs (expr k)) d ys e
  made x q rs d e ys f = subst (λ y. 1 ≤ d → d ≤ length (spans rs y) → Comes (spans rs y) d ys e) (sym q) f

  typed_as : (x : Expr) → expr k ≡ x → Typed c.shapes x (info_at c.infos k).extents
  typed_as x q = subst (λ y. Typed c.shapes y (info_at c.infos k).extents) q (j.nodes k t).typed

  pub variable_traced : (v d : ℕ) → UnfoldsTo c k (Variable v) → Traced c k d (source.Variable v d)
  unfolding spans
  variable_traced v d q =
      ((variable_type (typed_as (variable v) q)).0, λ rs r. made (variable v) q rs d d (pick rs v) (λ f l. (refl, f, l)))

  pub left_traced : (a b d : ℕ) → UnfoldsTo c k (Outer a b) → d ≤ length (info_at c.infos a).extents → Traced c k d (source.Operand a d)
  unfolding spans
  left_traced a b d u h = (
    u.0,
    λ rs r. made (outer (expr a) (expr b)) u.2 rs d d (spans rs (expr a))
        (λ f l. left_comes (spans rs (expr a)) (spans rs (expr b)) d (omega (arith, r a (operand_there c k a t u.0))) f),
  )

  pub right_traced : (a b d n : ℕ) → UnfoldsTo c k (Outer a b) → n ≡ length (info_at c.infos a).extents → n < d → Traced c k d (source.Operand b (d - n))
  unfolding spans
  right_traced a b d n u e h = (
    u.1,
    λ rs r. made (outer (expr a) (expr b)) u.2 rs d (d - n) (spans rs (expr b))
        (λ f l.
        let w : n ≡ length (spans rs (expr a)) = e ∙ r a (operand_there c k a t u.0) in
        subst (λ i. Comes (spans rs (expr a) ++ spans rs (expr b)) d (spans rs (expr b)) (d - i)) (sym w) (right_comes (spans rs (expr a)) (spans rs (expr b)) d (omega arith) l)),
  )

  pub second_traced : (a b d : ℕ) → UnfoldsTo c k (Pointwise Times a b) → Traced c k d (source.Operand b d)
  unfolding spans
  second_traced a b d u = (u.1, λ rs r. made (pointwise times (expr a) (expr b)) u.2 rs d d (spans rs (expr b)) (λ f l. (refl, f, l)))

  pub first_traced : (op : Operation) (a b d : ℕ) → (op ≡ Times → ⊥) → UnfoldsTo c k (Pointwise op a b) → Traced c k d (source.Operand a d)
  unfolding spans
  first_traced Plus a b d n u = (u.0, λ rs r. made (pointwise plus (expr a) (expr b)) u.2 rs d d (spans rs (expr a)) (λ f l. (refl, f, l)))
  first_traced Minus a b d n u = (u.0, λ rs r. made (pointwise minus (expr a) (expr b)) u.2 rs d d (spans rs (expr a)) (λ f l. (refl, f, l)))
  first_traced Times a b d n u = absurd (n refl)
  first_traced Over a b d n u = (u.0, λ rs r. made (pointwise over (expr a) (expr b)) u.2 rs d d (spans rs (expr a)) (λ f l. (refl, f, l)))

  -- the two dimensions of a transposition or a contraction, among those of the operand
  two_here : (a m n : ℕ) (s : List ℕ) → earlier a k ≡ true → Typed c.shapes (expr a) s → two_of m n (length s) ≡ true → (rs : List (List ℕ)) → Ranked rs c → two_of m n (length (spans rs (expr a))) ≡ true
  two_here a m n s h p w rs r =
      let g = operand_there c k a t h in
      subst (λ i. two_of m n i ≡ true) (ap length (same_type p (j.nodes a g).typed) ∙ r a g) w

  turned_two : (a m n : ℕ) → UnfoldsTo c k (Turned a m n) → (rs : List (List ℕ)) → Ranked rs c → two_of m n (length (spans rs (expr a))) ≡ true
  turned_two a m n u = let p = turned_type (typed_as (turned m n (expr a)) u.1) in two_here a m n p.0 u.0 p.1 p.2

  contracted_two : (a m n : ℕ) → UnfoldsTo c k (Contracted a m n) → (rs : List (List ℕ)) → Ranked rs c → two_of m n (length (spans rs (expr a))) ≡ true
  contracted_two a m n u = let p = contracted_type (typed_as (contracted m n (expr a)) u.1) in two_here a m n p.0 u.0 p.1 p.2

  turned_traced : (a m n d e : ℕ) → UnfoldsTo c k (Turned a m n) → ((xs : List ℕ) → two_of m n (length xs) ≡ true → 1 ≤ d → d ≤ length (exchanged m n xs) → Comes (exchanged m n xs) d xs e) → Traced c k d (source.Operand a e)
  unfolding spans
  turned_traced a m n d e u f =
      (u.0, λ rs r. made (turned m n (expr a)) u.1 rs d e (spans rs (expr a)) (f (spans rs (expr a)) (turned_two a m n u rs r)))

  contracted_traced : (a m n d e : ℕ) → UnfoldsTo c k (Contracted a m n) → ((xs : List ℕ) → two_of m n (length xs) ≡ true → 1 ≤ d → d ≤ length (removed m n xs) → Comes (removed m n xs) d xs e) → Traced c k d (source.Operand a e)
  unfolding spans
  contracted_traced a m n d e u f =
      (u.0, λ rs r. made (contracted m n (expr a)) u.1 rs d e (spans rs (expr a)) (f (spans rs (expr a)) (contracted_two a m n u rs r)))

  pub first_turned : (a m n d : ℕ) → UnfoldsTo c k (Turned a m n) → d ≡ m → Traced c k d (source.Operand a n)
  first_turned a m n d u e =
      subst (λ i. Traced c k i (source.Operand a n)) (sym e) (turned_traced a m n m n u (λ xs w f l. first_comes m n xs w))

  pub second_turned : (a m n d : ℕ) → UnfoldsTo c k (Turned a m n) → d ≡ n → Traced c k d (source.Operand a m)
  second_turned a m n d u e =
      subst (λ i. Traced c k i (source.Operand a m)) (sym e) (turned_traced a m n n m u (λ xs w f l. second_comes m n xs w))

  pub other_turned : (a m n d : ℕ) → UnfoldsTo c k (Turned a m n) → (d ≡ m → ⊥) → (d ≡ n → ⊥) → Traced c k d (source.Operand a d)
  other_turned a m n d u g h = turned_traced a m n d d u (λ xs w f l. other_comes m n d xs w g h f l)

  pub before_contracted : (a m n d : ℕ) → UnfoldsTo c k (Contracted a m n) → d < m → Traced c k d (source.Operand a d)
  before_contracted a m n d u h = contracted_traced a m n d d u (λ xs w f l. before_comes m n d xs w h f)

  pub between_contracted : (a m n d : ℕ) → UnfoldsTo c k (Contracted a m n) → m ≤ d → d + 1 < n → Traced c k d (source.Operand a (d + 1))
  between_contracted a m n d u g h = contracted_traced a m n d (d + 1) u (λ xs w f l. between_comes m n d xs w g h)

  pub after_contracted : (a m n d : ℕ) → UnfoldsTo c k (Contracted a m n) → m ≤ d → n ≤ d + 1 → Traced c k d (source.Operand a (d + 2))
  after_contracted a m n d u g h = contracted_traced a m n d (d + 2) u (λ xs w f l. after_comes m n d xs w g h l)

-- over a lawful store, nodes have the rank that the verdict found
pub ranked : {E : Type 0} {z : E} (b : Meaning E) → Lawful z b → (c : Contents) → Judged c → c.shapes ≡ b.shapes → Ranked b.reach c
ranked b law c j q k t = spans_length b law (subst (λ ss. Typed ss (expression_of c.nodes k) (info_at c.infos k).extents) q (j.nodes k t).typed)

-- a dimension followed down
module _ {rs : List (List ℕ)} {c : Contents} (r : Ranked rs c) {n d k e : ℕ} where
  pub follow_down : {a i : ℕ} → Follows rs c n d k e → Traced c k e (source.Operand a i) → Follows rs c n d a i
  follow_down {a} h t =
      let p = t.1 rs r h.low h.high in
      record { there = operand_there c k a h.there t.0; low = p.1; high = p.2; same = sym p.0 ∙ h.same }

  pub follow_end : (v i : ℕ) → length c.shapes ≡ length rs → Follows rs c n d k e → Traced c k e (source.Variable v i) → extent_answer rs v i ≡ done (at1 (spans rs (expression_of c.nodes n)) d)
  follow_end v i q h t =
      let p = t.1 rs r h.low h.high in
      cond-true (has rs v && (leb 1 i && leb i (length (pick rs v)))) _ _
      (and_from (has rs v) (leb 1 i && leb i (length (pick rs v))) (subst (λ m. (leb 1 v && leb v m) ≡ true) q t.0) (counted (length (pick rs v)) i p.1 p.2))
      ∙ ap done (sym p.0 ∙ h.same)

  pub follow_small : Judged c → Follows rs c n d k e → e ≤ 64
  follow_small j h = omega (arith, h.high, r k h.there, (j.nodes k h.there).rank)

-- an index against the extents, dimension by dimension
module _ (es cs : List ℕ) (d : ℕ) where
  pub below_first : d < length es → d < length cs → get_or cs d 0 < 1 → within (drop d es) (drop d cs) ≡ false
  below_first l m h = within_more es cs d l m ∙ within_low (get_or es d 0) (get_or cs d 0) (drop (d + 1) es) (drop (d + 1) cs) h

  pub past_limit : d < length es → d < length cs → at1 es (d + 1) < get_or cs d 0 → within (drop d es) (drop d cs) ≡ false
  past_limit l m h = within_more es cs d l m ∙ within_high (get_or es d 0) (get_or cs d 0) (drop (d + 1) es) (drop (d + 1) cs) (omega (arith, h, at1_next es d))

  pub up_to_limit : d < length es → d < length cs → 1 ≤ get_or cs d 0 → get_or cs d 0 ≤ at1 es (d + 1) → within (drop (d + 1) es) (drop (d + 1) cs) ≡ within (drop d es) (drop d cs)
  up_to_limit l m f h =
      sym (within_more es cs d l m ∙ within_step (get_or es d 0) (get_or cs d 0) (drop (d + 1) es) (drop (d + 1) cs) f (omega (arith, h, at1_next es d)))

  pub all_within : length es ≤ d → length cs ≤ d → within (drop d es) (drop d cs) ≡ true
  all_within l m = ap (λ t. within t (drop d cs)) (drop_all d es l) ∙ ap (within []) (drop_all d cs m)

-- a node is there of which it is told what it is made of
pub told_there : (c : Contents) (k : ℕ) (x : Option Term) → Told c k x → is_some x ≡ true → node_there c k ≡ true
told_there c k (Some y) h e = h.0
told_there c k None h e = absurd (false≢true e)
