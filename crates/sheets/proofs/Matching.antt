-- One node: the rule's answer and the expression's type are the same. Assumes nothing.
use Rattle.std.proofs.Common.{◌≡◌, ℕ, ◌+◌, ◌<◌, ◌≤◌, Bool, true, false, cond, ◌&&◌, eqb, ltb, leb, ◌⊎◌, List, [], ◌∷◌, ◌++◌, length, get_or, Some, None, Option, sym, refl, ap, ◌∙◌, subst, inl, inr, ⊎_elim, arith}
use Rattle.std.proofs.lemmas.List.{get_or_append_left, get_or_push, length_push, nil_from_length}
use Rattle.std.proofs.lemmas.Bool.{and_parts, and_from, leb-true, le-leb, ltb-true, eqb-true, eq-eqb, cond-true, cases_lt, false≢true}
use Rattle.indices.specs.Dimensions.{same, two_of, exchanged, removed}
use Rattle.indices.specs.Places.{pick, at1}
use Rattle.refusals.specs.Refusals.{done, refused}
use Rattle.indices.proofs.Equal.{same_equal, same_self}
use Rattle.sheets.specs.declared.form.Form.{Form}
use Rattle.sheets.specs.declared.form.Form.TheVariants.{Variable, Outer, Pointwise, Transposition, Contraction}
use Rattle.sheets.specs.declared.node.Node.{Node}
use Rattle.sheets.specs.declared.term.Operation.{Operation}
use Rattle.sheets.specs.declared.term.Operation.TheVariants.{Plus, Minus, Times, Over}
use Rattle.sheets.specs.Forms.{tidy}
use Rattle.sheets.specs.Rules.{Info, nothing, info_at, earlier, present, larger, above, paired, scalar, scaled, divided, pointwise as pointwise_of, ruled, bounded, bounded_answer, form_answer}
use Rattle.sheets.specs.Language.{Expr, plus, minus, times, over, meant, Typed, variable, outer, pointwise, turned, contracted, of_variable, of_outer_product, element_by_element, scalar_times, divided_by_scalar, of_transposition, of_contraction, depth, nesting, of_one, of_two, formed, expr_at, operand, formed_as}
use Rattle.sheets.proofs.Typing.{same_type, variable_type, outer_types, plus_types, minus_types, times_types, over_types, turned_type, contracted_type}

-- what is known of a node is true of its expression
pub record Known (ss : List (List ℕ)) (o : Option Expr) (i : Info) : Type 0 where
  pub expr : Expr
  pub unfolds : o ≡ Some expr
  pub typed : Typed ss expr i.extents
  pub deep : depth expr ≡ i.depth
  pub nested : nesting expr ≡ i.nesting

-- of every node so far
pub record Related (ss : List (List ℕ)) (es : List (Option Expr)) (is : List Info) : Type 0 where
  pub even : length es ≡ length is
  pub known : (j : ℕ) → 1 ≤ j → j ≤ length is → Known ss (expr_at es j) (info_at is j)
  pub inside : (j : ℕ) → 1 ≤ j → j ≤ length is → bounded (info_at is j) ≡ true

module _ {X : Type 0} where
  some_when : (b : Bool) (x y : X) → cond b (Some y) None ≡ Some x → (b ≡ true) × (y ≡ x)
  some_when true x y e = (refl, cc)
  some_when false x y e = absurd (cc)

  pub there_when : (b : Bool) (o : Option X) (x : X) → cond b o None ≡ Some x → (b ≡ true) × (o ≡ Some x)
  there_when true o x e = (refl, e)
  there_when false o x e = absurd (cc)

  pub at_left : (xs : List X) (x d : X) (j : ℕ) → j ≤ length xs → get_or (d ∷ (xs ++ x ∷ [])) j d ≡ get_or (d ∷ xs) j d
  at_left xs x d j h = get_or_append_left (d ∷ xs) (x ∷ []) d j (omega arith)

  pub at_end : (xs : List X) (x d : X) (j : ℕ) → j ≡ length xs + 1 → get_or (d ∷ (xs ++ x ∷ [])) j d ≡ x
  at_end xs x d j h = get_or_push (d ∷ xs) x d j (omega arith)

-- a scalar has no extents
no_extents : (i : Info) → scalar i.extents ≡ true → i.extents ≡ []
no_extents i h = nil_from_length i.extents (eqb-true (length i.extents) 0 h)

scalar_from : (i : Info) → i.extents ≡ [] → scalar i.extents ≡ true
scalar_from i e = eq-eqb (length i.extents) 0 (ap length e)

-- the four questions, answered
asked : (k : ℕ) (t p : Bool) (o : Option Info) (i : Info) → cond t (cond p (bounded_answer k o) (refused 14 k)) (refused 13 k) ≡ done i → (t ≡ true) × (p ≡ true) × (o ≡ Some i) × (bounded i ≡ true)
asked k false p o i e = absurd (cc)
asked k true false o i e = absurd (cc)
asked k true true None i e = absurd (cc)
asked k true true (Some x) i e = by (bounded x) refl e
  where
    by : (b : Bool) → bounded x ≡ b → cond b (done x) (refused 16 k) ≡ done i → (true ≡ true) × (true ≡ true) × (Some x ≡ Some i) × (bounded i ≡ true)
    by true q e = let f : x ≡ i = cc in (refl, refl, ap Some f, ap bounded (sym f) ∙ q)
    by false q e = absurd (cc)

module _ {ss : List (List ℕ)} where
  moved : (o : Option Expr) (x y : Info) → x ≡ y → Known ss o x → Known ss o y
  moved o x y e r = subst (λ i. Known ss o i) e r

  pub renamed : (o p : Option Expr) (x : Info) → o ≡ p → Known ss o x → Known ss p x
  renamed o p x e r = subst (λ i. Known ss i x) e r

  -- over one operand
  turned_known : (m n : ℕ) (o : Option Expr) (x : Info) → Known ss o x → two_of m n (length x.extents) ≡ true → Known ss (of_one (turned m n) o) (record { extents = exchanged m n x.extents; depth = x.depth + 1; nesting = x.nesting })
  turned_known m n o x r h =
      record {
        expr = turned m n r.expr;
        unfolds = ap (of_one (turned m n)) r.unfolds;
        typed = of_transposition r.typed h;
        deep = ap (λ d. d + 1) r.deep;
        nested = r.nested;
      }

  contracted_known : (m n : ℕ) (o : Option Expr) (x : Info) → Known ss o x → two_of m n (length x.extents) ≡ true → at1 x.extents m ≡ at1 x.extents n → Known ss (of_one (contracted m n) o) (record { extents = removed m n x.extents; depth = x.depth + 1; nesting = x.nesting + 1 })
  contracted_known m n o x r h e =
      record {
        expr = contracted m n r.expr;
        unfolds = ap (of_one (contracted m n)) r.unfolds;
        typed = of_contraction r.typed h e;
        deep = ap (λ d. d + 1) r.deep;
        nested = ap (λ d. d + 1) r.nested;
      }

  -- over two
  module _ (o p : Option Expr) (x y : Info) (r : Known ss o x) (s : Known ss p y) where
    made_of_two : (f : Expr → Expr → Expr) → of_two f o p ≡ Some (f r.expr s.expr)
    made_of_two f = ap (λ e. of_two f e p) r.unfolds ∙ ap (λ e. of_two f (Some r.expr) e) s.unfolds

    deeper : larger (depth r.expr) (depth s.expr) + 1 ≡ larger x.depth y.depth + 1
    deeper = let a = r.deep in let b = s.deep in cc

    nester : larger (nesting r.expr) (nesting s.expr) ≡ larger x.nesting y.nesting
    nester = let a = r.nested in let b = s.nested in cc

    two_over : (f : Expr → Expr → Expr) (es : List ℕ) → Typed ss (f r.expr s.expr) es → depth (f r.expr s.expr) ≡ larger (depth r.expr) (depth s.expr) + 1 → nesting (f r.expr s.expr) ≡ larger (nesting r.expr) (nesting s.expr) → Known ss (of_two f o p) (above x y es)
    two_over f es t d n = record { expr = f r.expr s.expr; unfolds = made_of_two f; typed = t; deep = d ∙ deeper; nested = n ∙ nester }

    outer_known : Known ss (of_two outer o p) (above x y (x.extents ++ y.extents))
    outer_known = two_over outer (x.extents ++ y.extents) (of_outer_product r.typed s.typed) refl refl

    paired_known : (i : Info) → paired x y ≡ Some i → (op : _) → Known ss (of_two (pointwise op) o p) i
    paired_known i e op =
        let q = some_when (same x.extents y.extents) i (above x y x.extents) e in
        let t = same_equal x.extents y.extents q.0 in
        moved (of_two (pointwise op) o p) (above x y x.extents) i q.1
        (two_over (pointwise op) x.extents (element_by_element r.typed (subst (λ u. Typed ss s.expr u) (sym t) s.typed)) refl refl)

    -- where an operand may be a scalar
    beside_known : (b : Bool) (es : List ℕ) (i : Info) (op : _) → cond b (Some (above x y es)) (paired x y) ≡ Some i → (b ≡ true → Typed ss (pointwise op r.expr s.expr) es) → Known ss (of_two (pointwise op) o p) i
    beside_known true es i op e t = let q : above x y es ≡ i = cc in moved (of_two (pointwise op) o p) (above x y es) i q (two_over (pointwise op) es (t refl) refl refl)
    beside_known false es i op e t = paired_known i e op

    pointwise_known : (op : Operation) (i : Info) → pointwise_of op x y ≡ Some i → Known ss (of_two (pointwise (meant op)) o p) i
    pointwise_known Plus i e = paired_known i e plus
    pointwise_known Minus i e = paired_known i e minus
    pointwise_known Times i e = beside_known (scalar x.extents) y.extents i times e (λ h. scalar_times (subst (λ u. Typed ss r.expr u) (no_extents x h) r.typed) s.typed)
    pointwise_known Over i e = beside_known (scalar y.extents) x.extents i over e (λ h. divided_by_scalar r.typed (subst (λ u. Typed ss s.expr u) (no_extents y h) s.typed))

-- the same of an expression that is given
record Given (ss : List (List ℕ)) (e : Expr) (i : Info) : Type 0 where
  typed : Typed ss e i.extents
  deep : depth e ≡ i.depth
  nested : nesting e ≡ i.nesting

-- what the rule gives is what the expression has
record Made (o : Option Info) (e : Expr) (t : List ℕ) : Type 0 where
  info : Info
  given : o ≡ Some info
  typed : info.extents ≡ t
  deep : depth e ≡ info.depth
  nested : nesting e ≡ info.nesting

given_from : (ss : List (List ℕ)) (o : Option Expr) (e : Expr) (i : Info) → o ≡ Some e → Known ss o i → Given ss e i
given_from ss o e i h r =
    let u = r.unfolds in
    let q : r.expr ≡ e = cc in
    subst (λ x. Given ss x i) q (record { typed = r.typed; deep = r.deep; nested = r.nested })

pub two_parts : (g : Expr → Expr → Expr) (o p : Option Expr) (e : Expr) → of_two g o p ≡ Some e → (x : Expr) × (y : Expr) × (o ≡ Some x) × (p ≡ Some y) × (g x y ≡ e)
two_parts g None p e h = absurd (cc)
two_parts g (Some x) None e h = absurd (cc)
two_parts g (Some x) (Some y) e h = (x, y, refl, refl, cc)

pub one_part : (g : Expr → Expr) (o : Option Expr) (e : Expr) → of_one g o ≡ Some e → (x : Expr) × (o ≡ Some x) × (g x ≡ e)
one_part g None e h = absurd (cc)
one_part g (Some x) e h = (x, refl, cc)

module _ {ss : List (List ℕ)} (x y : Info) (a b : Expr) (t : List ℕ) (r : Given ss a x) (s : Given ss b y) where
  larger_depth : larger (depth a) (depth b) + 1 ≡ larger x.depth y.depth + 1
  larger_depth = let d = r.deep in let e = s.deep in cc

  larger_nesting : larger (nesting a) (nesting b) ≡ larger x.nesting y.nesting
  larger_nesting = let d = r.nested in let e = s.nested in cc

  outer_made : Typed ss (outer a b) t → Made (Some (above x y (x.extents ++ y.extents))) (outer a b) t
  outer_made h =
      let q = outer_types h in
      let u = same_type r.typed q.2 in
      let v = same_type s.typed q.3 in
      let w = q.4 in
      record { info = above x y (x.extents ++ y.extents); given = refl; typed = cc; deep = larger_depth; nested = larger_nesting }

  paired_made : (op : _) → Typed ss a t → Typed ss b t → Made (paired x y) (pointwise op a b) t
  paired_made op h k =
      let u = same_type r.typed h in
      let v = same_type s.typed k in
      let w : same x.extents y.extents ≡ true = ap (same x.extents) (v ∙ sym u) ∙ same_self x.extents in
      record { info = above x y x.extents; given = cond-true (same x.extents y.extents) (Some (above x y x.extents)) None w; typed = u; deep = larger_depth; nested = larger_nesting }

  -- where an operand may be a scalar
  beside_made : (op : _) (c : Bool) (es : List ℕ) → es ≡ t → (Typed ss a t × Typed ss b t) ⊎ (c ≡ true) → Made (cond c (Some (above x y es)) (paired x y)) (pointwise op a b) t
  beside_made op true es e h = record { info = above x y es; given = refl; typed = e; deep = larger_depth; nested = larger_nesting }
  beside_made op false es e (inl p) = paired_made op p.0 p.1
  beside_made op false es e (inr p) = absurd (false≢true p)

  times_made : (Typed ss a t × Typed ss b t) ⊎ (Typed ss a [] × Typed ss b t) → Made (scaled x y) (pointwise times a b) t
  times_made (inl p) = beside_made times (scalar x.extents) y.extents (same_type s.typed p.1) (inl p)
  times_made (inr p) = beside_made times (scalar x.extents) y.extents (same_type s.typed p.1) (inr (scalar_from x (same_type r.typed p.0)))

  over_made : (Typed ss a t × Typed ss b t) ⊎ (Typed ss a t × Typed ss b []) → Made (divided x y) (pointwise over a b) t
  over_made (inl p) = beside_made over (scalar y.extents) x.extents (same_type r.typed p.0) (inl p)
  over_made (inr p) = beside_made over (scalar y.extents) x.extents (same_type r.typed p.0) (inr (scalar_from y (same_type s.typed p.1)))

  pointwise_made : (op : Operation) → Typed ss (pointwise (meant op) a b) t → Made (pointwise_of op x y) (pointwise (meant op) a b) t
  pointwise_made Plus h = let p = plus_types h in paired_made plus p.0 p.1
  pointwise_made Minus h = let p = minus_types h in paired_made minus p.0 p.1
  pointwise_made Times h = times_made (times_types h)
  pointwise_made Over h = over_made (over_types h)

-- a node after those so far
module _ (ss : List (List ℕ)) (es : List (Option Expr)) (is : List Info) (all : Related ss es is) (k : ℕ) (next : k ≡ length is + 1) (nd : Node) where
  before : (j : ℕ) → earlier j k ≡ true → (1 ≤ j) × (j ≤ length is)
  before j h =
      let p = and_parts (leb 1 j) (ltb j k) h in
      let a = leb-true 1 j p.0 in
      let b = ltb-true j k p.1 in
      (a, omega arith)

  operand_at : (j : ℕ) → earlier j k ≡ true → Known ss (expr_at es j) (info_at is j)
  operand_at j h = let p = before j h in all.known j p.0 p.1

  operand_known : (j : ℕ) → earlier j k ≡ true → Known ss (operand es k j) (info_at is j)
  operand_known j h = renamed (expr_at es j) (operand es k j) (info_at is j) (sym (cond-true (earlier j k) (expr_at es j) None h)) (operand_at j h)

  two_known : (P : Type 0) → (earlier nd.a k && earlier nd.b k) ≡ true → (Known ss (operand es k nd.a) (info_at is nd.a) → Known ss (operand es k nd.b) (info_at is nd.b) → P) → P
  two_known P h f = let p = and_parts (earlier nd.a k) (earlier nd.b k) h in f (operand_known nd.a p.0) (operand_known nd.b p.1)

  form_sound : (f : Form) (i : Info) → present ss k f nd ≡ true → ruled ss f nd (info_at is nd.a) (info_at is nd.b) ≡ Some i → Known ss (formed f nd (operand es k nd.a) (operand es k nd.b)) i
  form_sound Variable i h e =
      let q : ◌≡◌ {A = Info} (record { extents = pick ss nd.a; depth = 1; nesting = 0 }) i = cc in
      moved (Some (variable nd.a)) _ i q (record { expr = variable nd.a; unfolds = refl; typed = of_variable h; deep = refl; nested = refl })
  form_sound Outer i h e =
      two_known _ h (λ r s.
      let q : above (info_at is nd.a) (info_at is nd.b) ((info_at is nd.a).extents ++ (info_at is nd.b).extents) ≡ i = cc in
      moved _ _ i q (outer_known _ _ _ _ r s))
  form_sound (Pointwise op) i h e = two_known _ h (λ r s. pointwise_known _ _ _ _ r s op i e)
  form_sound Transposition i h e =
      let x = info_at is nd.a in
      let p = some_when (two_of nd.m nd.n (length x.extents)) i _ e in
      moved _ _ i p.1 (turned_known nd.m nd.n (operand es k nd.a) x (operand_known nd.a h) p.0)
  form_sound Contraction i h e =
      let x = info_at is nd.a in
      let p = there_when (two_of nd.m nd.n (length x.extents)) _ i e in
      let q = some_when (eqb (at1 x.extents nd.m) (at1 x.extents nd.n)) i _ p.1 in
      moved _ _ i q.1 (contracted_known nd.m nd.n (operand es k nd.a) x (operand_known nd.a h) p.0 (eqb-true _ _ q.0))

  pub sound : (f : Option Form) (i : Info) → form_answer ss k is nd f ≡ done i → Known ss (formed_as es k nd f) i × (bounded i ≡ true)
  sound None i e = absurd (cc)
  sound (Some f) i e =
      let p = asked k (tidy f nd) (present ss k f nd) (ruled ss f nd (info_at is nd.a) (info_at is nd.b)) i e in
      let r = form_sound f i p.1 p.2 in
      let o = formed f nd (operand es k nd.a) (operand es k nd.b) in
      (renamed o (formed_as es k nd (Some f)) i (sym (cond-true (tidy f nd) o None p.0)) r, p.3)

  -- and the way back
  operand_given : (j : ℕ) (e : Expr) → operand es k j ≡ Some e → (earlier j k ≡ true) × Given ss e (info_at is j)
  operand_given j e h =
      let p = there_when (earlier j k) (expr_at es j) e h in
      (p.0, given_from ss (expr_at es j) e (info_at is j) p.1 (operand_at j p.0))

  two_made : (g : Expr → Expr → Expr) (o : Option Info) (e : Expr) (t : List ℕ) → of_two g (operand es k nd.a) (operand es k nd.b) ≡ Some e → Typed ss e t → ((x y : Expr) → Given ss x (info_at is nd.a) → Given ss y (info_at is nd.b) → Typed ss (g x y) t → Made o (g x y) t) → ((earlier nd.a k && earlier nd.b k) ≡ true) × Made o e t
  two_made g o e t h w f =
      let p = two_parts g (operand es k nd.a) (operand es k nd.b) e h in
      let a = operand_given nd.a p.0 p.2 in
      let b = operand_given nd.b p.1 p.3 in
      let m = f p.0 p.1 a.1 b.1 (subst (λ u. Typed ss u t) (sym p.4) w) in
      (and_from (earlier nd.a k) (earlier nd.b k) a.0 b.0, subst (λ u. Made o u t) p.4 m)

  one_made : (g : Expr → Expr) (o : Option Info) (e : Expr) (t : List ℕ) → of_one g (operand es k nd.a) ≡ Some e → Typed ss e t → ((x : Expr) → Given ss x (info_at is nd.a) → Typed ss (g x) t → Made o (g x) t) → (earlier nd.a k ≡ true) × Made o e t
  one_made g o e t h w f =
      let p = one_part g (operand es k nd.a) e h in
      let a = operand_given nd.a p.0 p.1 in
      let m = f p.0 a.1 (subst (λ u. Typed ss u t) (sym p.2) w) in
      (a.0, subst (λ u. Made o u t) p.2 m)

  form_complete : (f : Form) (e : Expr) (t : List ℕ) → formed f nd (operand es k nd.a) (operand es k nd.b) ≡ Some e → Typed ss e t → (present ss k f nd ≡ true) × Made (ruled ss f nd (info_at is nd.a) (info_at is nd.b)) e t
  form_complete Variable e t h w =
      let q : variable nd.a ≡ e = cc in
      let p = variable_type (subst (λ u. Typed ss u t) (sym q) w) in
      (p.0, subst (λ u. Made (Some (record { extents = pick ss nd.a; depth = 1; nesting = 0 })) u t) q (record { info = record { extents = pick ss nd.a; depth = 1; nesting = 0 }; given = refl; typed = p.1; deep = refl; nested = refl }))
  form_complete Outer e t h w = two_made outer _ e t h w (λ a b r s v. outer_made _ _ a b t r s v)
  form_complete (Pointwise op) e t h w = two_made (pointwise (meant op)) _ e t h w (λ a b r s v. pointwise_made _ _ a b t r s op v)
  form_complete Transposition e t h w =
      one_made (turned nd.m nd.n) _ e t h w (λ a r v.
      let x = info_at is nd.a in
      let p = turned_type v in
      let u = same_type r.typed p.1 in
      let c : two_of nd.m nd.n (length x.extents) ≡ true = ap (λ l. two_of nd.m nd.n (length l)) u ∙ p.2 in
      record {
        info = record { extents = exchanged nd.m nd.n x.extents; depth = x.depth + 1; nesting = x.nesting };
        given = cond-true _ _ _ c;
        typed = ap (exchanged nd.m nd.n) u ∙ p.3;
        deep = ap (λ d. d + 1) r.deep;
        nested = r.nested;
      })
  form_complete Contraction e t h w =
      one_made (contracted nd.m nd.n) _ e t h w (λ a r v.
      let x = info_at is nd.a in
      let p = contracted_type v in
      let u = same_type r.typed p.1 in
      let c : two_of nd.m nd.n (length x.extents) ≡ true = ap (λ l. two_of nd.m nd.n (length l)) u ∙ p.2 in
      let d : at1 x.extents nd.m ≡ at1 x.extents nd.n = ap (λ l. at1 l nd.m) u ∙ p.3 ∙ ap (λ l. at1 l nd.n) (sym u) in
      record {
        info = record { extents = removed nd.m nd.n x.extents; depth = x.depth + 1; nesting = x.nesting + 1 };
        given = cond-true (two_of nd.m nd.n (length x.extents)) _ _ c ∙ cond-true (eqb (at1 x.extents nd.m) (at1 x.extents nd.n)) _ _ (eq-eqb _ _ d);
        typed = ap (removed nd.m nd.n) u ∙ p.4;
        deep = ap (λ d. d + 1) r.deep;
        nested = ap (λ d. d + 1) r.nested;
      })

  pub complete : (f : Option Form) (e : Expr) (t : List ℕ) → formed_as es k nd f ≡ Some e → Typed ss e t → length t ≤ 8 → depth e ≤ 16 → nesting e ≤ 3 → (i : Info) × (form_answer ss k is nd f ≡ done i)
  complete None e t h w l m n = absurd (cc)
  complete (Some f) e t h w l m n =
      let p = there_when (tidy f nd) (formed f nd (operand es k nd.a) (operand es k nd.b)) e h in
      let q = form_complete f e t p.1 w in
      let r = q.1 in
      let i = r.info in
      let a = ap length r.typed in
      let b = r.deep in
      let c = r.nested in
      let x : bounded i ≡ true = and_from (leb (length i.extents) 8) _ (le-leb (length i.extents) 8 (omega arith)) (and_from (leb i.depth 16) (leb i.nesting 3) (le-leb i.depth 16 (omega arith)) (le-leb i.nesting 3 (omega arith))) in
      (i, cond-true (tidy f nd) _ _ p.0 ∙ cond-true (present ss k f nd) _ _ q.0 ∙ ap (bounded_answer k) r.given ∙ cond-true (bounded i) _ _ x)

-- one more node
pub related_push : (ss : List (List ℕ)) (es : List (Option Expr)) (is : List Info) (x : Option Expr) (i : Info) → Related ss es is → Known ss x i → bounded i ≡ true → Related ss (es ++ x ∷ []) (is ++ i ∷ [])
related_push ss es is x i all r b =
    record {
      even = rw (length_push es x, length_push is i) (ap (λ n. n + 1) all.even);
      known = λ j f l. ⊎_elim
          (λ (h : length is < j).
          let q : j ≡ length is + 1 = omega (arith, length_push is i) in
          let p = at_end es x None j (q ∙ ap (λ n. n + 1) (sym all.even)) in
          subst (λ v. Known ss (expr_at (es ++ x ∷ []) j) v) (sym (at_end is i nothing j q)) (renamed x _ i (sym p) r))
          (λ (h : j ≤ length is).
          let p = at_left es x None j (omega (arith, all.even)) in
          subst (λ v. Known ss (expr_at (es ++ x ∷ []) j) v) (sym (at_left is i nothing j h)) (renamed _ _ (info_at is j) (sym p) (all.known j f h)))
          (cases_lt (length is) j);
      inside = λ j f l. ⊎_elim
          (λ (h : length is < j).
          let q : j ≡ length is + 1 = omega (arith, length_push is i) in
          ap bounded (at_end is i nothing j q) ∙ b)
          (λ (h : j ≤ length is). ap bounded (at_left is i nothing j h) ∙ all.inside j f h)
          (cases_lt (length is) j);
    }
