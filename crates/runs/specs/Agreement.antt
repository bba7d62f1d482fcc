-- Runs of one checked sheet, and what any two of them have in common.
--   Point       where a run stands: what its store means, and the next statement
--   opening     where it stands once it is opened
--   Moves       one call leads from a point to a point with a reply; every place in reach is pinned
--   Chain       a list of calls does, one after the other
--   Stands      a point after calls: the replies and the elements in shape are those of plain evaluation, and padded places are zero
--   Always      every chain of calls from the opening over a store stands
--   Alike       two runs after the first k of the calls: a point of each on its way from the opening to the end
--   Agreement   of two runs over two stores: what they do is a chain of calls, every chain stands, and they are alike all along
use Rattle.std.specs.Prelude.{◌≡◌, ℕ, ◌≤◌, true, false, List, [], ◌∷◌, length, take, drop}
use Rattle.elements.specs.Algebra.{Algebra}
use Rattle.evaluation.specs.Law.{Shows}
use Rattle.sheets.specs.Sheets.{Contents}
use Rattle.stores.specs.Meaning.{Meaning, in_shape, in_reach}
use Rattle.runs.specs.Plain.{Call, Reply, State, reply, after, plain_replies, plain_after}

pub record Point (E : Type 0) : Type 0 where
  pub meaning : Meaning E
  pub next : ℕ

abbrev pub state_of : {E : Type 0} → Point E → State E
state_of p = record { at = p.meaning.at; next = p.next }

abbrev pub opening : {E : Type 0} → Meaning E → Point E
opening b = record { meaning = b; next = 1 }

-- the store means what it meant, but for the elements of a state, which it holds at every place in reach
pub record Moved {E : Type 0} (b : Meaning E) (s : State E) (o : Meaning E) (n : ℕ) : Type 0 where
  pub shapes : o.shapes ≡ b.shapes
  pub reach : o.reach ≡ b.reach
  pub at : (v : ℕ) (i : List ℕ) → in_reach b v i ≡ true → o.at v i ≡ s.at v i
  pub next : n ≡ s.next

pub record Moves {E : Type 0} (a : Algebra E) (c : Contents) (k : Call E) (p : Point E) (r : Reply E) (q : Point E) : Type 0 where
  pub replied : r ≡ reply c (state_of p) k
  pub moved : Moved p.meaning (after a c p.meaning.reach (state_of p) k) q.meaning q.next

pub data Chain {E : Type 0} (a : Algebra E) (c : Contents) : Point E → List (Call E) → List (Reply E) → Point E → Type 0 where
  end : {p : Point E} → Chain a c p [] [] p
  call : {k : Call E} {ks : List (Call E)} {r : Reply E} {rs : List (Reply E)} {p q o : Point E} → Moves a c k p r q → Chain a c q ks rs o → Chain a c p (k ∷ ks) (r ∷ rs) o

pub record Stands {E : Type 0} (a : Algebra E) (c : Contents) (at : ℕ → List ℕ → E) (ks : List (Call E)) (rs : List (Reply E)) (q : Point E) : Type 0 where
  pub replied : rs ≡ plain_replies a c at ks
  pub shapes : q.meaning.shapes ≡ c.shapes
  pub shows : Shows (plain_after a c at ks).at q.meaning
  pub next : q.next ≡ (plain_after a c at ks).next
  pub spare : (v : ℕ) (i : List ℕ) → in_reach q.meaning v i ≡ true → in_shape q.meaning v i ≡ false → q.meaning.at v i ≡ a.zero

-- plain evaluation starts from elements that the store shows
abbrev pub Always : {E : Type 0} → Algebra E → Contents → (ℕ → List ℕ → E) → Meaning E → Type 0
Always {E} a c at b = (ks : List (Call E)) (rs : List (Reply E)) (q : Point E) → Chain a c (opening b) ks rs q → Stands a c at ks rs q

-- a point on the way from an opening to an end, after the first k calls
pub record Midway {E : Type 0} (a : Algebra E) (c : Contents) (b : Meaning E) (ks : List (Call E)) (rs : List (Reply E)) (o : Point E) (k : ℕ) : Type 0 where
  pub point : Point E
  pub before : Chain a c (opening b) (take k ks) (take k rs) point
  pub beyond : Chain a c point (drop k ks) (drop k rs) o

pub record Alike {E : Type 0} (a : Algebra E) (c : Contents) (x y : Meaning E) (ks : List (Call E)) (ls rs : List (Reply E)) (p q : Point E) (k : ℕ) : Type 0 where
  pub left : Midway a c x ks ls p k
  pub right : Midway a c y ks rs q k
  pub left_stands : Stands a c x.at (take k ks) (take k ls) left.point
  pub right_stands : Stands a c x.at (take k ks) (take k rs) right.point
  pub replies : take k ls ≡ take k rs
  pub elements : (v : ℕ) (i : List ℕ) → in_shape x v i ≡ true → left.point.meaning.at v i ≡ right.point.meaning.at v i

pub record Agreement {E : Type 0} (a : Algebra E) (c : Contents) (x y : Meaning E) (ks : List (Call E)) (ls rs : List (Reply E)) (u w : Meaning E) : Type 0 where
  pub left_next : ℕ
  pub right_next : ℕ
  pub left_runs : Chain a c (opening x) ks ls (record { meaning = u; next = left_next })
  pub right_runs : Chain a c (opening y) ks rs (record { meaning = w; next = right_next })
  pub left_always : Always a c x.at x
  pub right_always : Always a c y.at y
  -- where both stores hold equal elements in shape at opening
  pub alike : Shows y.at x → (k : ℕ) → k ≤ length ks → Alike a c x y ks ls rs (record { meaning = u; next = left_next }) (record { meaning = w; next = right_next }) k
