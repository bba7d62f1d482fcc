-- What the calls of a run do to the elements of a sheet's variables, and plain evaluation.
--   Call              fetch and put at a place, step with a tray of so many elements, rewind
--   Outcome, Reply    what a call that is done answers; what any call answers
--   State             an element for each place, and the number of the next statement
--   in_sheet          a place is in shape
--   fetch_answer, put_answer, step_answer   what the calls answer, with refusals 20, 21 and 22
--   put, stepped      the state after a put at a place in shape, and after a step that works
--   reply, after      the answer to any call, and the state after it; contractions go up to the given extents of the variables
--   replies, afters   the same of a list of calls
--   plain_replies, plain_after   plain evaluation: contractions go up to the extents, from the first statement on
use Rattle.std.specs.Prelude.{ℕ, ◌+◌, Bool, cond, ◌&&◌, List, [], ◌∷◌, length, ◌==◌, nat_le}
use Rattle.elements.specs.Algebra.{Algebra}
use Rattle.evaluation.specs.Tray.{statement_of}
use Rattle.evaluation.specs.Value.{value}
use Rattle.indices.specs.Dimensions.{same}
use Rattle.indices.specs.Places.{pick, has, within}
use Rattle.refusals.specs.Refusals.{Answer, done, refused, and_then}
use Rattle.sheets.specs.Sheets.{Contents}
use Rattle.sheets.specs.Terms.{expression_of}

pub data Call (E : Type 0) : Type 0 where
  fetch : ℕ → List ℕ → Call E
  put : ℕ → List ℕ → E → Call E
  step : ℕ → Call E
  rewind : Call E

-- the element fetched, the number of the statement just done, or nothing more
pub data Outcome (E : Type 0) : Type 0 where
  element : E → Outcome E
  statement : ℕ → Outcome E
  nothing : Outcome E

abbrev pub Reply : Type 0 → Type 0
Reply E = Answer (Outcome E)

pub record State (E : Type 0) : Type 0 where
  pub at : ℕ → List ℕ → E
  pub next : ℕ

abbrev pub in_sheet : Contents → ℕ → List ℕ → Bool
in_sheet c v i = has c.shapes v && within (pick c.shapes v) i

abbrev pub fetch_answer : {E : Type 0} → Contents → State E → ℕ → List ℕ → Answer E
fetch_answer c s v i = cond (in_sheet c v i) (done (s.at v i)) (refused 20 0)

abbrev pub put_answer : Contents → ℕ → List ℕ → Answer Unit
put_answer c v i = cond (in_sheet c v i) (done tt) (refused 20 0)

-- a tray has at least 4,096 elements, and a statement is left
abbrev pub works : Contents → ℕ → ℕ → Bool
works c next size = nat_le 4096 size && nat_le next (length c.statements)

abbrev pub step_answer : Contents → ℕ → ℕ → Answer ℕ
step_answer c next size = cond (nat_le 4096 size) (cond (nat_le next (length c.statements)) (done next) (refused 22 0)) (refused 21 0)

abbrev pub put_at : {E : Type 0} → State E → ℕ → List ℕ → E → State E
put_at s v i x = record { at = λ w j. cond (w == v && same j i) x (s.at w j); next = s.next }

-- the next statement's variable gets the value of its node everywhere; rs are the limits
abbrev pub stepped : {E : Type 0} → Algebra E → Contents → List (List ℕ) → State E → State E
stepped a c rs s =
    record {
      at = λ w j. cond (w == (statement_of c s.next).variable) (value a s.at rs (expression_of c.nodes (statement_of c s.next).node) j) (s.at w j);
      next = s.next + 1;
    }

abbrev pub rewound : {E : Type 0} → State E → State E
rewound s = record { at = s.at; next = 1 }

abbrev pub reply : {E : Type 0} → Contents → State E → Call E → Reply E
reply c s (fetch v i) = and_then (fetch_answer c s v i) (λ x. done (element x))
reply c s (put v i x) = and_then (put_answer c v i) (λ _. done nothing)
reply c s (step size) = and_then (step_answer c s.next size) (λ n. done (statement n))
reply c s rewind = done nothing

abbrev pub after : {E : Type 0} → Algebra E → Contents → List (List ℕ) → State E → Call E → State E
after a c rs s (fetch v i) = s
after a c rs s (put v i x) = cond (in_sheet c v i) (put_at s v i x) s
after a c rs s (step size) = cond (works c s.next size) (stepped a c rs s) s
after a c rs s rewind = rewound s

abbrev pub replies : {E : Type 0} → Algebra E → Contents → List (List ℕ) → State E → List (Call E) → List (Reply E)
replies a c rs s [] = []
replies a c rs s (k ∷ ks) = reply c s k ∷ replies a c rs (after a c rs s k) ks

abbrev pub afters : {E : Type 0} → Algebra E → Contents → List (List ℕ) → State E → List (Call E) → State E
afters a c rs s [] = s
afters a c rs s (k ∷ ks) = afters a c rs (after a c rs s k) ks

abbrev pub plain_replies : {E : Type 0} → Algebra E → Contents → (ℕ → List ℕ → E) → List (Call E) → List (Reply E)
plain_replies a c at ks = replies a c c.shapes (record { at = at; next = 1 }) ks

abbrev pub plain_after : {E : Type 0} → Algebra E → Contents → (ℕ → List ℕ → E) → List (Call E) → State E
plain_after a c at ks = afters a c c.shapes (record { at = at; next = 1 }) ks
