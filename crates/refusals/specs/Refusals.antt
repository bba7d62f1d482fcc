-- Answers of calls, in the numbers and positions that docs/SPECIFICATION.md gives.
--   number_of, position_of   each refusal's number and position
--   Answer                   a call is done with a value, or refused with a number and a position
--   and_then                 a question that is asked after another was answered
--   answer, answered         the answer that a result is, at what is seen of its value; at the value itself
--   opened, held             of a call that takes memory: its answer, and the memory, kept or given back
use Rattle.std.specs.Prelude.{ℕ, Ok, Err, Result}
use Rattle.refusals.specs.declared.refusal.Declined.{Declined}
use Rattle.refusals.specs.declared.refusal.Refusal.{Refusal}
use Rattle.refusals.specs.declared.refusal.Refusal.TheVariants.{NoSuchVariable, OutOfReach, SpareTakesZero, TooManyDeclarations, BadDeclaration, TooFewElements, BadHeader, BadPair, BadCode, BadVectorLength, TooWide, OtherCountBelow, OtherShapeBelow, TooManyRows, BadNode, BadOperand, NoType, TooDeep, BadTarget, OtherType, OtherCountDeclared, OtherShapeDeclared, OutOfShape, ShortTray, NoStatementLeft, ValueNotTaken, OutOfSheet}

abbrev pub number_of : Refusal → ℕ
number_of NoSuchVariable = 1
number_of OutOfReach = 2
number_of SpareTakesZero = 3
number_of TooManyDeclarations = 4
number_of (BadDeclaration k) = 4
number_of TooFewElements = 5
number_of BadHeader = 6
number_of (BadPair k) = 7
number_of (BadCode k) = 8
number_of BadVectorLength = 9
number_of (TooWide k) = 10
number_of OtherCountBelow = 11
number_of (OtherShapeBelow k) = 11
number_of TooManyRows = 12
number_of (BadNode k) = 13
number_of (BadOperand k) = 14
number_of (NoType k) = 15
number_of (TooDeep k) = 16
number_of (BadTarget k) = 17
number_of (OtherType k) = 18
number_of OtherCountDeclared = 19
number_of (OtherShapeDeclared k) = 19
number_of OutOfShape = 20
number_of ShortTray = 21
number_of NoStatementLeft = 22
number_of ValueNotTaken = 23
number_of OutOfSheet = 24

abbrev pub position_of : Refusal → ℕ
position_of NoSuchVariable = 0
position_of OutOfReach = 0
position_of SpareTakesZero = 0
position_of TooManyDeclarations = 0
position_of (BadDeclaration k) = k
position_of TooFewElements = 0
position_of BadHeader = 0
position_of (BadPair k) = k
position_of (BadCode k) = k
position_of BadVectorLength = 0
position_of (TooWide k) = k
position_of OtherCountBelow = 0
position_of (OtherShapeBelow k) = k
position_of TooManyRows = 0
position_of (BadNode k) = k
position_of (BadOperand k) = k
position_of (NoType k) = k
position_of (TooDeep k) = k
position_of (BadTarget k) = k
position_of (OtherType k) = k
position_of OtherCountDeclared = 0
position_of (OtherShapeDeclared k) = k
position_of OutOfShape = 0
position_of ShortTray = 0
position_of NoStatementLeft = 0
position_of ValueNotTaken = 0
position_of OutOfSheet = 0

pub data Answer (X : Type 0) : Type 0 where
  done : X → Answer X
  refused : ℕ → ℕ → Answer X

abbrev pub and_then : {X Y : Type 0} → Answer X → (X → Answer Y) → Answer Y
and_then (done x) f = f x
and_then (refused n p) f = refused n p

abbrev pub answer : {X Y : Type 0} → (X → Y) → Result X Refusal → Answer Y
answer f (Ok x) = done (f x)
answer f (Err e) = refused (number_of e) (position_of e)

abbrev pub answered : {X : Type 0} → Result X Refusal → Answer X
answered r = answer (λ x. x) r

abbrev pub opened : {X Y M : Type 0} → (X → Y) → Result X (Declined M) → Answer Y
opened f (Ok x) = done (f x)
opened f (Err d) = refused (number_of d.refusal) (position_of d.refusal)

abbrev pub held : {X M : Type 0} → (X → M) → Result X (Declined M) → M
held f (Ok x) = f x
held f (Err d) = d.value
