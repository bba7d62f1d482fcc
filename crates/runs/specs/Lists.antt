-- Lists of calls with replies, as the code has them.
--   call_of, outcome_of, reply_of   the call, the outcome and the reply that a value of the code stands for; a step has as many
--                       elements of a tray with so much room as it asks for, and all where it asks for more
--   calls_of, lefts_of, rights_of   the calls of a list, and what its two runs replied
use Rattle.std.specs.Prelude.{ℕ, cond, List, map, Result, nat_lt}
use Rattle.refusals.specs.Refusals.{answer}
use Rattle.refusals.specs.declared.refusal.Refusal.{Refusal}
use Rattle.indices.specs.Coordinates.{coordinates}
use Rattle.runs.specs.declared.list.Call as code
use Rattle.runs.specs.declared.list.Call.TheVariants.{Fetch, Put, Step, Rewind}
use Rattle.runs.specs.declared.list.Entry.{Entry}
use Rattle.runs.specs.declared.list.Outcome as told
use Rattle.runs.specs.declared.list.Outcome.TheVariants.{Element, Statement, Done}
use Rattle.runs.specs.Plain.{Call, fetch, put, step, rewind, Outcome, Reply, element, statement, nothing}

abbrev pub call_of : {E : Type 0} → ℕ → code.Call E → Call E
call_of room (Fetch v i) = fetch v (coordinates i)
call_of room (Put v i x) = put v (coordinates i) x
call_of room (Step size) = step (cond (nat_lt size room) size room)
call_of room Rewind = rewind

abbrev pub outcome_of : {E : Type 0} → told.Outcome E → Outcome E
outcome_of (Element x) = element x
outcome_of (Statement n) = statement n
outcome_of Done = nothing

abbrev pub reply_of : {E : Type 0} → Result (told.Outcome E) Refusal → Reply E
reply_of r = answer outcome_of r

abbrev pub calls_of : {E : Type 0} → ℕ → List (Entry E) → List (Call E)
calls_of room es = map (λ e. call_of room e.call) es

abbrev pub lefts_of : {E : Type 0} → List (Entry E) → List (Reply E)
lefts_of es = map (λ e. reply_of e.left) es

abbrev pub rights_of : {E : Type 0} → List (Entry E) → List (Reply E)
rights_of es = map (λ e. reply_of e.right) es
