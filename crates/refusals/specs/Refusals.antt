-- The refusals and their numbers, for every call. Document 01: "1 function number outside 1 to 10; 2 output shorter than the
-- input (batch) or than the answered listing; 3 start beyond the input's length; 4 a count or a section is cut short; 5 a count
-- outside its limits; 6 bytes after the patterns". Document 02, P1: "7 for a count that is not F·N, .. 6 for bytes after the
-- answers; .. 8, the two listings ask different things". P6: "12 .., a handed-in state that no calls from a fresh one produce". And
-- which of two comes first.
use Rattle.std.specs.Prelude.{ℕ, Bool, cond, eqb, Option, None, Some, is_none, Result, Ok, Err}
use Rattle.refusals.specs.declared.Refusal.{Refusal}
use Rattle.refusals.specs.declared.Refusal.TheVariants.{Function, Output, Start, Cut, Limits, After, Count, Different, State}

abbrev pub number_of : Refusal → ℕ
number_of Function = 1
number_of Output = 2
number_of Start = 3
number_of Cut = 4
number_of Limits = 5
number_of After = 6
number_of Count = 7
number_of Different = 8
number_of State = 12

-- 0 where there is no refusal
abbrev pub number_or_zero : Option Refusal → ℕ
number_or_zero None = 0
number_or_zero (Some r) = number_of r

-- the refusal with a number, State where no other has it
abbrev pub refusal_numbered : ℕ → Option Refusal
refusal_numbered n =
    cond (eqb n 0) None
    (Some (cond (eqb n 1) Function
    (cond (eqb n 2) Output
    (cond (eqb n 3) Start
    (cond (eqb n 4) Cut
    (cond (eqb n 5) Limits
    (cond (eqb n 6) After
    (cond (eqb n 7) Count
    (cond (eqb n 8) Different State)))))))))

-- "4 .. only at the end call", and 12
abbrev pub is_cut : Option Refusal → Bool
is_cut r = eqb (number_or_zero r) 4

abbrev pub is_state : Option Refusal → Bool
is_state r = eqb (number_or_zero r) 12

-- the first of two refusals
infixr 25 ◌before◌
abbrev pub ◌before◌ : Option Refusal → Option Refusal → Option Refusal
r before s = cond (is_none r) s r

abbrev pub refused_when : Bool → Refusal → Option Refusal
refused_when t r = cond t (Some r) None

-- what a call returns that is refused so, or gives a value
abbrev pub unless_refused : {A : Type 0} → Option Refusal → A → Result A Refusal
unless_refused None a = Ok a
unless_refused (Some r) a = Err r
