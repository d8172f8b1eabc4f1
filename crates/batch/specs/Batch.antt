-- "It evaluates the places from start up to the smaller of start + limit (as whole numbers, never wrapped) and the input's
-- length, each answer written at its own place. It returns the next place and how many NaR it wrote in this call." What a
-- call returns, and what it leaves in the output.
use Rattle.std.specs.Prelude.{ℕ, ◌+◌, ◌-◌, min, List, map, cond, not, length, take, drop, ltb, count_by, ◌==◌}
use Rattle.std.specs.Prelude.{Option, None, Some, is_none, Result, Ok, Err}
use Rattle.std.proofs.Math.Seq.{paste}
use Rattle.p16e1.specs.Functions.{known, answer_of}
use Rattle.batch.specs.declared.Batched.{Batched}
use Rattle.refusals.specs.declared.Refusal.{Refusal}
use Rattle.refusals.specs.declared.Refusal.TheVariants.{Function, Output, Start}
use Rattle.refusals.specs.Refusals.{unless_refused}

-- "Batch order: 1, 2, 3"
unfoldable pub refusal_of : ℕ → ℕ → ℕ → ℕ → Option Refusal
refusal_of f inputs outputs start =
    cond (not (known f)) (Some Function) (cond (ltb outputs inputs) (Some Output) (cond (ltb inputs start) (Some Start) None))

-- how many places are evaluated; "neither changes the output": none by a refused call
abbrev pub places : ℕ → ℕ → ℕ → ℕ → ℕ → ℕ
places f inputs outputs start limit = cond (is_none (refusal_of f inputs outputs start)) (min (start + limit) inputs - start) 0

-- the answers to the patterns from `start` on
abbrev pub answers : ℕ → List ℕ → ℕ → List ℕ
answers f input start = map (answer_of f) (drop start input)

-- how many of a list are NaR
abbrev pub nars_in : List ℕ → ℕ
nars_in ps = count_by (λ p. p == 0x8000) ps

-- the result, and the output that is left: n answers from `start` on, every other place as it was
abbrev pub batched_of : ℕ → List ℕ → ℕ → ℕ → ℕ → Result Batched Refusal
batched_of f input outputs start limit =
    let n = places f (length input) outputs start limit in
    unless_refused (refusal_of f (length input) outputs start) (record { next = start + n; nars = nars_in (take n (answers f input start)) })

abbrev pub output_of : ℕ → List ℕ → List ℕ → ℕ → ℕ → List ℕ
output_of f input output start limit = paste output start (answers f input start) (places f (length input) (length output) start limit)

-- where a call from `start` leaves its caller, and how many NaR it wrote: a refused call goes nowhere and writes none
abbrev pub next_after : ℕ → Result Batched Refusal → ℕ
next_after start (Ok b) = b.next
next_after start (Err r) = start

abbrev pub nars_of : Result Batched Refusal → ℕ
nars_of (Ok b) = b.nars
nars_of (Err r) = 0
