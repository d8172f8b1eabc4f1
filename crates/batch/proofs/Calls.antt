-- Calls in a chain, each from the place that the last returned, under any limits: the next place is the limits' sum, or the
-- input's length where that is smaller. Up to there the answers stand in the output, and the tallies add up to their NaR.
use Prim.Native.Nat.{ℕ, suc, ◌+◌, ◌-◌, ◌≤◌, ◌<◌, min}
use mathlib.Core.Path.{◌≡◌, refl, ap, ◌∙◌}
use mathlib.Core.Bool.{true}
use mathlib.Core.List.{List, [], ◌∷◌, ◌++◌}
use native.Mathlib.Omega.{arith}
use native.Mathlib.Nat.{zero-add}
use lib.ListN.{length, take, drop, get_or, length-map}
use lib.Seq.{paste, paste-zero, length-paste, take-add, take_all}
use Rattle.p16e1.specs.Functions.{known, answer_of}
use Rattle.batch.specs.Batch.{refusal_of, answers, nars_in, batched_of, output_of, next_after, nars_of}
use Rattle.std.specs.Prelude.{None}
use Rattle.std.proofs.lemmas.List.{drop-map}
use Rattle.std.proofs.lemmas.List.Sums.{sum_by-append}
use Rattle.batch.proofs.Order.{not_refused}
use Rattle.batch.proofs.Parts.{paste_more_in_front}

-- where a chain stands: the next place, the sum of the tallies, and the output
pub record Chain : Type 0 where
  pub next : ℕ
  pub nars : ℕ
  pub output : List ℕ

abbrev pub first : List ℕ → Chain
first output = record { next = 0; nars = 0; output = output }

abbrev pub call : ℕ → List ℕ → Chain → ℕ → Chain
call f input s limit =
    let r = batched_of f input (length s.output) s.next limit in
    record { next = next_after s.next r; nars = s.nars + nars_of r; output = output_of f input s.output s.next limit }

abbrev pub calls : ℕ → List ℕ → Chain → List ℕ → Chain
calls f input s [] = s
calls f input s (limit ∷ limits) = calls f input (call f input s limit) limits

abbrev pub sum : List ℕ → ℕ
sum [] = 0
sum (x ∷ xs) = x + sum xs

-- the answers before the next place stand in what was `output`, and their NaR are counted
pub record Answered (f : ℕ) (input output : List ℕ) (s : Chain) : Type 0 where
  pub within : s.next ≤ length input
  pub written : s.output ≡ paste output 0 (answers f input 0) s.next
  pub counted : s.nars ≡ nars_in (take s.next (answers f input 0))

-- all answers stand, what lies past them is as it was, and the tallies add up to the NaR among them
pub record Finished (f : ℕ) (input output : List ℕ) (s : Chain) : Type 0 where
  pub at_the_end : s.next ≡ length input
  pub written : s.output ≡ answers f input 0 ++ drop (length input) output
  pub counted : s.nars ≡ nars_in (answers f input 0)

module _ (f : ℕ) (input output : List ℕ) (knows : known f ≡ true) (room : length input ≤ length output) where
  all-answers : length (answers f input 0) ≡ length input
  all-answers = length-map input (answer_of f)

  -- one call more
  module _ (s : Chain) (a : Answered f input output s) (limit : ℕ) where
    same-room : length s.output ≡ length output
    same-room =
        ap length a.written
        ∙ length-paste output 0 (answers f input 0) s.next (omega (arith, a.within)) (omega (arith, a.within, all-answers))

    pub accepted : refusal_of f (length input) (length s.output) s.next ≡ None
    accepted = not_refused f (length input) (length s.output) s.next knows (omega (arith, same-room)) a.within

    moved : (call f input s limit).next ≡ min (s.next + limit) (length input)
    moved = simp accepted (omega (arith, a.within))

    answered-further : Answered f input output (call f input s limit)
    answered-further =
        let p = s.next in
        let n : ℕ = min (p + limit) (length input) - p in
        record {
          within = omega (arith, moved);
          written =
              simp accepted
              (rw (a.written, ← drop-map (answer_of f) p input)
              (paste_more_in_front output (answers f input 0) p n (omega (arith, a.within, all-answers))));
          counted = simp (accepted, a.counted, drop-map, take-add, sum_by-append);
        }

  from : (s : Chain) → Answered f input output s → (limits : List ℕ)
      → Answered f input output (calls f input s limits) × ((calls f input s limits).next ≡ min (s.next + sum limits) (length input))
  from s a [] = (a, omega (arith, a.within))
  from s a (limit ∷ limits) =
      let r = from (call f input s limit) (answered-further s a limit) limits in
      (r.0, omega (arith, r.1, moved s a limit))

  none_answered : Answered f input output (first output)
  none_answered = record { within = omega arith; written = paste-zero output 0 (answers f input 0); counted = refl }

  -- the laws of a chain from 0
  module _ (limits : List ℕ) where
    pub answered : Answered f input output (calls f input (first output) limits)
    answered = (from (first output) none_answered limits).0

    pub next_is : (calls f input (first output) limits).next ≡ min (sum limits) (length input)
    next_is = omega (arith, (from (first output) none_answered limits).1)

    pub finished-at-the-end : (calls f input (first output) limits).next ≡ length input → Finished f input output (calls f input (first output) limits)
    finished-at-the-end e =
        let all : take (length input) (answers f input 0) ≡ answers f input 0 = take_all (length input) (answers f input 0) (omega (arith, all-answers)) in
        record { at_the_end = e; written = answered.written ∙ simp (e, all, zero-add); counted = answered.counted ∙ simp (e, all) }

    pub finished-by-enough : length input ≤ sum limits → Finished f input output (calls f input (first output) limits)
    finished-by-enough h = finished-at-the-end (omega (arith, next_is))

  -- limits of at least 1, whatever their sequence, finish in as many calls as there are patterns, or sooner
  pub finished_by_positive : (limits : List ℕ) → ((i : ℕ) → i < length limits → 0 < get_or limits i 0) → length input ≤ length limits
      → Finished f input output (calls f input (first output) limits)
  finished_by_positive limits positive h = finished-by-enough limits (omega (arith, at_least limits positive))
    where
      at_least : (l : List ℕ) → ((i : ℕ) → i < length l → 0 < get_or l i 0) → length l ≤ sum l
      at_least [] p = omega arith
      at_least (x ∷ xs) p = omega (arith, p 0 (omega arith), at_least xs (λ i. λ h. p (suc i) (omega arith)))
