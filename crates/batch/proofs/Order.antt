-- "Batch order: 1, 2, 3": which refusal a call gets, and what a call that is refused, or is not, returns and leaves.
use Prim.Native.Nat.{ℕ, ◌+◌, ◌-◌, ◌≤◌, ◌<◌, min}
use mathlib.Core.Path.{◌≡◌, sym, ◌∙◌}
use mathlib.Core.Bool.{true, false}
use mathlib.Core.List.{List, map, append_assoc}
use native.Mathlib.Omega.{arith}
use lib.ListN.{length, take, drop}
use borrow.Rule.Slice.PartMut.{put_mid}
use lib.Seq.{paste-zero, drop-drop}
use borrow.Author.Tests.{lt-ltb, le-ltb}
use Rattle.std.proofs.lemmas.List.{take-map}
use Rattle.p16e1.specs.Functions.{known, answer_of, function_number, function_numbered}
use Rattle.p16e1.specs.declared.functions.Function.{Function}
use Rattle.p16e1.proofs.ByNumber.{numbered_is}
use Rattle.batch.specs.Batch.{refusal_of, answers, nars_in, batched_of, output_of, next_after, nars_of}
use Rattle.std.specs.Prelude.{Some, None, Ok, Err}
use Rattle.refusals.specs.declared.Refusal.{Refusal}
use Rattle.refusals.specs.declared.Refusal.TheVariants as Why

module _ (f inputs outputs start : ℕ) where
  pub unknown_function : known f ≡ false → refusal_of f inputs outputs start ≡ Some Why.Function
  unfolding refusal_of
  unknown_function k = simp k

  pub output_short : known f ≡ true → outputs < inputs → refusal_of f inputs outputs start ≡ Some Why.Output
  unfolding refusal_of
  output_short k o = simp (k, lt-ltb outputs inputs o)

  pub start_beyond : known f ≡ true → inputs ≤ outputs → inputs < start → refusal_of f inputs outputs start ≡ Some Why.Start
  unfolding refusal_of
  start_beyond k o s = simp (k, le-ltb outputs inputs o, lt-ltb inputs start s)

  pub not_refused : known f ≡ true → inputs ≤ outputs → start ≤ inputs → refusal_of f inputs outputs start ≡ None
  unfolding refusal_of
  not_refused k o s = simp (k, le-ltb outputs inputs o, le-ltb inputs start s)

module _ (f : ℕ) (input output : List ℕ) (start limit : ℕ) where
  pub refused_does_nothing : (why : Refusal) → refusal_of f (length input) (length output) start ≡ Some why
      → (batched_of f input (length output) start limit ≡ Err why)
      × (next_after start (batched_of f input (length output) start limit) ≡ start)
      × (nars_of (batched_of f input (length output) start limit) ≡ 0)
      × (output_of f input output start limit ≡ output)
  refused_does_nothing why e = (simp e, simp e, simp e, simp e (sym (paste-zero output start (answers f input start))))

  -- where g is the function: n places are answered, and that part of the output, m long, holds their answers
  pub accepted_does : (g : Function) → function_numbered f ≡ Ok g → length input ≤ length output → start ≤ length input
      → (n m nars : ℕ) (part : List ℕ) → n ≡ min limit (length input - start) → m ≡ n
      → nars ≡ nars_in (map (answer_of (function_number g)) (take m (drop start input)))
      → part ≡ map (answer_of (function_number g)) (take m (drop start input))
      → (Ok (record { next = start + n; nars = nars }) ≡ batched_of f input (length output) start limit)
      × (put_mid start m output part ≡ output_of f input output start limit)
  accepted_does g numbered room within n m nars part least long counted written =
      let k = numbered_is f g numbered in
      let none = not_refused f (length input) (length output) start k.0 room within in
      let l : min (start + limit) (length input) - start ≡ n = omega arith in
      let there : map (answer_of (function_number g)) (take m (drop start input)) ≡ take n (answers f input start) =
      simp (k.1, long, take-map) in
      (simp (none, l, counted, there), simp (none, l, long, written ∙ there, append_assoc, drop-drop))
