-- "Each public call has a contract that determines result and lent output completely": of the batch.
use Prim.Native.Nat.{ℕ}
use mathlib.Core.Path.{◌≡◌}
use mathlib.Core.List.{List}
use lib.ListN.{length}
use Rattle.batch.specs.Batch.{batched_of, output_of}
use Rattle.batch.specs.declared.Batched.{Batched}
use Rattle.refusals.specs.declared.Refusal.{Refusal}
use Rattle.std.specs.Prelude.{Result}

-- what the contract says of a result and of the output that is left
pub record Allowed (f : ℕ) (input output : List ℕ) (start limit : ℕ) (r : Result Batched Refusal) (left : List ℕ) : Type 0 where
  pub result : r ≡ batched_of f input (length output) start limit
  pub leaves : left ≡ output_of f input output start limit

pub one_outcome : {f : ℕ} {input output : List ℕ} {start limit : ℕ} {r r' : Result Batched Refusal} {left left' : List ℕ}
    → Allowed f input output start limit r left → Allowed f input output start limit r' left' → (r ≡ r') × (left ≡ left')
one_outcome a b = (cc, cc)
