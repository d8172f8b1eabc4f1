-- A function that is known has its number.
use Prim.Native.Nat.{ℕ}
use mathlib.Core.Path.{◌≡◌, refl, sym, ◌∙◌}
use mathlib.Core.Bool.{true, false≢true}
use Rattle.std.specs.Prelude.{Result, Ok, Err, IsOk}
use Rattle.refusals.specs.declared.Refusal.{Refusal}
use Rattle.p16e1.specs.declared.functions.Function.{Function}
use Rattle.p16e1.specs.Functions.{known, function_numbered}
use Rattle.p16e1.proofs.ByNumber.{numbered_not}

pub known_numbered : (n : ℕ) → known n ≡ true → IsOk (function_numbered n)
known_numbered n k = go (function_numbered n) refl
  where
    go : (r : Result Function Refusal) → function_numbered n ≡ r → IsOk r
    go (Ok f) e = refl
    go (Err r) e = absurd (false≢true (sym (numbered_not n r e).0 ∙ k))
