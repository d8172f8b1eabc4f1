-- The floor of the square root: `kernel::isqrt` of src/p16e1/math.rs.
use Rattle.std.specs.Prelude.{ℕ, ◌+◌, ◌*◌, ◌≤◌, ◌<◌, leb}
use Rattle.posit.specs.Answer.{descend}

pub record Root (n r : ℕ) : Type 0 where
  pub least : r * r ≤ n
  pub most : n < (r + 1) * (r + 1)

-- the root of an n below 2 ^ 56, found bit by bit
unfoldable pub root : ℕ → ℕ
root n = descend (λ r. leb (r * r) n) 28 0
