-- How long listings get: none is longer than 2,072 bytes.
use Prim.Native.Nat.{ℕ, ◌≤◌, ◌<◌}
use mathlib.Core.Path.{◌≡◌, refl}
use mathlib.Core.Bool.{Bool, true, false}
use mathlib.Core.List.{List}
use Rattle.std.specs.Prelude.{is_none}
use native.Mathlib.Omega.{arith}
use lib.ListN.{length}
use Rattle.sections.specs.Sections.{functions_of, patterns_of, past_patterns}
use Rattle.sections.proofs.Counts.{length_functions, length_patterns, past_is}
use Rattle.sections.proofs.Sound.{Sound}
use Rattle.listing.specs.Longest.{longest}
use Rattle.listing.specs.Outcome.{refusal_of}
use Rattle.listing.proofs.Calls.{accepted_of}

pub sound_short : (b : List ℕ) → Sound b → past_patterns b ≤ longest
sound_short b s =
    omega (
      arith,
      past_is b (length (functions_of b)) (length (patterns_of b)) refl refl,
      length_functions b,
      length_patterns b,
      s.functions.high,
      s.patterns.high,
    )

pub long_refused : (b : List ℕ) (outputs : ℕ) → longest < length b → is_none (refusal_of b outputs) ≡ false
long_refused b outputs h = go (is_none (refusal_of b outputs)) refl
  where
    go : (t : Bool) → is_none (refusal_of b outputs) ≡ t → t ≡ false
    go true e = let a = accepted_of b outputs e in absurd (omega (arith, a.nothing_after, sound_short b a.sections))
    go false e = refl
