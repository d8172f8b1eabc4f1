-- How long a listing and its answered form are.
use Prim.Native.Nat.{ℕ, ◌+◌, ◌*◌}
use mathlib.Core.Path.{◌≡◌, ◌∙◌}
use mathlib.Core.List.{List}
use native.Mathlib.Omega.{arith}
use lib.ListN.{length, length-append}
use Rattle.sections.specs.Sections.{section, functions_of, patterns_of}
use Rattle.sections.proofs.Back.{length-section}
use Rattle.listing.specs.Answered.{answers, listing, answered}
use Rattle.listing.proofs.Writing.{length-answers}

pub length-listing : (fs ps : List ℕ) → length (listing fs ps) ≡ 4 + 2 * length fs + 2 * length ps
unfolding listing
length-listing fs ps = length-append (section fs) (section ps) ∙ omega (arith, length-section fs, length-section ps)

pub length-answered : (fs ps : List ℕ)
    → length (answered fs ps) ≡ 4 + 2 * length fs + 2 * length ps + 2 + 2 * (length fs * length ps)
unfolding answered
length-answered fs ps =
    length-append (listing fs ps) (section (answers fs ps))
    ∙ omega (arith, length-listing fs ps, length-section (answers fs ps), length-answers fs ps)

-- so many functions and patterns were found
pub size_is : (b : List ℕ) (functions patterns : ℕ) → functions ≡ length (functions_of b) → patterns ≡ length (patterns_of b)
    → length (answered (functions_of b) (patterns_of b)) ≡ 4 + 2 * functions + 2 * patterns + 2 + 2 * (functions * patterns)
size_is b functions patterns f p = rw (f, p) (length-answered (functions_of b) (patterns_of b))
