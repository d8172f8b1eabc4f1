-- An output of 22,554 bytes is long enough for every answered listing: refusal 2 is not given.
use Prim.Native.Nat.{ℕ, ◌≤◌}
use mathlib.Core.Path.{◌≡◌, refl, sym, ◌∙◌}
use mathlib.Core.Bool.{Bool, true, false, false≢true}
use mathlib.Core.List.{List}
use Rattle.std.specs.Prelude.{Option, is_none}
use native.Mathlib.Omega.{arith}
use native.Mathlib.Nat.{mul-le-mul}
use borrow.Author.Tests.{le-ltb, eq-eqb}
use lib.ListN.{length}
use lib.Dec.{ltb, eqb}
use Rattle.refusals.specs.declared.Refusal.{Refusal}
use Rattle.refusals.specs.declared.Refusal.TheVariants.{Output, After}
use Rattle.refusals.specs.Refusals.{number_or_zero, ◌before◌, refused_when}
use Rattle.refusals.proofs.Refusing.{before_keeps, when_keeps}
use Rattle.sections.specs.Sections.{functions_of, patterns_of, past_patterns}
use Rattle.sections.specs.Order.{most_functions, most_patterns, sections_refusal}
use Rattle.sections.proofs.Counts.{length_functions, length_patterns}
use Rattle.sections.proofs.Sound.{Sound, sound_of}
use Rattle.sections.proofs.Given.{sections_keep}
use Rattle.listing.specs.Answered.{answered}
use Rattle.listing.specs.Longest.{longest_answered}
use Rattle.listing.specs.Outcome.{refusal_of}
use Rattle.listing.proofs.Counts.{length-answered}

pub answered_short : (b : List ℕ) → Sound b → length (answered (functions_of b) (patterns_of b)) ≤ longest_answered
answered_short b s =
    let fs = functions_of b in
    let ps = patterns_of b in
    let f : length fs ≤ most_functions = omega (arith, length_functions b, s.functions.high) in
    let p : length ps ≤ most_patterns = omega (arith, length_patterns b, s.patterns.high) in
    omega (arith, length-answered fs ps, mul-le-mul f p)

abbrev is_output : Option Refusal → Bool
is_output r = eqb (number_or_zero r) 2

abbrev NotOutput : Option Refusal → Type 0
NotOutput r = is_output r ≡ false

pub never_short : (b : List ℕ) (outputs : ℕ) → longest_answered ≤ outputs → number_or_zero (refusal_of b outputs) ≡ 2 → ⊥
unfolding refusal_of
never_short b outputs room e =
    let size = length (answered (functions_of b) (patterns_of b)) in
    let after = refused_when (ltb (past_patterns b) (length b)) After in
    let short = refused_when (ltb outputs size) Output in
    let enough : is_none (sections_refusal b) ≡ true → is_output short ≡ false =
    λ n. rw (le-ltb outputs size (omega (arith, answered_short b (sound_of b n)))) in
    let h = before_keeps NotOutput (sections_refusal b) (after before short) (sections_keep NotOutput refl refl refl refl b) (λ n.
    before_keeps NotOutput after short (when_keeps NotOutput (ltb (past_patterns b) (length b)) After refl refl) (λ _. enough n)) in
    false≢true (sym h ∙ eq-eqb (number_or_zero (refusal_of b outputs)) 2 e)
