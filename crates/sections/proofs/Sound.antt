-- Which refusal of the two sections comes first, and what holds of them where none does.
use Prim.Native.Nat.{ℕ, ◌+◌, ◌*◌, ◌≤◌}
use mathlib.Core.Path.{◌≡◌, refl, sym, ap, ◌∙◌}
use mathlib.Core.Bool.{Bool, true, false, cond, not, false≢true}
use mathlib.Core.List.{List}
use Rattle.std.specs.Prelude.{Option, Some, None, is_none, Ok, Err}
use native.Mathlib.Omega.{arith}
use native.Mathlib.Nat.{mul-le-mul}
use lib.ListN.{length}
use Rattle.refusals.specs.declared.Refusal.{Refusal}
use Rattle.refusals.specs.declared.Refusal.TheVariants.{Function}
use Rattle.refusals.specs.Refusals.{◌before◌, refused_when}
use Rattle.refusals.proofs.Refusing.{unrefused, refused_for}
use Rattle.sections.specs.declared.Sections.{Sections}
use Rattle.sections.specs.Sections.{past_section, functions_of, patterns_of, past_patterns}
use Rattle.sections.specs.Order.{most_functions, most_patterns, section_refusal_of, all_known_of, sections_refusal, counted, sections_of}
use Rattle.sections.proofs.Counts.{length_functions, length_patterns, past_is}
use Rattle.sections.proofs.Whole.{Whole, whole, whole_of}

-- sections that are not refused
pub record Sound (b : List ℕ) : Type 0 where
  pub functions : Whole b 0 1 most_functions
  pub all_known : all_known_of (functions_of b) ≡ true
  pub patterns : Whole b (past_section b 0) 0 most_patterns

module _ (b : List ℕ) where
  pub functions_first : (r : Option Refusal) → r ≡ section_refusal_of b 0 1 most_functions → is_none r ≡ false
      → sections_refusal b ≡ r
  unfolding sections_refusal
  functions_first r e n = rw (← e, n)

  module _ (w : Whole b 0 1 most_functions) where
    pub unknown-next : all_known_of (functions_of b) ≡ false → sections_refusal b ≡ Some Function
    unfolding sections_refusal
    unknown-next k = rw (whole b 0 1 most_functions w, k)

    pub patterns-last : all_known_of (functions_of b) ≡ true
        → sections_refusal b ≡ section_refusal_of b (past_section b 0) 0 most_patterns
    unfolding sections_refusal
    patterns-last k = rw (whole b 0 1 most_functions w, k)

  pub sound : Sound b → sections_refusal b ≡ None
  sound s = patterns-last s.functions s.all_known ∙ whole b (past_section b 0) 0 most_patterns s.patterns

parts : (r s : Option Refusal) (k : Bool) → is_none (r before refused_when (not k) Function before s) ≡ true
    → (is_none r ≡ true) × (k ≡ true) × (is_none s ≡ true)
parts r s k e = go (is_none r) refl k e
  where
    go : (t : Bool) → is_none r ≡ t → (k : Bool) → is_none (cond t (refused_when (not k) Function before s) r) ≡ true
        → (is_none r ≡ true) × (k ≡ true) × (is_none s ≡ true)
    go true h true e = (h, refl, e)
    go true h false e = absurd (false≢true e)
    go false h k e = absurd (false≢true (sym h ∙ e))

pub sound_of : (b : List ℕ) → is_none (sections_refusal b) ≡ true → Sound b
unfolding sections_refusal
sound_of b e =
    let first = section_refusal_of b 0 1 most_functions in
    let second = section_refusal_of b (past_section b 0) 0 most_patterns in
    let h = parts first second (all_known_of (functions_of b)) e in
    record {
      functions = whole_of b 0 1 most_functions h.0;
      all_known = h.1;
      patterns = whole_of b (past_section b 0) 0 most_patterns h.2;
    }

-- what a reader returns, by its refusal
pub refused_counts : (b : List ℕ) {s : Option Refusal} (r : Refusal) → s ≡ Some r → Err r ≡ counted b s
refused_counts b r e = rw e

pub found_counts : (b : List ℕ) {s : Option Refusal} (functions patterns : ℕ) → s ≡ None → functions ≡ length (functions_of b)
    → patterns ≡ length (patterns_of b)
    → Ok (record { functions = functions; patterns = patterns }) ≡ counted b s
found_counts b functions patterns e f p = rw (e, f, p)

-- and its refusal by what it returns
module _ (b : List ℕ) (r : Option Refusal) where
  pub refused_of : {e : Refusal} → Err e ≡ counted b r → r ≡ Some e
  refused_of h = refused_for r (record { functions = length (functions_of b); patterns = length (patterns_of b) }) h

  pub none_of : (s : Sections) → Ok s ≡ counted b r → is_none r ≡ true
  none_of s h = ap is_none (unrefused r (record { functions = length (functions_of b); patterns = length (patterns_of b) }) h).0

sections_within : (b : List ℕ) → Sound b → past_patterns b ≤ length b
unfolding past_patterns
sections_within b s = s.patterns.present

-- what a reader found that does not refuse
pub record Counted (b : List ℕ) (s : Sections) : Type 0 where
  pub functions : s.functions ≡ length (functions_of b)
  pub patterns : s.patterns ≡ length (patterns_of b)
  pub few : s.functions ≤ most_functions
  pub some : s.patterns ≤ most_patterns

pub counted_of : (b : List ℕ) (r : Option Refusal) (s : Sections) → Ok s ≡ counted b r → Sound b → Counted b s
counted_of b r s e w =
    let same = (unrefused r (record { functions = length (functions_of b); patterns = length (patterns_of b) }) e).1 in
    let f : s.functions ≡ length (functions_of b) = ap (λ (t : Sections). t.functions) same in
    let p : s.patterns ≡ length (patterns_of b) = ap (λ (t : Sections). t.patterns) same in
    record {
      functions = f;
      patterns = p;
      few = omega (arith, f, length_functions b, w.functions.high);
      some = omega (arith, p, length_patterns b, w.patterns.high);
    }

-- what a call has that reads the two sections and goes on, since it does not refuse them
pub record Read (b : List ℕ) (s : Sections) : Type 0 where
  pub sound : Sound b
  pub counts : Counted b s
  pub answers : s.functions * s.patterns ≤ most_functions * most_patterns
  pub past : past_patterns b ≡ 4 + 2 * s.functions + 2 * s.patterns
  pub within : past_patterns b ≤ length b

pub read_by : (b : List ℕ) (r : Option Refusal) (s : Sections) → Ok s ≡ counted b r → Sound b → Read b s
read_by b r s e w =
    let c = counted_of b r s e w in
    record {
      sound = w;
      counts = c;
      answers = mul-le-mul c.few c.some;
      past = past_is b s.functions s.patterns c.functions c.patterns;
      within = sections_within b w;
    }

pub read : (b : List ℕ) (s : Sections) → Ok s ≡ sections_of b → Read b s
read b s e = read_by b (sections_refusal b) s e (sound_of b (none_of b (sections_refusal b) s e))
