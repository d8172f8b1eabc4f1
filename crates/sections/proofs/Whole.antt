-- When a section is refused and for what, and what holds of one that is not.
use Prim.Native.Nat.{ℕ, ◌+◌, ◌≤◌, ◌<◌}
use mathlib.Core.Path.{◌≡◌, refl}
use mathlib.Core.Bool.{Bool, true, false, ◌||◌, false≢true}
use mathlib.Core.List.{List}
use Rattle.std.specs.Prelude.{Some, None, is_none, Ok}
use borrow.Author.Tests.{lt-ltb, le-ltb, ltb-false}
use lib.ListN.{length}
use lib.Dec.{ltb}
use Rattle.refusals.specs.declared.Refusal.TheVariants.{Cut, Limits}
use Rattle.words.specs.Numbers.{number_at_of}
use Rattle.refusals.specs.Refusals.{◌before◌, refused_when, unless_refused}
use Rattle.refusals.proofs.Refusing.{unrefused}
use Rattle.sections.specs.Sections.{past_section}
use Rattle.sections.specs.Order.{section_refusal_of}

-- a section that is not refused: its count is present and in limits, and its numbers are present
pub record Whole (b : List ℕ) (at least most : ℕ) : Type 0 where
  pub counted : at + 2 ≤ length b
  pub low : least ≤ number_at_of b at
  pub high : number_at_of b at ≤ most
  pub present : past_section b at ≤ length b

module _ (b : List ℕ) (at least most : ℕ) where
  pub cut_count : length b < at + 2 → section_refusal_of b at least most ≡ Some Cut
  unfolding section_refusal_of
  cut_count h = rw (lt-ltb (length b) (at + 2) h)

  module _ (counted : at + 2 ≤ length b) where
    pub too_few : number_at_of b at < least → section_refusal_of b at least most ≡ Some Limits
    unfolding section_refusal_of
    too_few h = rw (le-ltb (length b) (at + 2) counted, lt-ltb (number_at_of b at) least h)

    module _ (low : least ≤ number_at_of b at) where
      pub too_many : most < number_at_of b at → section_refusal_of b at least most ≡ Some Limits
      unfolding section_refusal_of
      too_many h =
          rw (le-ltb (length b) (at + 2) counted, le-ltb (number_at_of b at) least low, lt-ltb most (number_at_of b at) h)

      module _ (high : number_at_of b at ≤ most) where
        pub cut-numbers : length b < past_section b at → section_refusal_of b at least most ≡ Some Cut
        unfolding section_refusal_of
        cut-numbers h =
            rw (
              le-ltb (length b) (at + 2) counted,
              le-ltb (number_at_of b at) least low,
              le-ltb most (number_at_of b at) high,
              lt-ltb (length b) (past_section b at) h,
            )

  pub whole : Whole b at least most → section_refusal_of b at least most ≡ None
  unfolding section_refusal_of
  whole w =
      rw (
        le-ltb (length b) (at + 2) w.counted,
        le-ltb (number_at_of b at) least w.low,
        le-ltb most (number_at_of b at) w.high,
        le-ltb (length b) (past_section b at) w.present,
      )

none_refuses : (s t u v : Bool)
    → is_none (refused_when s Cut before refused_when (t || u) Limits before refused_when v Cut) ≡ true
    → (s ≡ false) × (t ≡ false) × (u ≡ false) × (v ≡ false)
none_refuses true t u v e = absurd (false≢true e)
none_refuses false true u v e = absurd (false≢true e)
none_refuses false false true v e = absurd (false≢true e)
none_refuses false false false true e = absurd (false≢true e)
none_refuses false false false false e = (refl, refl, refl, refl)

pub whole_of : (b : List ℕ) (at least most : ℕ) → is_none (section_refusal_of b at least most) ≡ true → Whole b at least most
unfolding section_refusal_of
whole_of b at least most e =
    let outside = ltb most (number_at_of b at) in
    let h = none_refuses (ltb (length b) (at + 2)) (ltb (number_at_of b at) least) outside (ltb (length b) (past_section b at)) e in
    record {
      counted = ltb-false (length b) (at + 2) h.0;
      low = ltb-false (number_at_of b at) least h.1;
      high = ltb-false most (number_at_of b at) h.2;
      present = ltb-false (length b) (past_section b at) h.3;
    }

-- and its count is what the reader found
pub whole_counted : (b : List ℕ) (at least most : ℕ) {n : ℕ}
    → Ok n ≡ unless_refused (section_refusal_of b at least most) (number_at_of b at)
    → Whole b at least most × (n ≡ number_at_of b at)
whole_counted b at least most e =
    let h = unrefused (section_refusal_of b at least most) (number_at_of b at) e in
    (whole_of b at least most (rw h.0), h.1)
