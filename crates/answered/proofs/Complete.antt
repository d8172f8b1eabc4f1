-- Which refusal of an answered listing comes first, and what holds of one that is not refused.
use Prim.Native.Nat.{ℕ, ◌+◌, ◌≤◌, ◌<◌}
use mathlib.Core.Path.{◌≡◌, refl, sym, ◌∙◌}
use mathlib.Core.Bool.{Bool, true, false, cond, not, false≢true}
use mathlib.Core.List.{List}
use Rattle.std.specs.Prelude.{Option, Some, None, is_none, Ok}
use native.Mathlib.Omega.{arith}
use borrow.Author.Tests.{lt-ltb, le-ltb, ltb-false, eq-eqb, ne_eqb, eqb-true}
use lib.ListN.{length}
use lib.Dec.{ltb, eqb}
use Rattle.refusals.specs.declared.Refusal.{Refusal}
use Rattle.refusals.specs.declared.Refusal.TheVariants.{Cut, After, Count}
use Rattle.refusals.specs.Refusals.{◌before◌, refused_when}
use Rattle.words.specs.Numbers.{number_at_of}
use Rattle.sections.specs.declared.Sections.{Sections}
use Rattle.sections.specs.Sections.{past_section, past_patterns}
use Rattle.sections.specs.Order.{sections_refusal}
use Rattle.sections.proofs.Sound.{Sound, sound, sound_of, Counted, counted_of, none_of}
use Rattle.answered.specs.Answered.{asks, answers_refusal, answered_refusal, answered_of}

-- an answered listing that is not refused
pub record Complete (b : List ℕ) : Type 0 where
  pub sections : Sound b
  pub counted : past_patterns b + 2 ≤ length b
  pub count : number_at_of b (past_patterns b) ≡ asks b
  pub present : past_section b (past_patterns b) ≤ length b
  pub nothing_after : length b ≤ past_section b (past_patterns b)

module _ (b : List ℕ) where
  pub sections_first : (r : Option Refusal) → r ≡ sections_refusal b → is_none r ≡ false → answered_refusal b ≡ r
  unfolding answered_refusal
  sections_first r e n = rw (← e, n)

  module _ (s : Sound b) where
    pub count-missing : length b < past_patterns b + 2 → answered_refusal b ≡ Some Cut
    unfolding answered_refusal answers_refusal
    count-missing h = rw (sound b s, lt-ltb (length b) (past_patterns b + 2) h)

    module _ (counted : past_patterns b + 2 ≤ length b) where
      pub count-wrong : (number_at_of b (past_patterns b) ≡ asks b → ⊥) → answered_refusal b ≡ Some Count
      unfolding answered_refusal answers_refusal
      count-wrong h = rw (sound b s, le-ltb (length b) (past_patterns b + 2) counted, ne_eqb (number_at_of b (past_patterns b)) (asks b) h)

      module _ (count : number_at_of b (past_patterns b) ≡ asks b) where
        pub answers-missing : length b < past_section b (past_patterns b) → answered_refusal b ≡ Some Cut
        unfolding answered_refusal answers_refusal
        answers-missing h =
            rw (
              sound b s,
              le-ltb (length b) (past_patterns b + 2) counted,
              eq-eqb (number_at_of b (past_patterns b)) (asks b) count,
              lt-ltb (length b) (past_section b (past_patterns b)) h,
            )

        pub bytes_after : past_section b (past_patterns b) < length b → answered_refusal b ≡ Some After
        unfolding answered_refusal answers_refusal
        bytes_after h =
            rw (
              sound b s,
              le-ltb (length b) (past_patterns b + 2) counted,
              eq-eqb (number_at_of b (past_patterns b)) (asks b) count,
              le-ltb (length b) (past_section b (past_patterns b)) (omega arith),
              lt-ltb (past_section b (past_patterns b)) (length b) h,
            )

  pub complete : Complete b → answered_refusal b ≡ None
  unfolding answered_refusal answers_refusal
  complete w =
      rw (
        sound b w.sections,
        le-ltb (length b) (past_patterns b + 2) w.counted,
        eq-eqb (number_at_of b (past_patterns b)) (asks b) w.count,
        le-ltb (length b) (past_section b (past_patterns b)) w.present,
        le-ltb (past_section b (past_patterns b)) (length b) w.nothing_after,
      )

none_refuses : (r : Option Refusal) (s t u v : Bool)
    → is_none (r before refused_when s Cut before refused_when (not t) Count before refused_when u Cut before refused_when v After) ≡ true
    → (is_none r ≡ true) × (s ≡ false) × (t ≡ true) × (u ≡ false) × (v ≡ false)
none_refuses r s t u v e = go (is_none r) refl s t u v e
  where
    go : (q : Bool) → is_none r ≡ q → (s t u v : Bool)
        → is_none (cond q (refused_when s Cut before refused_when (not t) Count before refused_when u Cut before refused_when v After) r) ≡ true
        → (is_none r ≡ true) × (s ≡ false) × (t ≡ true) × (u ≡ false) × (v ≡ false)
    go false h s t u v e = absurd (false≢true (sym h ∙ e))
    go true h true t u v e = absurd (false≢true e)
    go true h false false u v e = absurd (false≢true e)
    go true h false true true v e = absurd (false≢true e)
    go true h false true false true e = absurd (false≢true e)
    go true h false true false false e = (h, refl, refl, refl, refl)

pub complete_of : (b : List ℕ) → is_none (answered_refusal b) ≡ true → Complete b
unfolding answered_refusal answers_refusal
complete_of b e =
    let past = past_patterns b in
    let h = none_refuses (sections_refusal b) (ltb (length b) (past + 2)) (eqb (number_at_of b past) (asks b))
    (ltb (length b) (past_section b past)) (ltb (past_section b past) (length b)) e in
    record {
      sections = sound_of b h.0;
      counted = ltb-false (length b) (past + 2) h.1;
      count = eqb-true (number_at_of b past) (asks b) h.2;
      present = ltb-false (length b) (past_section b past) h.3;
      nothing_after = ltb-false (past_section b past) (length b) h.4;
    }

-- what the reader found of a listing that it does not refuse
pub record Found (b : List ℕ) (s : Sections) : Type 0 where
  pub complete : Complete b
  pub counts : Counted b s

pub found : (b : List ℕ) (s : Sections) → Ok s ≡ answered_of b → Found b s
found b s e =
    let w = complete_of b (none_of b (answered_refusal b) s e) in
    record { complete = w; counts = counted_of b (answered_refusal b) s e w.sections }
