-- What bytes have met so far: nothing but 1, 5 and 6, always something where they are longer than any listing, and that by the first
-- 2,072 of them.
use Prim.Native.Nat.{ℕ, ◌≤◌, ◌<◌}
use mathlib.Core.Path.{◌≡◌, refl, sym, ap, ◌∙◌}
use mathlib.Core.Bool.{Bool, true, false, false≢true}
use mathlib.Core.List.{List, ◌++◌}
use native.Mathlib.Omega.{arith}
use borrow.Author.Tests.{ltb-true, ltb-false}
use lib.ListN.{length, length-append}
use lib.Dec.{ltb}
use Rattle.std.specs.Prelude.{Option, Some, None, is_none}
use Rattle.refusals.specs.declared.Refusal.{Refusal}
use Rattle.refusals.specs.declared.Refusal.TheVariants.{Output, After}
use Rattle.refusals.specs.Refusals.{is_cut, ◌before◌, refused_when}
use Rattle.refusals.proofs.Refusing.{before_keeps, when_keeps}
use Rattle.sections.specs.Sections.{functions_of, patterns_of, past_patterns}
use Rattle.sections.specs.Order.{sections_refusal}
use Rattle.sections.proofs.Sound.{Sound, sound_of}
use Rattle.sections.proofs.Growing.{sections_grow, ends_grow}
use Rattle.listing.specs.Answered.{answered}
use Rattle.listing.specs.Longest.{longest, longest_answered}
use Rattle.listing.specs.Outcome.{refusal_of}
use Rattle.listing.proofs.Calls.{sections_first, bytes_after, accepted}
use Rattle.listing.proofs.Long.{sound_short, long_refused}
use Rattle.listing.proofs.Room.{answered_short}
use Rattle.listing.proofs.Prefix.{long_decided}
use Rattle.piece_state.specs.State.{so_far_of, after_more}

-- where the listing call does not say that bytes are cut short, it says the same of them so far
pub not_cut : (b : List ℕ) (r : Option Refusal) → refusal_of b longest_answered ≡ r → is_cut r ≡ false → so_far_of b ≡ r
unfolding so_far_of
not_cut b r e n = rw (e, n)

pub cut_none : (b : List ℕ) → is_cut (refusal_of b longest_answered) ≡ true → so_far_of b ≡ None
unfolding so_far_of
cut_none b c = rw c

-- sound sections: 6 or nothing
pub sound_after : (b : List ℕ) → Sound b → past_patterns b < length b → so_far_of b ≡ Some After
sound_after b s h = not_cut b (Some After) (bytes_after b longest_answered s h) refl

pub sound_so_far : (b : List ℕ) → Sound b → length b ≤ past_patterns b → so_far_of b ≡ None
sound_so_far b s h = not_cut b None (accepted b longest_answered (record { sections = s; nothing_after = h; room = answered_short b s })) refl

-- as many bytes as the longest listing has
module _ (b : List ℕ) (long : longest ≤ length b) where
  long_not_cut : is_cut (refusal_of b longest_answered) ≡ false
  unfolding refusal_of
  long_not_cut =
      let Decided : Option Refusal → Type 0 = λ r. is_cut r ≡ false in
      let after = refused_when (ltb (past_patterns b) (length b)) After in
      let short = refused_when (ltb longest_answered (length (answered (functions_of b) (patterns_of b)))) Output in
      before_keeps Decided (sections_refusal b) (after before short) (long_decided b long) (λ _.
      before_keeps Decided after short (when_keeps Decided (ltb (past_patterns b) (length b)) After refl refl) (λ _.
      when_keeps Decided (ltb longest_answered (length (answered (functions_of b) (patterns_of b)))) Output refl refl))

  long_so_far : so_far_of b ≡ refusal_of b longest_answered
  long_so_far = not_cut b (refusal_of b longest_answered) refl long_not_cut

pub short_so_far : (b : List ℕ) → is_none (so_far_of b) ≡ true → length b ≤ longest
short_so_far b n = go (ltb longest (length b)) refl
  where
    go : (t : Bool) → ltb longest (length b) ≡ t → length b ≤ longest
    go true e =
        let long = ltb-true longest (length b) e in
        absurd (false≢true (sym (long_refused b longest_answered long) ∙ sym (ap is_none (long_so_far b (omega arith))) ∙ n))
    go false e = ltb-false longest (length b) e

-- more than that: by the first of them
module _ (first rest : List ℕ) (full : length first ≡ longest) (more : 0 < length rest) where
  abbrev all : List ℕ
  all = first ++ rest

  same : sections_refusal all ≡ sections_refusal first
  same = sections_grow first rest (long_decided first (omega arith))

  by : (t u : Bool) → is_none (sections_refusal first) ≡ t → ltb (past_patterns first) (length first) ≡ u → so_far_of all ≡ after_more (so_far_of first)
  by false u e f =
      let r = sections_refusal first in
      let short = sections_first first longest_answered r refl e in
      let long = sections_first all longest_answered r (sym same) e in
      let decided = long_decided first (omega arith) in
      rw (not_cut first r short decided, not_cut all r long decided, e)
  by true u e f =
      let s = sound_of first e in
      let ends = ends_grow first rest s in
      let size = length-append first rest in
      let s' = sound_of all (ap is_none same ∙ e) in
      sound_after all s' (omega (arith, sound_short first s)) ∙ sym (either s u f)
    where
      either : Sound first → (u : Bool) → ltb (past_patterns first) (length first) ≡ u → after_more (so_far_of first) ≡ Some After
      either s true f = rw (sound_after first s (ltb-true (past_patterns first) (length first) f))
      either s false f = rw (sound_so_far first s (ltb-false (past_patterns first) (length first) f))

  pub too_long : so_far_of all ≡ after_more (so_far_of first)
  too_long = by (is_none (sections_refusal first)) (ltb (past_patterns first) (length first)) refl refl
