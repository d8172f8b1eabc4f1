-- A refusal that bytes have met stays, whatever comes after them, and is the one that the listing call gives on them all.
use Prim.Native.Nat.{ℕ, ◌<◌}
use mathlib.Core.Path.{◌≡◌, refl, sym, ap, ◌∙◌}
use mathlib.Core.Bool.{Bool, true, false, false≢true}
use mathlib.Core.List.{List, ◌++◌}
use native.Mathlib.Omega.{arith}
use borrow.Author.Tests.{ltb-true, ltb-false}
use lib.ListN.{length, length-append}
use lib.Dec.{ltb}
use Rattle.refusals.specs.declared.Refusal.TheVariants.{After}
use Rattle.std.specs.Prelude.{Some, None, is_none}
use Rattle.refusals.specs.Refusals.{is_cut}
use Rattle.sections.specs.Sections.{past_patterns}
use Rattle.sections.specs.Order.{sections_refusal}
use Rattle.sections.proofs.Sound.{Sound, sound, sound_of}
use Rattle.sections.proofs.Growing.{sections_grow, ends_grow}
use Rattle.listing.specs.Longest.{longest_answered}
use Rattle.listing.specs.Outcome.{refusal_of}
use Rattle.listing.proofs.Calls.{sections_first, bytes_after}
use Rattle.piece_state.specs.State.{so_far_of}
use Rattle.piece_state.proofs.SoFar.{not_cut, cut_none, sound_after, sound_so_far}

-- bytes that have met a refusal: one of their sections, or 6
pub data Met (b : List ℕ) : Type 0 where
  in_sections : is_none (sections_refusal b) ≡ false → is_cut (sections_refusal b) ≡ false → so_far_of b ≡ sections_refusal b → Met b
  after_them : Sound b → past_patterns b < length b → so_far_of b ≡ Some After → Met b

module _ (b : List ℕ) where
  pub met_of : is_none (so_far_of b) ≡ false → Met b
  met_of n = by (is_none (sections_refusal b)) (is_cut (sections_refusal b)) (ltb (past_patterns b) (length b)) refl refl refl
    where
      by : (t u v : Bool) → is_none (sections_refusal b) ≡ t → is_cut (sections_refusal b) ≡ u → ltb (past_patterns b) (length b) ≡ v → Met b
      by false true v e c f =
          let r = sections_refusal b in
          absurd (false≢true (sym n ∙ ap is_none (cut_none b (ap is_cut (sections_first b longest_answered r refl e) ∙ c))))
      by false false v e c f =
          let r = sections_refusal b in
          in_sections e c (not_cut b r (sections_first b longest_answered r refl e) c)
      by true u true e c f =
          let h = ltb-true (past_patterns b) (length b) f in
          after_them (sound_of b e) h (sound_after b (sound_of b e) h)
      by true u false e c f = absurd (false≢true (sym n ∙ ap is_none (sound_so_far b (sound_of b e) (ltb-false (past_patterns b) (length b) f))))

  -- the listing call gives it, whatever its output
  whole_by : Met b → (outputs : ℕ) → refusal_of b outputs ≡ so_far_of b
  whole_by (in_sections n c e) outputs = sections_first b outputs (sections_refusal b) refl n ∙ sym e
  whole_by (after_them s h e) outputs = bytes_after b outputs s h ∙ sym e

  pub met_whole : is_none (so_far_of b) ≡ false → (outputs : ℕ) → refusal_of b outputs ≡ so_far_of b
  met_whole n = whole_by (met_of n)

  stays_by : Met b → (p : List ℕ) → so_far_of (b ++ p) ≡ so_far_of b
  stays_by (in_sections n c e) p =
      let same = sections_grow b p c in
      let r = sections_refusal b in
      not_cut (b ++ p) r (sections_first (b ++ p) longest_answered r (sym same) n) c ∙ sym e
  stays_by (after_them s h e) p =
      let same = sections_grow b p (sound-not-cut s) in
      let s' = sound_of (b ++ p) (ap is_none (same ∙ sound_none s)) in
      sound_after (b ++ p) s' (omega (arith, ends_grow b p s, length-append b p)) ∙ sym e
    where
      sound_none : Sound b → sections_refusal b ≡ None
      sound_none s = sound b s

      sound-not-cut : Sound b → is_cut (sections_refusal b) ≡ false
      sound-not-cut s = ap is_cut (sound_none s)

  pub met_stays : is_none (so_far_of b) ≡ false → (p : List ℕ) → so_far_of (b ++ p) ≡ so_far_of b
  met_stays n = stays_by (met_of n)
