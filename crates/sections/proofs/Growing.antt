-- More bytes after bytes whose sections are not cut short: they are refused for the same, or not refused either.
use Prim.Native.Nat.{ℕ, zero, suc, ◌+◌, ◌*◌, ◌≤◌}
use mathlib.Core.Path.{◌≡◌, refl, sym, ap, ◌∙◌}
use mathlib.Core.Bool.{Bool, true, false, false≢true}
use mathlib.Core.List.{List, ◌++◌}
use Rattle.std.specs.Prelude.{Option, is_none}
use native.Mathlib.Omega.{arith}
use borrow.Author.Tests.{ltb-true, ltb-false}
use lib.ListN.{length, length-append, get_or-append}
use lib.Dec.{ltb}
use Rattle.refusals.specs.declared.Refusal.{Refusal}
use Rattle.refusals.specs.Refusals.{is_cut}
use Rattle.words.specs.Numbers.{number_at_of, numbers_at}
use Rattle.sections.specs.Sections.{past_section, functions_of, past_patterns}
use Rattle.sections.specs.Order.{most_functions, most_patterns, section_refusal_of, all_known_of, sections_refusal}
use Rattle.sections.proofs.Whole.{Whole, cut_count, too_few, too_many, cut-numbers, whole, whole_of}
use Rattle.sections.proofs.Sound.{Sound, functions_first, unknown-next, patterns-last}

-- a section with room for the most that it may have is not cut short
module _ (b : List ℕ) (at least most : ℕ) (room : at + 2 + 2 * most ≤ length b) where
  pub roomy_decided : is_cut (section_refusal_of b at least most) ≡ false
  roomy_decided = go (ltb (number_at_of b at) least) (ltb most (number_at_of b at)) refl refl
    where
      go : (s t : Bool) → ltb (number_at_of b at) least ≡ s → ltb most (number_at_of b at) ≡ t
          → is_cut (section_refusal_of b at least most) ≡ false
      go true t e f = rw (too_few b at least most (omega arith) (ltb-true (number_at_of b at) least e))
      go false true e f =
          rw (too_many b at least most (omega arith) (ltb-false (number_at_of b at) least e) (ltb-true most (number_at_of b at) f))
      go false false e f =
          let low = ltb-false (number_at_of b at) least e in
          let high = ltb-false most (number_at_of b at) f in
          rw (whole b at least most (record { counted = omega arith; low = low; high = high; present = omega arith }))

-- the bytes b, and p after them
module _ (b p : List ℕ) where
  longer : length b ≤ length (b ++ p)
  longer = omega (arith, length-append b p)

  pub number_grows : (at : ℕ) → at + 2 ≤ length b → number_at_of (b ++ p) at ≡ number_at_of b at
  number_grows at h = rw (get_or-append b p 0 at (omega arith), get_or-append b p 0 (at + 1) (omega arith))

  pub numbers_grow : (n at : ℕ) → at + 2 * n ≤ length b → numbers_at (b ++ p) at n ≡ numbers_at b at n
  numbers_grow zero at h = refl
  numbers_grow (suc n) at h = rw (number_grows at (omega arith), numbers_grow n (at + 2) (omega arith))

  module _ (at least most : ℕ) where
    pub whole-grows : Whole b at least most → Whole (b ++ p) at least most
    whole-grows w =
        let n = number_grows at w.counted in
        record {
          counted = omega (arith, longer, w.counted);
          low = omega (arith, n, w.low);
          high = omega (arith, n, w.high);
          present = omega (arith, n, longer, w.present);
        }

    cut_off : {r : Option Refusal} → section_refusal_of b at least most ≡ r → is_cut (section_refusal_of b at least most) ≡ false
        → is_cut r ≡ true → ⊥
    cut_off e h k = false≢true (sym h ∙ ap is_cut e ∙ k)

    pub section-grows : is_cut (section_refusal_of b at least most) ≡ false
        → section_refusal_of (b ++ p) at least most ≡ section_refusal_of b at least most
    section-grows h =
        go (ltb (length b) (at + 2)) (ltb (number_at_of b at) least) (ltb most (number_at_of b at)) (ltb (length b) (past_section b at))
        refl refl refl refl
      where
        go : (s t u v : Bool) → ltb (length b) (at + 2) ≡ s → ltb (number_at_of b at) least ≡ t
            → ltb most (number_at_of b at) ≡ u → ltb (length b) (past_section b at) ≡ v
            → section_refusal_of (b ++ p) at least most ≡ section_refusal_of b at least most
        go true t u v es et eu ev = absurd (cut_off (cut_count b at least most (ltb-true (length b) (at + 2) es)) h refl)
        go false true u v es et eu ev =
            let counted = ltb-false (length b) (at + 2) es in
            let few = ltb-true (number_at_of b at) least et in
            let n = number_grows at counted in
            too_few (b ++ p) at least most (omega (arith, longer)) (omega arith) ∙ sym (too_few b at least most counted few)
        go false false true v es et eu ev =
            let counted = ltb-false (length b) (at + 2) es in
            let low = ltb-false (number_at_of b at) least et in
            let many = ltb-true most (number_at_of b at) eu in
            let n = number_grows at counted in
            too_many (b ++ p) at least most (omega (arith, longer)) (omega arith) (omega arith) ∙ sym (too_many b at least most counted low many)
        go false false false true es et eu ev =
            let counted = ltb-false (length b) (at + 2) es in
            let low = ltb-false (number_at_of b at) least et in
            let high = ltb-false most (number_at_of b at) eu in
            absurd (cut_off (cut-numbers b at least most counted low high (ltb-true (length b) (past_section b at) ev)) h refl)
        go false false false false es et eu ev =
            let w : Whole b at least most =
            record {
              counted = ltb-false (length b) (at + 2) es;
              low = ltb-false (number_at_of b at) least et;
              high = ltb-false most (number_at_of b at) eu;
              present = ltb-false (length b) (past_section b at) ev;
            } in
            whole (b ++ p) at least most (whole-grows w) ∙ sym (whole b at least most w)

  module _ (w : Whole b 0 1 most_functions) where
    past-grows : past_section (b ++ p) 0 ≡ past_section b 0
    past-grows = omega (arith, number_grows 0 w.counted)

    functions-grow : functions_of (b ++ p) ≡ functions_of b
    unfolding functions_of
    functions-grow = rw (number_grows 0 w.counted) (numbers_grow (number_at_of b 0) 2 (omega (arith, w.present)))

    known_by : (k : Bool) → all_known_of (functions_of b) ≡ k → is_cut (sections_refusal b) ≡ false
        → sections_refusal (b ++ p) ≡ sections_refusal b
    known_by false e h =
        unknown-next (b ++ p) (whole-grows 0 1 most_functions w) (ap all_known_of functions-grow ∙ e) ∙ sym (unknown-next b w e)
    known_by true e h =
        let last = patterns-last b w e in
        let same = section-grows (past_section b 0) 0 most_patterns (ap is_cut (sym last) ∙ h) in
        patterns-last (b ++ p) (whole-grows 0 1 most_functions w) (ap all_known_of functions-grow ∙ e) ∙ rw past-grows same ∙ sym last

  pub sections_grow : is_cut (sections_refusal b) ≡ false → sections_refusal (b ++ p) ≡ sections_refusal b
  sections_grow h = go (is_none (section_refusal_of b 0 1 most_functions)) refl
    where
      go : (t : Bool) → is_none (section_refusal_of b 0 1 most_functions) ≡ t → sections_refusal (b ++ p) ≡ sections_refusal b
      go true e = known_by (whole_of b 0 1 most_functions e) (all_known_of (functions_of b)) refl h
      go false e =
          let r = section_refusal_of b 0 1 most_functions in
          let first = functions_first b r refl e in
          functions_first (b ++ p) r (sym (section-grows 0 1 most_functions (ap is_cut (sym first) ∙ h))) e ∙ sym first

  -- sections that are not refused end where they did
  pub ends_grow : Sound b → past_patterns (b ++ p) ≡ past_patterns b
  unfolding past_patterns
  ends_grow s =
      let past = past-grows s.functions in
      let n = number_grows (past_section b 0) s.patterns.counted in
      rw (past, n)
