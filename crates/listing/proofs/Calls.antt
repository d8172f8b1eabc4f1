-- Which refusal a call gives, and what it answers where it gives none.
use Prim.Native.Nat.{ℕ, ◌+◌, ◌*◌, ◌≤◌, ◌<◌}
use mathlib.Core.Path.{◌≡◌, refl, sym, ap, ◌∙◌}
use mathlib.Core.Bool.{Bool, true, false, cond, false≢true}
use mathlib.Core.List.{List, ◌++◌}
use Rattle.std.specs.Prelude.{Option, Some, None, is_none, Ok, Err}
use native.Mathlib.Omega.{arith}
use borrow.Author.Tests.{lt-ltb, le-ltb, ltb-false}
use lib.ListN.{length, take, drop}
use lib.Seq.{sets, take-add, take_all}
use lib.Dec.{ltb}
use Rattle.refusals.specs.declared.Refusal.{Refusal}
use Rattle.refusals.specs.declared.Refusal.TheVariants.{Output, After}
use Rattle.words.specs.Numbers.{number_at_of}
use Rattle.refusals.specs.Refusals.{◌before◌, refused_when}
use Rattle.sections.specs.Sections.{section, past_section, functions_of, patterns_of, past_patterns}
use Rattle.sections.specs.Order.{sections_refusal}
use Rattle.sections.proofs.Back.{Bytes, section_bytes}
use Rattle.sections.proofs.Counts.{functions_are, patterns_are}
use Rattle.sections.proofs.Sound.{Sound, sound, sound_of}
use Rattle.listing.specs.Answered.{answers, listing, answered, answers_at}
use Rattle.listing.specs.Outcome.{refusal_of, writes, listed_of, output_of}
use Rattle.listing.proofs.Writing.{sets_front}

-- a call that no test refuses
pub record Accepted (b : List ℕ) (outputs : ℕ) : Type 0 where
  pub sections : Sound b
  pub nothing_after : length b ≤ past_patterns b
  pub room : length (answered (functions_of b) (patterns_of b)) ≤ outputs

module _ (b : List ℕ) (outputs : ℕ) where
  pub sections_first : (r : Option Refusal) → r ≡ sections_refusal b → is_none r ≡ false → refusal_of b outputs ≡ r
  unfolding refusal_of
  sections_first r e n = rw (← e, n)

  module _ (s : Sound b) where
    pub bytes_after : past_patterns b < length b → refusal_of b outputs ≡ Some After
    unfolding refusal_of
    bytes_after h = rw (sound b s, lt-ltb (past_patterns b) (length b) h)

    pub output-last : length b ≤ past_patterns b → outputs < length (answered (functions_of b) (patterns_of b))
        → refusal_of b outputs ≡ Some Output
    unfolding refusal_of
    output-last h k =
        let size = length (answered (functions_of b) (patterns_of b)) in
        rw (sound b s, le-ltb (past_patterns b) (length b) h, lt-ltb outputs size k)

  pub accepted : Accepted b outputs → refusal_of b outputs ≡ None
  unfolding refusal_of
  accepted a =
      rw (
        sound b a.sections,
        le-ltb (past_patterns b) (length b) a.nothing_after,
        le-ltb outputs (length (answered (functions_of b) (patterns_of b))) a.room,
      )

parts : (r : Option Refusal) (s t : Bool) → is_none (r before refused_when s After before refused_when t Output) ≡ true
    → (is_none r ≡ true) × (s ≡ false) × (t ≡ false)
parts r s t e = go (is_none r) refl s t e
  where
    go : (q : Bool) → is_none r ≡ q → (s t : Bool) → is_none (cond q (refused_when s After before refused_when t Output) r) ≡ true
        → (is_none r ≡ true) × (s ≡ false) × (t ≡ false)
    go true h true t e = absurd (false≢true e)
    go true h false true e = absurd (false≢true e)
    go true h false false e = (h, refl, refl)
    go false h s t e = absurd (false≢true (sym h ∙ e))

pub accepted_of : (b : List ℕ) (outputs : ℕ) → is_none (refusal_of b outputs) ≡ true → Accepted b outputs
unfolding refusal_of
accepted_of b outputs e =
    let size = length (answered (functions_of b) (patterns_of b)) in
    let h = parts (sections_refusal b) (ltb (past_patterns b) (length b)) (ltb outputs size) e in
    record {
      sections =
          sound_of b h.0;
      nothing_after = ltb-false (past_patterns b) (length b) h.1;
      room = ltb-false outputs size h.2;
    }

-- the outcome of a refused call, and of one that is not
pub refused_call : (b output : List ℕ) (r : Refusal) → refusal_of b (length output) ≡ Some r
    → (Err r ≡ listed_of b (length output)) × (output ≡ output_of b output)
unfolding writes
refused_call b output r e = (rw e, rw e)

pub accepted_call : (b output : List ℕ) → Accepted b (length output)
    → let whole = answered (functions_of b) (patterns_of b) in
    (listed_of b (length output) ≡ Ok (length whole)) × (output_of b output ≡ whole ++ drop (length whole) output)
unfolding writes
accepted_call b output a = (rw (accepted b (length output) a), rw (accepted b (length output) a))

pub accepted_result : (b output : List ℕ) (n : ℕ) → Accepted b (length output)
    → length (answered (functions_of b) (patterns_of b)) ≡ n
    → Ok n ≡ listed_of b (length output)
accepted_result b output n a e = rw (← e) (sym (accepted_call b output a).0)

-- bytes with sound sections begin with a listing, and are one where nothing stands after them
pub begins_with_listing : (b : List ℕ) → Bytes b → Sound b → take (past_patterns b) b ≡ listing (functions_of b) (patterns_of b)
unfolding functions_of patterns_of listing past_patterns
begins_with_listing b bytes s =
    let front = past_section b 0 in
    let back = 2 + 2 * number_at_of b front in
    let e : past_section b front ≡ front + back = omega arith in
    rw (section_bytes b bytes 0 s.functions.present, section_bytes b bytes front s.patterns.present, e) (take-add front back b)

pub is_listing : (b : List ℕ) → Bytes b → Sound b → length b ≤ past_patterns b → b ≡ listing (functions_of b) (patterns_of b)
is_listing b bytes s h = sym (take_all (past_patterns b) b h) ∙ begins_with_listing b bytes s

-- what the writes of a call leave is what the definition says
module _ (b output : List ℕ) (functions patterns : ℕ) (f : functions ≡ length (functions_of b)) (p : patterns ≡ length (patterns_of b)) where
  pub writes-answered : Bytes b → Accepted b (length output)
      → sets output 0 (b ++ section (answers_at b functions patterns)) ≡ output_of b output
  unfolding answered
  writes-answered bytes a =
      let fs = functions_of b in
      let ps = patterns_of b in
      let e : b ++ section (answers fs ps) ≡ answered fs ps =
      ap (λ (l : List ℕ). l ++ section (answers fs ps)) (is_listing b bytes a.sections a.nothing_after) in
      rw (functions_are b functions patterns f p, patterns_are b functions patterns f p, e)
      (sets_front output (answered fs ps) a.room ∙ sym (accepted_call b output a).1)
