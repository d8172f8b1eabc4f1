-- The contract of the listing call determines its outcome; listings are answered and nothing else is; an answered listing reads
-- back.
use Prim.Native.Nat.{ℕ, ◌+◌, ◌*◌, ◌≤◌}
use mathlib.Core.Path.{◌≡◌, sym, ap, ◌∙◌, subst}
use mathlib.Core.Bool.{true}
use mathlib.Core.List.{List, [], ◌++◌, append_assoc, append-nil}
use Rattle.std.specs.Prelude.{None, is_none, Result, Ok}
use native.Mathlib.Omega.{arith}
use native.Mathlib.Nat.{zero-add}
use lib.ListN.{length, drop, length-append}
use Rattle.refusals.specs.declared.Refusal.{Refusal}
use Rattle.words.specs.Numbers.{number_at_of}
use Rattle.sections.specs.Sections.{section, section_at, past_section, functions_of, patterns_of, past_patterns}
use Rattle.sections.specs.Order.{most_functions, most_patterns, all_known_of, sections_refusal}
use Rattle.sections.proofs.Back.{Bytes, section_back, past_back}
use Rattle.sections.proofs.Counts.{length_functions, length_patterns}
use Rattle.sections.proofs.Sound.{Sound, sound}
use Rattle.listing.specs.Answered.{answers, listing, answered}
use Rattle.listing.specs.Outcome.{refusal_of, listed_of, output_of}
use Rattle.listing.proofs.Counts.{length-listing}
use Rattle.listing.proofs.Calls.{Accepted, accepted_of, accepted_call, is_listing}

-- what the contract of `answer_listing` allows
abbrev pub Allowed : List ℕ → List ℕ → Result ℕ Refusal → List ℕ → Type 0
Allowed b output r left = (r ≡ listed_of b (length output)) × (left ≡ output_of b output)

pub one_outcome : (b output : List ℕ) (r r' : Result ℕ Refusal) (left left' : List ℕ) → Allowed b output r left
    → Allowed b output r' left' → (r ≡ r') × (left ≡ left')
one_outcome b output r r' left left' h k = (h.0 ∙ sym k.0, h.1 ∙ sym k.1)

-- functions and patterns that a listing may have
pub record Listable (fs ps : List ℕ) : Type 0 where
  pub some_functions : 1 ≤ length fs
  pub few_functions : length fs ≤ most_functions
  pub all_known : all_known_of fs ≡ true
  pub few_patterns : length ps ≤ most_patterns

-- what is read from a listing, with the bytes q after it
module _ (fs ps q : List ℕ) where
  split : listing fs ps ++ q ≡ section fs ++ (section ps ++ q)
  unfolding listing
  split = append_assoc (section fs) (section ps) q

  past_functions : past_section (listing fs ps ++ q) 0 ≡ length (section fs)
  past_functions = rw split (past_back [] fs (section ps ++ q) ∙ zero-add (length (section fs)))

  pub functions_back : functions_of (listing fs ps ++ q) ≡ fs
  unfolding functions_of
  functions_back = rw split (section_back [] fs (section ps ++ q))

  pub patterns_back : patterns_of (listing fs ps ++ q) ≡ ps
  unfolding patterns_of
  patterns_back = rw (past_functions, split) (section_back (section fs) ps q)

  pub past_listing : past_patterns (listing fs ps ++ q) ≡ length (listing fs ps)
  unfolding past_patterns listing
  past_listing = rw (past_functions, split) (past_back (section fs) ps q ∙ sym (length-append (section fs) (section ps)))

  pub sound_listing : Listable fs ps → Sound (listing fs ps ++ q)
  sound_listing l =
      let b = listing fs ps ++ q in
      let size : length b ≡ 4 + 2 * length fs + 2 * length ps + length q =
      length-append (listing fs ps) q ∙ ap (λ (n : ℕ). n + length q) (length-listing fs ps) in
      let functions : number_at_of b 0 ≡ length fs = sym (length_functions b) ∙ ap length functions_back in
      let patterns : number_at_of b (past_section b 0) ≡ length ps = sym (length_patterns b) ∙ ap length patterns_back in
      record {
        functions = record { counted = omega arith; low = omega (arith, l.some_functions); high = omega (arith, l.few_functions); present = omega arith };
        all_known = ap all_known_of functions_back ∙ l.all_known;
        patterns = record { counted = omega arith; low = omega arith; high = omega (arith, l.few_patterns); present = omega arith };
      }

-- a listing is answered where there is room
pub is_answered : (fs ps output : List ℕ) → Listable fs ps → length (answered fs ps) ≤ length output
    → (listed_of (listing fs ps) (length output) ≡ Ok (length (answered fs ps)))
    × (output_of (listing fs ps) output ≡ answered fs ps ++ drop (length (answered fs ps)) output)
is_answered fs ps output l room =
    let b = listing fs ps in
    let e : b ++ [] ≡ b = append-nil b in
    let f : functions_of b ≡ fs = ap functions_of (sym e) ∙ functions_back fs ps [] in
    let p : patterns_of b ≡ ps = ap patterns_of (sym e) ∙ patterns_back fs ps [] in
    let past : past_patterns b ≡ length b = ap past_patterns (sym e) ∙ past_listing fs ps [] in
    let a : Accepted b (length output) =
    record {
      sections = subst Sound e (sound_listing fs ps [] l);
      nothing_after = omega arith;
      room = rw (f, p) room;
    } in
    let q = accepted_call b output a in
    (rw (f, p) at q.0, rw (f, p) at q.1)

-- bytes that are answered are a listing, that of the sections read from them
pub only_listings : (b : List ℕ) (outputs : ℕ) → Bytes b → refusal_of b outputs ≡ None
    → (b ≡ listing (functions_of b) (patterns_of b)) × Listable (functions_of b) (patterns_of b) × (length (answered (functions_of b) (patterns_of b)) ≤ outputs)
only_listings b outputs bytes e =
    let a = accepted_of b outputs (ap is_none e) in
    let s = a.sections in (
      is_listing b bytes s a.nothing_after,
      record {
        some_functions = omega (arith, length_functions b, s.functions.low);
        few_functions = omega (arith, length_functions b, s.functions.high);
        all_known = s.all_known;
        few_patterns = omega (arith, length_patterns b, s.patterns.high);
      },
      a.room,
    )

-- an answered listing has the same two sections, and the rows' answers in its third
pub reads_back : (fs ps : List ℕ) → Listable fs ps
    → let b = answered fs ps in
    (sections_refusal b ≡ None) × (functions_of b ≡ fs) × (patterns_of b ≡ ps) × (section_at b (past_patterns b) ≡ answers fs ps)
unfolding answered
reads_back fs ps l =
    let third = section (answers fs ps) in
    let b = listing fs ps ++ third in
    let whole : listing fs ps ++ (third ++ []) ≡ b = rw append-nil in (
      sound b (sound_listing fs ps third l),
      functions_back fs ps third,
      patterns_back fs ps third,
      rw (past_listing fs ps third, ← whole) (section_back (listing fs ps) (answers fs ps) []),
    )
