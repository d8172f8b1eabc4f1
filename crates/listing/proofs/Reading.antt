-- What is known once the sections were read: how many functions, patterns and answers there are at most, and what the listing
-- call makes of the bytes.
use Prim.Native.Nat.{ℕ, ◌+◌, ◌*◌, ◌≤◌, ◌<◌}
use mathlib.Core.Path.{◌≡◌, refl, sym, ap, ◌∙◌}
use mathlib.Core.Bool.{true}
use mathlib.Core.List.{List, ◌++◌}
use Rattle.std.specs.Prelude.{Some, Ok, Err}
use native.Mathlib.Omega.{arith}
use lib.ListN.{length}
use lib.Seq.{sets}
use Rattle.refusals.specs.declared.Refusal.{Refusal}
use Rattle.refusals.specs.declared.Refusal.TheVariants.{Output, After}
use Rattle.sections.specs.declared.Sections.{Sections}
use Rattle.words.specs.Numbers.{numbers_at}
use Rattle.sections.specs.Sections.{section, functions_of, patterns_of}
use Rattle.sections.specs.Order.{all_known_of, sections_refusal, sections_of, counted}
use Rattle.sections.proofs.Back.{Bytes}
use Rattle.sections.proofs.Counts.{functions_are}
use Rattle.sections.proofs.Sound.{sound, read, refused_of, none_of, refused_counts, found_counts}
use Rattle.listing.specs.Answered.{answered, answers_at}
use Rattle.listing.specs.Outcome.{refusal_of, listed_of, output_of}
use Rattle.listing.proofs.Counts.{size_is}
use Rattle.listing.proofs.Calls.{Accepted, sections_first, bytes_after, output-last, accepted, accepted_of, refused_call, accepted_result, writes-answered}

pub refused_first : (b : List ℕ) (outputs : ℕ) (e : Refusal) → Err e ≡ sections_of b → Err e ≡ counted b (refusal_of b outputs)
refused_first b outputs e h =
    refused_counts b e (sections_first b outputs (Some e) (sym (refused_of b (sections_refusal b) h)) refl)

module _ (b : List ℕ) (s : Sections) (e : Ok s ≡ sections_of b) where
  pub few_functions : s.functions ≤ 10
  few_functions = (read b s e).counts.few

  pub few_patterns : s.patterns ≤ 1024
  few_patterns = (read b s e).counts.some

  pub few_answers : s.functions * s.patterns ≤ 10240
  few_answers = (read b s e).answers

  size : length (answered (functions_of b) (patterns_of b)) ≡ 4 + 2 * s.functions + 2 * s.patterns + 2 + 2 * (s.functions * s.patterns)
  size = size_is b s.functions s.patterns (read b s e).counts.functions (read b s e).counts.patterns

  pub after_refused : (outputs : ℕ) → 4 + 2 * s.functions + 2 * s.patterns < length b
      → Err After ≡ counted b (refusal_of b outputs)
  after_refused outputs h = refused_counts b After (bytes_after b outputs (read b s e).sound (omega (arith, (read b s e).past)))

  module _ (outputs : ℕ) (h : length b ≤ 4 + 2 * s.functions + 2 * s.patterns) where
    pub output_refused : outputs < 4 + 2 * s.functions + 2 * s.patterns + 2 + 2 * (s.functions * s.patterns)
        → Err Output ≡ counted b (refusal_of b outputs)
    output_refused k =
        let r = read b s e in
        refused_counts b Output (output-last b outputs r.sound (omega (arith, r.past)) (omega (arith, size)))

    pub listing_found : 4 + 2 * s.functions + 2 * s.patterns + 2 + 2 * (s.functions * s.patterns) ≤ outputs
        → Ok s ≡ counted b (refusal_of b outputs)
    listing_found k =
        let r = read b s e in
        let a = accepted b outputs (record { sections = r.sound; nothing_after = omega (arith, r.past); room = omega (arith, size) }) in
        found_counts b s.functions s.patterns a r.counts.functions r.counts.patterns

-- what the reader of a listing leaves to show
pub ruleset reads = (few_functions, few_patterns, few_answers, refused_first, after_refused, output_refused, listing_found)

-- a listing that was not refused
module _ (b : List ℕ) (outputs : ℕ) (s : Sections) (e : Ok s ≡ counted b (refusal_of b outputs)) where
  taken : Accepted b outputs
  taken = accepted_of b outputs (none_of b (refusal_of b outputs) s e)

  pub found_in_listing : Ok s ≡ sections_of b
  found_in_listing = e ∙ ap (counted b) (accepted b outputs taken ∙ sym (sound b taken.sections))

  pub listing_length : length b ≡ 4 + 2 * s.functions + 2 * s.patterns
  listing_length = omega (arith, (read b s found_in_listing).past, (read b s found_in_listing).within, taken.nothing_after)

  pub listing_known : all_known_of (numbers_at b 2 s.functions) ≡ true
  listing_known =
      let r = read b s found_in_listing in
      ap all_known_of (functions_are b s.functions s.patterns r.counts.functions r.counts.patterns) ∙ r.sound.all_known

  pub listing_room : length b + 2 + 2 * (s.functions * s.patterns) ≤ outputs
  listing_room = omega (arith, listing_length, taken.room, size b s found_in_listing)

-- the outcome of a call, where the listing is refused and where it is not
module _ (b output : List ℕ) where
  pub refused_output : (e : Refusal) → Err e ≡ counted b (refusal_of b (length output)) → output ≡ output_of b output
  refused_output e h = (refused_call b output e (refused_of b (refusal_of b (length output)) h)).1

  module _ (s : Sections) (e : Ok s ≡ counted b (refusal_of b (length output))) where
    pub answered_length : Ok (6 + 2 * s.functions + 2 * s.patterns + 2 * (s.functions * s.patterns)) ≡ listed_of b (length output)
    answered_length =
        accepted_result b output (6 + 2 * s.functions + 2 * s.patterns + 2 * (s.functions * s.patterns)) (taken b (length output) s e)
        (size b s (found_in_listing b (length output) s e) ∙ omega arith)

    pub answered_output : Bytes b → sets output 0 (b ++ section (answers_at b s.functions s.patterns)) ≡ output_of b output
    answered_output bytes =
        let r = read b s (found_in_listing b (length output) s e) in
        writes-answered b output s.functions s.patterns r.counts.functions r.counts.patterns bytes (taken b (length output) s e)

-- what the listing call leaves to show
pub ruleset calls = (
  few_functions,
  few_patterns,
  few_answers,
  found_in_listing,
  listing_length,
  listing_known,
  listing_room,
  refused_output,
  answered_length,
  answered_output,
)
