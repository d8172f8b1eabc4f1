-- Answered forms are accepted, whatever their answers, and nothing else is.
use Prim.Native.Nat.{ℕ, ◌+◌, ◌*◌}
use mathlib.Core.Path.{◌≡◌, sym, ap, ◌∙◌}
use mathlib.Core.List.{List, [], ◌++◌, append-nil}
use native.Mathlib.Omega.{arith}
use lib.ListN.{length, take, drop, length-append, length-drop, take-append-drop}
use lib.Seq.{take_all}
use Rattle.std.specs.Prelude.{None, is_none}
use Rattle.words.specs.Numbers.{number_at_of}
use Rattle.words.proofs.Reading.{length-numbers_at}
use Rattle.sections.specs.Sections.{section, section_at, functions_of, patterns_of, past_patterns}
use Rattle.sections.proofs.Back.{Bytes, section_back, length-section, section_bytes}
use Rattle.sections.proofs.Counts.{length_functions, length_patterns}
use Rattle.listing.specs.Answered.{answers, listing, answered}
use Rattle.listing.proofs.Writing.{length-answers}
use Rattle.listing.proofs.Calls.{begins_with_listing}
use Rattle.listing.proofs.Laws.{Listable, functions_back, patterns_back, past_listing, sound_listing}
use Rattle.answered.specs.Answered.{answers_of, asks, pair_refusal}
use Rattle.answered.proofs.Complete.{Complete}
use Rattle.answered.proofs.Pairs.{agreed, agreed_of}

-- the bytes of an answered form: "count F·N, then the answers"
abbrev pub form : List ℕ → List ℕ → List ℕ → List ℕ
form fs ps xs = listing fs ps ++ section xs

module _ (fs ps xs : List ℕ) (l : Listable fs ps) (n : length xs ≡ length fs * length ps) where
  third : section_at (form fs ps xs) (past_patterns (form fs ps xs)) ≡ xs
  third =
      let whole : listing fs ps ++ (section xs ++ []) ≡ form fs ps xs = rw append-nil in
      rw (past_listing fs ps (section xs), ← whole) (section_back (listing fs ps) xs [])

  count : number_at_of (form fs ps xs) (past_patterns (form fs ps xs)) ≡ length xs
  count =
      let at = past_patterns (form fs ps xs) in
      sym (length-numbers_at (form fs ps xs) (at + 2) (number_at_of (form fs ps xs) at)) ∙ ap length third

  size : length (form fs ps xs) ≡ past_patterns (form fs ps xs) + 2 + 2 * length xs
  size = length-append (listing fs ps) (section xs) ∙ omega (arith, past_listing fs ps (section xs), length-section xs)

  asked : asks (form fs ps xs) ≡ length fs * length ps
  asked = rw (functions_back fs ps (section xs), patterns_back fs ps (section xs))

  pub form_complete : Complete (form fs ps xs)
  form_complete =
      record {
        sections = sound_listing fs ps (section xs) l;
        counted = omega (arith, size);
        count = count ∙ n ∙ sym asked;
        present = omega (arith, size, count);
        nothing_after = omega (arith, size, count);
      }

-- two answered forms that ask the same are compared
pub forms_accepted : (fs ps xs ys : List ℕ) → Listable fs ps → length xs ≡ length fs * length ps → length ys ≡ length fs * length ps
    → pair_refusal (form fs ps xs) (form fs ps ys) ≡ None
forms_accepted fs ps xs ys l m n =
    agreed (form fs ps xs) (form fs ps ys)
    (record {
      first = form_complete fs ps xs l m;
      second = form_complete fs ps ys l n;
      functions = functions_back fs ps (section xs) ∙ sym (functions_back fs ps (section ys));
      patterns = patterns_back fs ps (section xs) ∙ sym (patterns_back fs ps (section ys));
    })

-- what the listing call writes, compared with itself read back, is accepted
pub reads_back_accepted : (fs ps : List ℕ) → Listable fs ps → pair_refusal (answered fs ps) (answered fs ps) ≡ None
unfolding answered
reads_back_accepted fs ps l = forms_accepted fs ps (answers fs ps) (answers fs ps) l (length-answers fs ps) (length-answers fs ps)

-- what is accepted is an answered form
module _ (b : List ℕ) (bytes : Bytes b) (w : Complete b) where
  pub is_form : b ≡ form (functions_of b) (patterns_of b) (answers_of b)
  unfolding answers_of
  is_form =
      let past = past_patterns b in
      let n = number_at_of b past in
      let back : take (2 + 2 * n) (drop past b) ≡ drop past b = take_all (2 + 2 * n) (drop past b) (omega (arith, length-drop past b, w.nothing_after)) in
      sym (rw (← begins_with_listing b bytes w.sections, section_bytes b bytes past w.present, back) (take-append-drop past b))

  pub form_listable : Listable (functions_of b) (patterns_of b)
  form_listable =
      let s = w.sections in
      record {
        some_functions = omega (arith, length_functions b, s.functions.low);
        few_functions = omega (arith, length_functions b, s.functions.high);
        all_known = s.all_known;
        few_patterns = omega (arith, length_patterns b, s.patterns.high);
      }

  pub form_count : length (answers_of b) ≡ length (functions_of b) * length (patterns_of b)
  unfolding answers_of
  form_count = length-numbers_at b (past_patterns b + 2) (number_at_of b (past_patterns b)) ∙ w.count

pub only_forms : (b c : List ℕ) → Bytes b → Bytes c → pair_refusal b c ≡ None
    → (b ≡ form (functions_of b) (patterns_of b) (answers_of b)) × (c ≡ form (functions_of b) (patterns_of b) (answers_of c))
    × Listable (functions_of b) (patterns_of b) × (length (answers_of b) ≡ asks b) × (length (answers_of c) ≡ asks c)
only_forms b c bytes other e =
    let a = agreed_of b c (ap is_none e) in (
      is_form b bytes a.first,
      is_form c other a.second ∙ sym (ap (λ (fs : List ℕ). form fs (patterns_of b) (answers_of c)) a.functions
          ∙ ap (λ (ps : List ℕ). form (functions_of c) ps (answers_of c)) a.patterns),
      form_listable b bytes a.first,
      form_count b bytes a.first,
      form_count c other a.second,
    )
