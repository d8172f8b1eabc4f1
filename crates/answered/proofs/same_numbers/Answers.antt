-- The numbers stand at the places that the range counts.
use Rattle.std.proofs.Common.{◌+◌, ◌*◌, refl, ◌∙◌, rules, arith}
use Rattle.std.proofs.lemmas.Iterator.{YieldsList-from_range}
use Rattle.std.proofs.lemmas.Iterator.Search.{all_from_yields_List}
use borrow.Author.Tests.{tests}
use lib.Dec.{eqb}
use Rattle.words.specs.Numbers.{number_at_of}
use Rattle.answered.proofs.Same.{same_by_place}
use Rattle.answered.proofs.same_numbers.Goals as goal

pub returns : goal.returns
returns c =
    let a = c.args in
    all_from_yields_List (λ k. eqb (number_at_of a.first.now (a.at + 2 * k)) (number_at_of a.second.now (a.at + 2 * k))) _ _ _ c.all.ensures.ran
    (YieldsList-from_range 0 a.count a.count refl (omega arith)) (λ x r q k. search (rules, tests))
    ∙ same_by_place a.first.now a.second.now a.at a.count
