-- The functions stand at the places that the range counts.
use Rattle.std.proofs.Common.{◌+◌, ◌*◌, refl, ◌∙◌, rules, arith}
use Rattle.std.proofs.lemmas.Iterator.{YieldsList-from_range}
use Rattle.std.proofs.lemmas.Iterator.Search.{all_from_yields_List}
use borrow.Author.Tests.{tests}
use Rattle.p16e1.specs.Functions.{known}
use Rattle.words.specs.Numbers.{number_at_of}
use Rattle.sections.proofs.Known.{all-known_from}
use Rattle.sections.proofs.all_known.Goals as goal

pub returns : goal.returns
returns c =
    let b = c.args.bytes.now in
    let n = c.args.count in
    all_from_yields_List (λ k. known (number_at_of b (2 + 2 * k))) _ _ _ c.all.ensures.ran
    (YieldsList-from_range 0 n n refl (omega arith)) (λ x r q k. search (rules, tests))
    ∙ all-known_from b 2 n 0
