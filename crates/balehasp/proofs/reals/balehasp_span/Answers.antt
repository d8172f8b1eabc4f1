-- Each case of the answer says what its ways out have to say.
use Rattle.std.proofs.Common.{◌+◌, ◌*◌, ◌∙◌, refl}
use Rattle.spans.specs.Spans.{edge_bits_of}
use Rattle.balehasp.proofs.reals.balehasp_span.Goals as goal

pub returns-in_default : goal.returns-in_default
returns-in_default c = (c.in_default.ensures, refl, refl, refl)

pub returns : goal.returns
returns c =
    let v = c.in-Some.ensures in
    ((v.0, (v.1.0, refl), (v.2.0, refl)), c.edge_bits.ensures ∙ (λ i. edge_bits_of (v.1.1 i) + 4 * edge_bits_of (v.2.1 i)))
