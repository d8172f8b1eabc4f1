-- The magnitude is that of the bits below the sign, and that of zero is that of 1; the fields of a pattern stand where `Fields`
-- has them, 51 places up.
use Rattle.std.proofs.Common.{◌≡◌, ℕ, ◌+◌, ◌*◌, ◌/◌, ◌%◌, ◌^◌, ◌<◌, ◌≤◌, leb, sym, ap, ◌∙◌, arith}
use Rattle.posit.specs.Number.{magnitude, run, bit, regime}
use Rattle.posit.proofs.Fields.{shifted, decodes, run_most, first_bit, moved_up, exponent_up, fraction_up}
use Rattle.posit.proofs.Decodings.{of_low, of_zero, decodes_as, same_decoding}
use Rattle.posit.proofs.decoding.fields_of.Goals as goal
use Rattle.posit.proofs.decoding.fields_of.Goals.{then-q-eq0, else-q-eq0}

pub returns-clause-decodes : goal.returns-clause-decodes
returns-clause-decodes c =
    let p = c.args.p in
    let q = c.if-q-eq0.w in
    let m = c.run_length-m.result in
    let l : (0 < q) × (q < 2 ^ 15) = elim c.if-q-eq0.branch [ then-q-eq0 w ↦ (omega arith, omega arith) | else-q-eq0 w ↦ (omega arith, omega arith) ] in
    let word = q * 2 ^ 49 % 2 ^ 64 in
    let few : m ≤ 15 = run_most (leb (2 ^ 63) word) m c.run_length-m.ensures.bounds.1 in
    let b = bit 63 word in
    let same : magnitude 1 16 (p % 2 ^ 15) ≡ magnitude 1 16 q =
    elim c.if-q-eq0.branch [
      | then-q-eq0 w ↦ ap (magnitude 1 16) w.if-q-eq0.true ∙ of_zero ∙ ap (magnitude 1 16) (sym w.w-is)
      | else-q-eq0 w ↦ ap (magnitude 1 16) (sym w.w-is)
    ] in
    let counted : m ≡ run b 15 q = c.run_length-m.ensures.counted ∙ ap (run b 15) (let e : word / 2 ^ 49 ≡ q = omega arith in e) in
    let d = decodes q b m (omega arith) counted c.run_length-m.ensures.bounds.0 few in
    let power = ap (λ (x : ℕ). regime 1 16 b m + x) (exponent_up (shifted m q)) in
    rw (moved_up q m l.1, c.regime_of.ensures, first_bit word (omega arith))
    (decodes_as p q _ _ (of_low p ∙ same) (same_decoding d power (fraction_up (shifted m q))))

pub returns-clause-below_clear : goal.returns-clause-below_clear
returns-clause-below_clear c =
    let q = c.if-q-eq0.w in
    let l : q < 2 ^ 15 = elim c.if-q-eq0.branch [ then-q-eq0 w ↦ omega arith | else-q-eq0 w ↦ omega arith ] in
    rw (moved_up q c.run_length-m.result l) (omega arith)
