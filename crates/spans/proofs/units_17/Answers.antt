-- By the run of v.
use Rattle.std.proofs.Common.{◌≡◌, ℕ, ◌+◌, ◌-◌, ◌*◌, ◌/◌, ◌%◌, ◌^◌, ◌<◌, sym, ap, ◌∙◌, arith, shl_exact}
use Rattle.posit.specs.Number.{magnitude}
use Rattle.real.proofs.Short.{magnitude_short}
use Rattle.spans.proofs.Wider.{of_zeros, of_ones, of_one-bit}
use Rattle.spans.proofs.units_17.Goals as goal

pub returns-then-v-lt16384 : goal.returns-then-v-lt16384
returns-then-v-lt16384 c = c.units.ensures ∙ sym (of_zeros c.args.v c.if-v-lt16384.true)

pub overflow_mul-result : goal.overflow_mul-result
overflow_mul-result c =
    let u = c.args.v - 0x8000 in
    let h : magnitude 1 16 u < 2 ^ 58 = (magnitude_short 16 u (omega arith) (omega arith)).small in
    omega (arith, c.units-then-v-ge49152.ensures)

pub returns-then-v-ge49152 : goal.returns-then-v-ge49152
returns-then-v-ge49152 c =
    let v = c.args.v in
    ap (λ (m : ℕ). 16 * m) c.units-then-v-ge49152.ensures
    ∙ sym (of_ones (v - 0x8000) (omega arith) (omega arith))
    ∙ ap (magnitude 1 17) (let e : 1 * 2 ^ 15 + (v - 0x8000) ≡ v = omega arith in e)

pub returns : goal.returns
returns c =
    let v = c.args.v in
    shl_exact {a = 0x2000 + v % 0x2000} 14 (13 + v / 0x2000) 64 (omega arith) (omega arith) ∙ sym (of_one-bit v (omega arith) (omega arith))
