-- What it rounds is row 1's number.
use Rattle.std.proofs.Common.{◌≡◌, ℕ, ◌*◌, ◌^◌, ◌<◌, ◌≤◌, cond, ltb, arith, lt_of_le_of_lt}
use native.Mathlib.Nat.{mul-le-mul_right}
use mir.Facts.{Fits-of_lt}
use lib.Dec.{lit<}
use Rattle.posit.specs.Number.{magnitude, run, opposite, with_sign}
use Rattle.exponential.specs.Exp.{kernel}
use Rattle.rows.proofs.Signs.{times_signed}
use Rattle.exponential.proofs.Rows.Ends.{Between, nearest, kernel_sided}
use Rattle.exponential.proofs.Rows.Exp.{ordered, kernel_moved}
use Rattle.exponential.proofs.math.exp.kernel.Goals as goal

between : {p s x : ℕ} → (192 ≤ p) × (p ≤ 65407) × (28846 ≤ p → 36690 < p) → s ≡ cond (ltb 0x7fff p) (opposite 16 p) p → x ≡ magnitude 1 16 s
    → Between 192 65407 28846 36690 p s x
between h signed units = record { least = h.0; most = h.1; out = h.2; signed = signed; units = units }

-- the numbers that come here, over ln 2, lie within 32 of zero
near_zero : magnitude 1 16 28845 * 48408813 < 2 ^ 58
unfolding magnitude run
near_zero = lit< tt

near : {p s x : ℕ} → Between 192 65407 28846 36690 p s x → x * 48408813 < 2 ^ 58
near w = lt_of_le_of_lt (mul-le-mul_right 48408813 (nearest ordered w)) near_zero

pub overflow_mul-x : goal.overflow_mul-x
overflow_mul-x c = Fits-of_lt (let h = near (between c.requires c.signed.ensures c.units-x.ensures) in omega arith)

pub moved-t-requires : goal.moved-t-requires
moved-t-requires c = (let h = near (between c.requires c.signed.ensures c.units-x.ensures) in omega arith, lit< tt)

pub returns : goal.returns
returns c =
    let p = c.args.p in
    let x = c.units-x.result in
    let t = c.moved-t.result in
    kernel_sided ordered kernel (2 ^ 37) 69 c.round_sided.result (between c.requires c.signed.ensures c.units-x.ensures)
    (kernel_moved (with_sign (ltb 0x7fff p) x) t (rw (times_signed (ltb 0x7fff p) x 48408813) c.moved-t.ensures.base_value))
    c.exp_poly-f.ensures.value
    (omega (arith, c.moved-t.ensures.upper_bound))
    c.less.ensures
    c.less.type_inv
    c.round_sided.ensures
