-- What it rounds is row 2's number.
use Rattle.std.proofs.Common.{◌≡◌, ℕ, ◌^◌, ◌<◌, ◌≤◌, cond, ltb, arith, lt_of_le_of_lt}
use lib.Dec.{lit<}
use Rattle.posit.specs.Number.{magnitude, run, opposite, with_sign}
use Rattle.exponential.specs.Exp2.{kernel}
use Rattle.exponential.proofs.Rows.Ends.{Between, nearest, kernel_sided}
use Rattle.exponential.proofs.Rows.Exp2.{ordered, kernel_moved}
use Rattle.exponential.proofs.math.exp2.kernel.Goals as goal

between : {p s x : ℕ} → (221 ≤ p) × (p ≤ 65379) × (29377 ≤ p → 36159 < p) → s ≡ cond (ltb 0x7fff p) (opposite 16 p) p → x ≡ magnitude 1 16 s
    → Between 221 65379 29377 36159 p s x
between h signed units = record { least = h.0; most = h.1; out = h.2; signed = signed; units = units }

-- the numbers that come here lie within 32 of zero
near_zero : magnitude 1 16 29376 < 2 ^ 33
unfolding magnitude run
near_zero = lit< tt

near : {p s x : ℕ} → Between 221 65379 29377 36159 p s x → x < 2 ^ 33
near w = lt_of_le_of_lt (nearest ordered w) near_zero

pub moved-t-requires : goal.moved-t-requires
moved-t-requires c = (near (between c.requires c.signed.ensures c.units-x.ensures), lit< tt)

pub returns : goal.returns
returns c =
    let p = c.args.p in
    let x = c.units-x.result in
    let t = c.moved-t.result in
    kernel_sided ordered kernel (2 ^ 26) 58 c.round_sided.result (between c.requires c.signed.ensures c.units-x.ensures)
    (kernel_moved (with_sign (ltb 0x7fff p) x) t c.moved-t.ensures.base_value)
    c.exp2_poly-f.ensures.value
    (omega (arith, c.moved-t.ensures.upper_bound))
    c.less.ensures
    c.less.type_inv
    c.round_sided.ensures
