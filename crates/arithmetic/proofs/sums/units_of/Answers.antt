-- The units of p that `posit::units` has, after the sign.
use Rattle.std.proofs.Common.{◌≡◌, ℕ, ◌^◌, ◌≤◌, ◌<◌, pos, neg_ℤ, ◌-ℤ◌, ap, sym, ◌∙◌, arith, w64, to_z, of_z, lt-ltb, le-ltb}
use Rattle.std.proofs.lemmas.Int.{ints}
use borrow.Author.Tests.{ne_eqb}
use Rattle.posit.specs.Number.{magnitude, size}
use Rattle.arithmetic.specs.Sizes.{units_in}
use Rattle.arithmetic.proofs.Exact.{units_few, mag_minus}
use Rattle.arithmetic.proofs.sums.units_of.Goals as goal

-- m, which posit::units gives for q, the pattern of p's magnitude
found : {p q m : ℕ} → (p ≡ 0 → ⊥) → (p ≡ 0x8000 → ⊥) → p < 0x10000 → q ≡ size 16 p → m ≡ magnitude 1 16 q → (m ≡ units_in p) × (m ≤ 2 ^ 56)
found {p} {q} {m} some real fits q_is m_is =
    let e : m ≡ units_in p = m_is ∙ ap (magnitude 1 16) q_is ∙ sym (rw (ne_eqb p 0 some)) in
    (e, let few = units_few p fits real in omega arith)

minus : (m : ℕ) → m ≤ 2 ^ 56 → pos 0 -ℤ to_z w64 m ≡ neg_ℤ (pos m)
minus m few = omega (arith, ints)

minus_read : (m : ℕ) → m ≤ 2 ^ 56 → to_z w64 (of_z w64 (pos 0 -ℤ to_z w64 m)) ≡ neg_ℤ (pos m)
minus_read m few = omega (arith, ints)

plus_read : (m : ℕ) → m ≤ 2 ^ 56 → to_z w64 m ≡ pos m
plus_read m few = omega (arith, ints)

pub overflow_cast-m : goal.overflow_cast-m
overflow_cast-m c =
    let f = found c.if-p-eq0.false c.requires c.ranges.p.fits c.signed.ensures c.units-m.ensures in
    record { sfits = omega (arith, f.1) }

pub overflow_sub-result : goal.overflow_sub-result
overflow_sub-result c =
    let f = found c.if-p-eq0.false c.requires c.ranges.p.fits c.signed.ensures c.units-m.ensures in
    rw (minus c.units-m.result f.1) (record { sfits = omega (arith, mag_minus c.units-m.result, f.1) })

pub returns-then-negative-clause-value : goal.returns-then-negative-clause-value
returns-then-negative-clause-value c =
    let f = found c.if-p-eq0.false c.requires c.ranges.p.fits c.signed.ensures c.units-m.ensures in
    rw (minus_read c.units-m.result f.1, f.0, lt-ltb 0x8000 c.args.p c.if-negative.true)

pub returns-then-negative-clause-at_most : goal.returns-then-negative-clause-at_most
returns-then-negative-clause-at_most c =
    let f = found c.if-p-eq0.false c.requires c.ranges.p.fits c.signed.ensures c.units-m.ensures in
    rw (minus_read c.units-m.result f.1) (omega (arith, mag_minus c.units-m.result, f.1))

pub returns-else-negative-clause-value : goal.returns-else-negative-clause-value
returns-else-negative-clause-value c =
    let f = found c.if-p-eq0.false c.requires c.ranges.p.fits c.signed.ensures c.units-m.ensures in
    rw (plus_read c.units-m.result f.1, f.0, le-ltb 0x8000 c.args.p c.if-negative.false)

pub returns-else-negative-clause-at_most : goal.returns-else-negative-clause-at_most
returns-else-negative-clause-at_most c =
    let f = found c.if-p-eq0.false c.requires c.ranges.p.fits c.signed.ensures c.units-m.ensures in
    rw (plus_read c.units-m.result f.1) f.1
