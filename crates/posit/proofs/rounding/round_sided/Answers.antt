-- `posit::rounding::round_sided` meets its contract: z is where m's top bit is, and each return is one of the cases of `Far`.
use Rattle.std.proofs.Common.{◌≡◌, ℕ, ◌+◌, ◌-◌, ◌*◌, ◌%◌, ◌^◌, ◌<◌, ◌≤◌, ◌⊎◌, true, false, ℤ, pos, negsuc, ◌+ℤ◌, ◌-ℤ◌, nat_abs, sym, ◌∙◌, subst, inl, inr, ⊎_elim, mod-eq_of_lt, eq-or-lt_of_le, arith, to_z-of_z, w32, FitsSigned, to_z, of_z}
use mathlib.Core.Path.{subst⁻¹}
use lib.Count.{count_leading_zeros}
use lib.Signed.{mag, lt_z}
use Rattle.std.proofs.lemmas.Int.{ints}
use Rattle.posit.specs.Rounding.{ratio, plus, dyadic}
use Rattle.posit.specs.Sides.{RoundsSided}
use Rattle.posit.specs.declared.side.Side.TheVariants.{Below, On, Above}
use Rattle.posit.specs.declared.side.Sided.{Sided}
use Rattle.posit.proofs.Tops.{Top, top, short_below}
use Rattle.posit.proofs.Far.{Offset, tiny, huge_below, huge_on, middle}
use Rattle.posit.proofs.rounding.round_sided.Goals as goal
use Rattle.posit.proofs.rounding.round_sided.Goals.{else-p-gtminus29-via-then-p-gtminus29+else-p-lt28}
use Rattle.posit.proofs.rounding.round_sided.Goals.{else-p-gtminus29-via-else-p-gtminus29}

-- the power of two as it is computed
computed : (k z : ℕ) → k ≤ 400 → z ≤ 63 → to_z w32 (of_z w32 (to_z w32 (of_z w32 (to_z w32 k -ℤ pos 137)) -ℤ to_z w32 z)) ≡ pos k -ℤ pos 137 -ℤ pos z
computed k z h l = omega (arith, ints)

-- what the tests say of it
few : (p : ℤ) → lt_z (negsuc 28) p ≡ true → lt_z p (pos 28) ≡ true → mag p ≤ 27
few (pos n) t u = grind (arith, ints)
few (negsuc n) t u = grind (arith, ints)

module _ (k z : ℕ) (p : ℤ) (is : p ≡ pos k -ℤ pos 137 -ℤ pos z) where
  from : lt_z (negsuc 28) p ≡ true → 108 + z < k
  from t = grind (arith, ints)

  to : lt_z p (pos 28) ≡ true → k < 165 + z
  to t = grind (arith, ints)

  raised : 108 + z < k → nat_abs (p +ℤ pos 30) ≡ k - 107 - z
  raised h = omega (arith, ints)

  before : (lt_z (negsuc 28) p ≡ false) ⊎ (lt_z p (pos 28) ≡ false) → lt_z p (pos 0) ≡ true → k < 109 + z
  before (inl t) u = grind (arith, ints)
  before (inr t) u = grind (arith, ints)

  past : (lt_z (negsuc 28) p ≡ false) ⊎ (lt_z p (pos 28) ≡ false) → lt_z p (pos 0) ≡ false → 165 + z ≤ k
  past (inl t) u = grind (arith, ints)
  past (inr t) u = grind (arith, ints)

  at_28 : 165 + z ≤ k → lt_z p (pos 29) ≡ true → k ≡ 165 + z
  at_28 h t = grind (arith, ints)

  past_28 : lt_z p (pos 29) ≡ false → k ≡ 165 + z → ⊥
  past_28 t e = grind (arith, ints)

-- what is known of m and of the offset k
record Known (m k : ℕ) (e : ℤ) : Type 0 where
  some : 0 < m
  fits : m < 2 ^ 64
  most : k ≤ 400
  offset : Offset e k

-- an argument that is signed goes by its bits
known : {m k : ℕ} {e : ℤ} → (m ≡ 0 → ⊥) → m < 2 ^ 64 → FitsSigned w32 e → Offset (to_z w32 (of_z w32 e)) k → k ≤ 400 → Known m k e
known {m} {k} {e} s f r o h = record { some = omega (arith, s); fits = f; most = h; offset = subst (λ (x : ℤ). Offset x k) (to_z-of_z r) o }

module _ {m k : ℕ} {e : ℤ} (w : Known m k e) where
  abbrev z : ℕ
  z = count_leading_zeros 64 m

  tops : Top m z
  tops = top m w.some w.fits

  abbrev p : ℤ
  p = to_z w32 (of_z w32 (to_z w32 (of_z w32 (to_z w32 k -ℤ pos 137)) -ℤ to_z w32 z))

  p_is : p ≡ pos k -ℤ pos 137 -ℤ pos z
  p_is = computed k z w.most tops.few

  placed : (a : Sided) → lt_z (negsuc 28) p ≡ true → lt_z p (pos 28) ≡ true
      → RoundsSided 1 16 (plus (ratio (m * 2 ^ z % 2 ^ 64 * 2 ^ nat_abs (p +ℤ pos 30)) (2 ^ 93))) a → RoundsSided 1 16 (dyadic (pos m) e) a
  placed a t u r =
      let h = from k z p p_is t in
      let g = to k z p p_is u in
      middle m z k e w.some w.offset (k - 107 - z) a (omega (arith, tops.few)) (omega (arith, tops.few))
      (subst (λ (x : ℕ). RoundsSided 1 16 (plus (ratio (x * 2 ^ (k - 107 - z)) (2 ^ 93))) a) (mod-eq_of_lt tops.below)
      (subst (λ (x : ℕ). RoundsSided 1 16 (plus (ratio (m * 2 ^ z % 2 ^ 64 * 2 ^ x) (2 ^ 93))) a) (raised k z p p_is h) r))

  -- past the range of the posits, one of the two tests failed
  module _ (out : (lt_z (negsuc 28) p ≡ false) ⊎ (lt_z p (pos 28) ≡ false)) where
    too_small : lt_z p (pos 0) ≡ true → RoundsSided 1 16 (dyadic (pos m) e) (record { pattern = 1; side = Above })
    too_small t = tiny m z k e w.some w.offset tops.few tops.below (before k z p p_is out t)

    on_it : lt_z p (pos 0) ≡ false → lt_z p (pos 29) ≡ true → m * 2 ^ z % 2 ^ 64 ≡ 2 ^ 63
        → RoundsSided 1 16 (dyadic (pos m) e) (record { pattern = 0x7fff; side = On })
    on_it t u q =
        huge_on m z k e w.some w.offset (sym (mod-eq_of_lt tops.below) ∙ q) (at_28 k z p p_is (past k z p p_is out t) u)
        (let l = at_28 k z p p_is (past k z p p_is out t) u in omega (arith, tops.few))

    above_it : lt_z p (pos 0) ≡ false → ((lt_z p (pos 29) ≡ true) × (m * 2 ^ z % 2 ^ 64 ≡ 2 ^ 63 → ⊥)) ⊎ (lt_z p (pos 29) ≡ false)
        → RoundsSided 1 16 (dyadic (pos m) e) (record { pattern = 0x7fff; side = Below })
    above_it t d =
        huge_below m z k e w.some w.offset tops.from (past k z p p_is out t)
        (λ q.
        ⊎_elim (λ n. ⊎_elim (λ f. absurd (n.1 (mod-eq_of_lt tops.below ∙ sym f))) (λ f. f) (eq-or-lt_of_le tops.from))
        (λ u. absurd (past_28 k z p p_is u q)) d)

pub below-requires : goal.below-requires
below-requires c =
    let o = c.offset.ensures in
    let w = known c.if-m-eq0.false c.ranges.m.fits c.ranges.e (record { at_most = o.at_most; at_least = o.at_least }) o.held in
    λ l. rw (mod-eq_of_lt (tops w).below) (short_below c.args.m (count_leading_zeros 64 c.args.m) l (tops w).from)

pub place-requires : goal.place-requires
place-requires c =
    let o = c.offset.ensures in
    let w = known c.if-m-eq0.false c.ranges.m.fits c.ranges.e (record { at_most = o.at_most; at_least = o.at_least }) o.held in
    (rw (mod-eq_of_lt (tops w).below) (tops w).from, few (p w) c.if-p-gtminus29.true c.if-p-lt28.true, c.below.ensures)

pub returns-then-p-lt28 : goal.returns-then-p-lt28
returns-then-p-lt28 c =
    let o = c.offset.ensures in
    let w = known c.if-m-eq0.false c.ranges.m.fits c.ranges.e (record { at_most = o.at_most; at_least = o.at_least }) o.held in
    placed w c.place.result c.if-p-gtminus29.true c.if-p-lt28.true c.place.ensures

pub returns-then-p-lt0 : goal.returns-then-p-lt0
returns-then-p-lt0 c =
    let o = c.offset.ensures in
    let w = known c.if-m-eq0.false c.ranges.m.fits c.ranges.e (record { at_most = o.at_most; at_least = o.at_least }) o.held in
    too_small w (elim c.else-p-gtminus29.branch [
      | else-p-gtminus29-via-then-p-gtminus29+else-p-lt28 x ↦ inr x.if-p-lt28.false
      | else-p-gtminus29-via-else-p-gtminus29 d ↦ inl d.if-p-gtminus29.false
    ]) c.if-p-lt0.true

pub returns-then-f : goal.returns-then-f
returns-then-f c =
    let o = c.offset.ensures in
    let w = known c.if-m-eq0.false c.ranges.m.fits c.ranges.e (record { at_most = o.at_most; at_least = o.at_least }) o.held in
    subst⁻¹ (RoundsSided 1 16 (dyadic (pos c.args.m) c.args.e)) c.outright-then-f.ensures
    (on_it w (elim c.else-p-gtminus29.branch [
      | else-p-gtminus29-via-then-p-gtminus29+else-p-lt28 y ↦ inr y.if-p-lt28.false
      | else-p-gtminus29-via-else-p-gtminus29 d ↦ inl d.if-p-gtminus29.false
    ]) c.if-p-lt0.false c.if-p-lt29.true c.if-f.true)

pub returns : goal.returns
returns c =
    let o = c.offset.ensures in
    let w = known c.if-m-eq0.false c.ranges.m.fits c.ranges.e (record { at_most = o.at_most; at_least = o.at_least }) o.held in
    above_it w (elim c.else-p-gtminus29.branch [
      | else-p-gtminus29-via-then-p-gtminus29+else-p-lt28 d ↦ inr d.if-p-lt28.false
      | else-p-gtminus29-via-else-p-gtminus29 d ↦ inl d.if-p-gtminus29.false
    ]) c.if-p-lt0.false c.else-p-lt29.either
