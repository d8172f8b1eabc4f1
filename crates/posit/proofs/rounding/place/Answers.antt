-- `posit::rounding::place` meets its contract: nothing wraps, and what is added is that of `Words`, by what stands in the
-- lowest 15 bits; so is the side, by the wide pattern and the answer.
use Rattle.std.proofs.Common.{◌≡◌, ℕ, ◌+◌, ◌-◌, ◌*◌, ◌/◌, ◌%◌, ◌^◌, ◌<◌, ◌≤◌, cond, ◌||◌, Bool, true, false, ltb, ℤ, pos, negsuc, ◌+ℤ◌, nat_abs, sym, ap, ◌∙◌, mod-eq_of_lt, arith, to_z-of_z, w32, FitsSigned, to_z, of_z, ltb-false, ltb-true}
use mathlib.Core.Path.{subst⁻¹}
use lib.Signed.{mag, lt_z}
use mir.Facts.{Fits-of_lt}
use Rattle.posit.specs.Rounding.{ratio, Rounded}
use Rattle.posit.specs.Sides.{stands, lies}
use Rattle.posit.specs.declared.side.Side.TheVariants.{Below, On, Above}
use Rattle.std.proofs.lemmas.Int.{ints}
use Rattle.posit.proofs.Regimes.{Layout, laid}
use Rattle.posit.proofs.Words.{wide, wide-most, clear, gathered, side-is}
use Rattle.posit.proofs.rounding.place.Goals as goal
use Rattle.posit.proofs.rounding.place.Goals.{then-rest, else-rest}

-- p + 30, which is above zero, as it is read
raised : (p : ℤ) → mag p ≤ 27 → nat_abs (to_z w32 (of_z w32 (p +ℤ pos 30))) ≡ nat_abs (p +ℤ pos 30)
raised (pos j) h = omega (arith, ints)
raised (negsuc j) h = omega (arith, ints)

-- v is the wide pattern as the code computes it; an argument that is signed goes by its bits
module _ {f : ℕ} {p : ℤ} {k v : ℕ} (top : 2 ^ 63 ≤ f) (fits : f < 2 ^ 64) (near : mag p ≤ 27) (fit : FitsSigned w32 p)
    (run : k ≡ mag (to_z w32 (of_z w32 p)) / 2)
    (read : v ≡ cond (lt_z (to_z w32 (of_z w32 p)) (pos 0)) (2 ^ (14 - k)) (2 ^ 16 - 2 ^ (15 - k)) * 2 ^ 48
    + ((f - 2 ^ 63) / 4 + nat_abs (to_z w32 (of_z w32 (to_z w32 (of_z w32 p) +ℤ pos 30))) % 2 * 2 ^ 61) / 2 ^ k) where
  abbrev s : ℕ
  s = nat_abs (p +ℤ pos 30)

  run_is : k ≡ mag p / 2
  run_is = rw (to_z-of_z fit) at run

  few : k ≤ 13
  few = let e = run_is in omega arith

  abbrev b : ℕ
  b = cond (lt_z p (pos 0)) (2 ^ (14 - k)) (2 ^ 16 - 2 ^ (15 - k))

  layout : Layout (s / 2) (14 - k) b
  layout = rw run_is (laid p near)

  tail : k + (14 - k) ≡ 14
  tail = omega (arith, few)

  abbrev pattern : ℕ
  pattern = wide f s (14 - k) b top fits layout k tail

  wide_read : v ≡ pattern
  wide_read = rw (to_z-of_z fit, raised p near) at read

  most : v < 65534 * 2 ^ 48
  most = let e = wide_read in let m = wide-most f s (14 - k) b top fits layout k tail in omega arith

  -- the answer, by the wide pattern, and its side
  module _ (rest : Bool) (more : ℕ) (said : rest ≡ ltb 0 (f % 2 ^ 15)) where
    abbrev u : ℕ
    u = (v + 0xFFFF_FFFF_FFFF + more) / 2 ^ 49

    dropped : rest ≡ true → more ≡ 1 → Rounded 1 16 (ratio (f * 2 ^ s) (2 ^ 93)) u
    dropped t d =
        subst⁻¹ (Rounded 1 16 (ratio (f * 2 ^ s) (2 ^ 93))) (λ i. (wide_read i + 0xFFFF_FFFF_FFFF + d i) / 2 ^ 49)
        (gathered f s (14 - k) b top fits layout k tail (ltb-true 0 (f % 2 ^ 15) (sym said ∙ t)))

    whole : rest ≡ false → more ≡ v / 2 ^ 49 % 2 → Rounded 1 16 (ratio (f * 2 ^ s) (2 ^ 93)) u
    whole t d =
        subst⁻¹ (Rounded 1 16 (ratio (f * 2 ^ s) (2 ^ 93)))
        (λ i. (wide_read i + 0xFFFF_FFFF_FFFF + (d ∙ ap (λ (y : ℕ). y / 2 ^ 49 % 2) wide_read) i) / 2 ^ 49)
        (clear f s (14 - k) b top fits layout k tail (let z = ltb-false 0 (f % 2 ^ 15) (sym said ∙ t) in omega arith))

    side : Rounded 1 16 (ratio (f * 2 ^ s) (2 ^ 93)) u
        → cond (ltb v (u * 2 ^ 49 % 2 ^ 64)) Above (cond (ltb (u * 2 ^ 49 % 2 ^ 64) v || rest) Below On)
        ≡ lies (stands 1 16 (ratio (f * 2 ^ s) (2 ^ 93)) u)
    side r =
        let shifted : u * 2 ^ 49 % 2 ^ 64 ≡ u * 2 ^ 49 = mod-eq_of_lt (let h = r.most in omega arith) in
        (λ i. cond (ltb (wide_read i) (shifted i)) Above (cond (ltb (shifted i) (wide_read i) || said i) Below On))
        ∙ sym (side-is f s (14 - k) b top fits layout k tail u r.least r.most)

pub overflow_add-u : goal.overflow_add-u
overflow_add-u c =
    Fits-of_lt (let m = most c.requires.0 c.ranges.f.fits c.requires.1 c.ranges.p c.run_after-k.ensures c.laid_out-v.ensures in omega arith)

pub overflow_add-u-2 : goal.overflow_add-u-2
overflow_add-u-2 c =
    Fits-of_lt (let m = most c.requires.0 c.ranges.f.fits c.requires.1 c.ranges.p c.run_after-k.ensures c.laid_out-v.ensures in
    let l : c.if-rest.more ≤ 1 = elim c.if-rest.branch [ then-rest w ↦ omega arith | else-rest w ↦ omega arith ] in omega arith)

pub returns : goal.returns
returns c =
    let e = c.run_after-k.ensures in
    let l = c.laid_out-v.ensures in
    let r : Rounded 1 16 (ratio (c.args.f * 2 ^ nat_abs (c.args.p +ℤ pos 30)) (2 ^ 93)) ((c.laid_out-v.result + 0xFFFF_FFFF_FFFF + c.if-rest.more) / 2 ^ 49) =
    elim c.if-rest.branch [
      | then-rest w ↦ dropped c.requires.0 c.ranges.f.fits c.requires.1 c.ranges.p e l c.args.rest c.if-rest.more c.requires.2 w.if-rest.true w.more-is
      | else-rest w ↦ whole c.requires.0 c.ranges.f.fits c.requires.1 c.ranges.p e l c.args.rest c.if-rest.more c.requires.2 w.if-rest.false w.more-is
    ] in
    (r, c.side_of.ensures ∙ side c.requires.0 c.ranges.f.fits c.requires.1 c.ranges.p e l c.args.rest c.if-rest.more c.requires.2 r)
