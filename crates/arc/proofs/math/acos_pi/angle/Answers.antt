-- How what the polynomial gives is turned goes by whether it took a root and by the sign.
use Rattle.std.proofs.Common.{◌≡◌, ℕ, ◌≤◌, ◌<◌, Bool, true, false, ltb, sym, ap, ◌∙◌, arith, lit≤}
use Rattle.std.proofs.lemmas.Bool.{lt-ltb, le-ltb}
use mathlib.Core.Bool.{beq}
use Rattle.posit.specs.Number.{magnitude, size}
use Rattle.arc.specs.AcosPi.{poly, arc}
use Rattle.rows.proofs.Sizes.{sized}
use Rattle.arc.proofs.Rows.AcosPi.{argument, turned, or_rest, arc_by_root}
use Rattle.arc.proofs.math.acos_pi.angle.Goals as goal
use Rattle.arc.proofs.math.acos_pi.angle.Goals.{then-by_root, else-by_root}

-- the magnitude of a pattern p that is no NaR here is at most 1
to_one-of : (p : ℕ) → (165 ≤ p) × (p ≤ 65307) × (0x4000 < p → 0xC000 ≤ p) → (1 ≤ size 16 p) × (size 16 p ≤ 0x4000)
to_one-of p inside = sized p 0x4000 (omega arith) (omega arith) (lit≤ tt) (λ k. let q = inside.2 k in omega arith)

-- the angle is the turned number t, or what that leaves of a half-turn
arc-is : (p s f k t : ℕ) (b : Bool) → s ≡ size 16 p → s ≤ 0x4000 → f ≡ argument (ltb 0x2fff s) (magnitude 1 16 s) → k ≡ poly f
    → t ≡ turned (ltb 0x2fff s) k → beq (ltb 0x2fff s) (ltb 0x8000 p) ≡ b → or_rest b t ≡ arc p (magnitude 1 16 (size 16 p))
arc-is p s f k t b s-is most f-is k-is t-is same =
    let m = magnitude 1 16 s in
    ap (or_rest b) (t-is ∙ ap (turned (ltb 0x2fff s)) (k-is ∙ ap poly f-is))
    ∙ ap (λ (z : Bool). or_rest z (turned (ltb 0x2fff s) (poly (argument (ltb 0x2fff s) m)))) (sym same)
    ∙ sym (arc_by_root p m s s-is most)
    ∙ ap (λ (u : ℕ). arc p (magnitude 1 16 u)) s-is

pub argument-requires : goal.argument-requires
argument-requires c = rw c.signed-size.ensures (to_one-of c.args.p c.requires)

pub returns-then-by_root-negative : goal.returns-then-by_root-negative
returns-then-by_root-negative c =
    arc-is c.args.p c.signed-size.result c.argument.result c.acos_poly-k.result.units c.if-by_root.turned true
    c.signed-size.ensures (rw c.signed-size.ensures (to_one-of c.args.p c.requires).1) c.argument.ensures.value c.acos_poly-k.ensures
    (elim c.if-by_root.branch [
      | then-by_root w ↦ rw (lt-ltb 0x2fff _ w.if-by_root.true) w.turned-is
      | else-by_root w ↦ rw (le-ltb 0x2fff _ w.if-by_root.false) w.turned-is
    ])
    c.if-by_root-negative.true

pub returns-else-by_root-negative : goal.returns-else-by_root-negative
returns-else-by_root-negative c =
    arc-is c.args.p c.signed-size.result c.argument.result c.acos_poly-k.result.units c.if-by_root.turned false
    c.signed-size.ensures (rw c.signed-size.ensures (to_one-of c.args.p c.requires).1) c.argument.ensures.value c.acos_poly-k.ensures
    (elim c.if-by_root.branch [
      | then-by_root w ↦ rw (lt-ltb 0x2fff _ w.if-by_root.true) w.turned-is
      | else-by_root w ↦ rw (le-ltb 0x2fff _ w.if-by_root.false) w.turned-is
    ])
    c.if-by_root-negative.false
