-- 0 is itself, past 1 and -1 the answer is NaR, and else the angle of the magnitude is rounded.
use Rattle.std.proofs.Common.{◌≡◌, ℕ, ◌%◌, ◌^◌, ◌≤◌, ap, ◌∙◌, mod-eq_of_lt, arith, rules}
use Rattle.posit.specs.Number.{magnitude, size}
use Rattle.arc.specs.AsinPi.{arc}
use Rattle.rows.proofs.Sizes.{proper, sign_bit, size_by_bit}
use Rattle.arc.proofs.Rows.AsinPi.{zero_itself, past_one, not_nar, by_arc}
use Rattle.arc.proofs.math.asin_pi.asin_pi_sided.Goals as goal

pub returns-then-p-eq0 : goal.returns-then-p-eq0
returns-then-p-eq0 c = rw (c.outright.ensures, c.if-p-eq0.true) zero_itself

pub returns-then-size-gt16384 : goal.returns-then-size-gt16384
returns-then-size-gt16384 c =
    let p = c.args.p in
    rw (past_one p (rw (c.signed-size.ensures ∙ size_by_bit p) at c.if-size-gt16384.true)) (search rules)

pub angle-k-requires : goal.angle-k-requires
angle-k-requires c =
    let p = c.args.p in
    let e = c.signed-size.ensures ∙ size_by_bit p in
    let s : size 16 p ≤ 0x4000 = rw e at c.if-size-gt16384.false in
    rw e ((proper p (omega arith) (omega arith) (not_nar p s)).0, s)

pub returns : goal.returns
returns c =
    let p = c.args.p in
    let s = c.signed-size.ensures ∙ size_by_bit p in
    let l : size 16 p ≤ 0x4000 = rw s at c.if-size-gt16384.false in
    let e : c.angle-k.result.units % 2 ^ 30 ≡ arc (size 16 p) (magnitude 1 16 (size 16 p)) =
    mod-eq_of_lt (omega arith) ∙ c.angle-k.ensures
    ∙ ap (λ (u : ℕ). arc u (magnitude 1 16 u)) s in
    rw c.signed_sided.ensures
    (rw (← sign_bit p (not_nar p l)) at (by_arc p c.round_sided.result (omega arith) (omega arith) l (rw e at c.round_sided.ensures)))
