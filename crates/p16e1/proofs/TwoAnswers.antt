-- Each function has two patterns with different answers, so no constant meets its row at every pattern.
use Prim.Native.Nat.{ℕ, ◌<◌}
use mathlib.Core.Path.{◌≡◌, sym, ◌∙◌}
use native.Mathlib.Omega.{arith}
use Rattle.rows.specs.Rows.{Meets}
use Rattle.p16e1.specs.Functions.{row_of}
use Rattle.p16e1.specs.TwoPoints.{NoConstant, DownFrom}
use Rattle.p16e1.proofs.ByNumber.{answer_is}
use Rattle.p16e1.proofs.CheckedPoints.{two_each, ◌also◌}

apart : (f p r q s : ℕ) → p < 65536 → q < 65536 → (r ≡ s → ⊥) → Meets (row_of f p) r → Meets (row_of f q) s → NoConstant f
apart f p r q s low high differ here there c all =
    differ (answer_is f p r here ∙ sym (answer_is f p c (all p low)) ∙ answer_is f q c (all q high) ∙ sym (answer_is f q s there))

pub no_constant : DownFrom 10 NoConstant
no_constant =
    let t1 = two_each in
    let t2 = t1.1.1 in
    let t3 = t2.1.1 in
    let t4 = t3.1.1 in
    let t5 = t4.1.1 in
    let t6 = t5.1.1 in
    let t7 = t6.1.1 in
    let t8 = t7.1.1 in
    let t9 = t8.1.1 in
    let t10 = t9.1.1 in
    apart 10 0x4000 0 0xC000 0x4000 (omega arith) (omega arith) (λ e. omega arith) t10.0 t10.1.0
    also apart 9 0 0 0x4000 0x3000 (omega arith) (omega arith) (λ e. omega arith) t9.0 t9.1.0
    also apart 8 0 0 0x4000 0x2000 (omega arith) (omega arith) (λ e. omega arith) t8.0 t8.1.0
    also apart 7 0 0 0x2000 0x4000 (omega arith) (omega arith) (λ e. omega arith) t7.0 t7.1.0
    also apart 6 0 0x4000 0x4000 0xC000 (omega arith) (omega arith) (λ e. omega arith) t6.0 t6.1.0
    also apart 5 0 0 0x3000 0x4000 (omega arith) (omega arith) (λ e. omega arith) t5.0 t5.1.0
    also apart 4 0x4000 0 0x5000 0x4000 (omega arith) (omega arith) (λ e. omega arith) t4.0 t4.1.0
    also apart 3 0x4000 0 0x5000 0x362E (omega arith) (omega arith) (λ e. omega arith) t3.0 t3.1.0
    also apart 2 0 0x4000 0x4000 0x5000 (omega arith) (omega arith) (λ e. omega arith) t2.0 t2.1.0
    also apart 1 0 0x4000 0x4000 0x55BF (omega arith) (omega arith) (λ e. omega arith) t1.0 t1.1.0
    also tt
