-- The theorem of demand 3: exp2 against the exact power at every pattern but NaR, and the list is whole.
use Prim.Native.Nat.{ℕ, ◌^◌, ◌<◌}
use mathlib.Core.Path.{◌≡◌, refl, subst⁻¹}
use mathlib.Core.List.Memᴰ
use native.Mathlib.Omega.{arith}
use Rattle.posit.specs.Number.{number}
use Rattle.rows.specs.Rows.{Meets}
use Rattle.exponential.specs.Exp2.{row}
use Rattle.exp2_sweep.specs.Power.{Picked}
use Rattle.exp2_sweep.proofs.Agreed.{Agreed}
use Rattle.exponential.proofs.OneAnswer.{exp2_one}
use Rattle.exp2_sweep.proofs.OnePicked.{one_picked}
use Rattle.exp2_sweep.proofs.Whole.{agreed}
use Rattle.exp2_list.specs.Differing.{Listed, Compared, Exp2List}

none_listed : {p : ℕ} → Listed p → ⊥
none_listed l = Memᴰ.not-nil l.member

compared : (p : ℕ) → Agreed (number 1 16 p) (row p) → Compared p
compared p a =
    record {
      answer = a.answer;
      meets = a.meets;
      only_answer = λ r m. exp2_one p r a.answer m a.meets;
      picked = a.answer;
      picks = a.picked;
      only_picked = λ u m. one_picked (number 1 16 p) u a.answer m a.picked;
      near = (omega arith, omega arith);
      listed = λ differs. absurd (differs refl);
      unlisted = λ same l. none_listed l;
      holds = λ l. absurd (none_listed l);
    }

pub exp2_list_lem : Exp2List
exp2_list_lem p pattern finite = compared p (agreed p pattern finite)

-- the list being empty: whatever row 2 allows is the posit that the rounding rule picks for 2 ^ x
pub exp2_exact : (p r : ℕ) → p < 2 ^ 16 → (p ≡ 0x8000 → ⊥) → Meets (row p) r → Picked (number 1 16 p) r
exp2_exact p r pattern finite m =
    let a = agreed p pattern finite in
    subst⁻¹ (Picked (number 1 16 p)) (exp2_one p r a.answer m a.meets) a.picked
