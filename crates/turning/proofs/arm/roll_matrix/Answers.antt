-- `turning::arm::roll_matrix` meets its contract.
use Rattle.turning.specs.Turn.{three, rows}
use Rattle.turning.proofs.arm.roll_matrix.Goals as goal

pub returns : goal.returns
returns c =
    let (n, m, k) = c.of-w.ensures in
    λ i. rows (three 0x4000 0 0) (three 0 (k i) (m i)) (three 0 (n i) (k i))
