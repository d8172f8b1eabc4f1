-- `turning::arm::pitch_matrix` meets its contract.
use Rattle.turning.specs.Turn.{three, rows}
use Rattle.turning.proofs.arm.pitch_matrix.Goals as goal

pub returns : goal.returns
returns c =
    let (n, m, k) = c.of-w.ensures in
    λ i. rows (three (k i) 0 (n i)) (three 0 0x4000 0) (three (m i) 0 (k i))
