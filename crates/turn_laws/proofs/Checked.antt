-- The quarter turns hold, and a turn by nothing has the matrix of ones and zeros: by computing.
use mathlib.Core.Path.{◌≡◌, refl}
use Rattle.posit.specs.Number.{run, magnitude, opposite, number}
use Rattle.posit.specs.Answer.{descend}
use Rattle.p16e1.specs.Functions.{row_of, answer_of}
use Rattle.p16e1.proofs.CheckedPoints.{◌also◌}
use Rattle.circular.specs.SinPi as SinPi
use Rattle.circular.specs.CosPi as CosPi
use Rattle.arithmetic.specs.Operations.{sum, product}
use Rattle.turning.specs.Turn.{Matrix, three, rows, rounded_sum, rounded_product, entry, matrix_times_of, heading_matrix_of, pitch_matrix_of, roll_matrix_of, turned}
use Rattle.turn_laws.specs.Cases.{Every, axes}

abbrev pub ones : Matrix
ones = rows (three 0x4000 0 0) (three 0 0x4000 0) (three 0 0 0x4000)

both : Every axes × (matrix_times_of (matrix_times_of (heading_matrix_of 0) (pitch_matrix_of 0)) (roll_matrix_of 0) ≡ ones)
unfolding run magnitude opposite number descend row_of answer_of SinPi.series SinPi.poly SinPi.unsigned SinPi.sine SinPi.row CosPi.series CosPi.poly
    CosPi.unsigned CosPi.cosine CosPi.row sum product rounded_sum rounded_product entry matrix_times_of turned
both = ((refl also refl also refl also refl also refl also refl also tt), refl)

pub checked : Every axes
checked = both.0

pub stays : matrix_times_of (matrix_times_of (heading_matrix_of 0) (pitch_matrix_of 0)) (roll_matrix_of 0) ≡ ones
stays = both.1
