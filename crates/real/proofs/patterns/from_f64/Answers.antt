-- A NaN gives NaR, and an f64 that is none is what its bits say.
use Rattle.std.proofs.Common.{◌≡◌, true, T, sym, refl, ◌∙◌, subst}
use lib.Ieee.{Float, nan, inf, fin, binary64, is_nan}
use lib.Ieee.Bits.{of_bits-to_bits}
use Rattle.real.specs.Reals.{FromF64}
use Rattle.real.proofs.patterns.from_f64.Goals as goal

nan_gives_nar : (x : Float) → is_nan x ≡ true → FromF64 x 0x8000
unfolding is_nan
nan_gives_nar nan e = refl
nan_gives_nar (inf s) e = refl
nan_gives_nar (fin s m e) h = cc

pub returns-then-is_nan : goal.returns-then-is_nan
returns-then-is_nan c = nan_gives_nar c.args.x (sym c.is_nan.ensures.value ∙ c.if-is_nan.true)

pub returns-else-is_nan : goal.returns-else-is_nan
returns-else-is_nan c =
    subst (λ (y : Float). FromF64 y c.from_bits.result) (of_bits-to_bits binary64 c.args.x (subst T (sym c.well_formed.0.1) tt)) c.from_bits.ensures
