-- What is named outright is what the row names, and what is left is the kernel's.
use Rattle.std.proofs.Common.{rules, sym}
use Rattle.exponential.specs.Exp2.{kernel}
use Rattle.exponential.proofs.Rows.Ends.{named_is, none_named}
use Rattle.exponential.proofs.Rows.Exp2.{ordered}
use Rattle.exponential.proofs.math.exp2.exp2_sided.Goals as goal

pub kernel-requires : goal.kernel-requires
kernel-requires c = none_named ordered c.args.p c.ranges.p.fits (sym c.in-None.ensures)

-- the row names the answer that the code names,
-- and what it names lies on itself
pub returns-in-Some : goal.returns-in-Some
returns-in-Some c = rw (named_is ordered c.args.p c.ranges.p.fits kernel c.in-Some.answer (sym c.in-Some.ensures)) (search rules)
