-- One pattern more of the block: its chunk, and the eight bytes of its f64 or of NaR.
use Rattle.std.proofs.Common.{arith, subst}
use lib.Ieee.{binary64, to_bits}
use Rattle.real.specs.Reals.{ToF64}
use Rattle.real.proofs.Exact.{real_no_nan}
use Rattle.reals.proofs.Bytes.{real_bytes, nar_bytes, pattern_more, lowest_first}
use Rattle.reals.proofs.convert.Goals as goal

pub loop-i-preserved-in_default : goal.loop-i-preserved-in_default
loop-i-preserved-in_default c =
    let p = c.from_le_bytes.result in
    let nar = nar_bytes p (subst (ToF64 p) c.in_default.is c.to_f64.ensures) in
    pattern_more c.args.bytes.now c.as_chunks.result.0.now c.loop-i.output c.copy_from_slice.new.self _ _ c.loop-i.i p
    c.as_chunks.ensures.front (omega arith) (omega arith) c.loop-i.invariant c.from_le_bytes.ensures (cc nar)

pub to_le_bytes-requires : goal.to_le_bytes-requires
to_le_bytes-requires c = real_no_nan c.from_le_bytes.result c.in-Real.x c.in-Real.ensures

pub loop-i-preserved : goal.loop-i-preserved
loop-i-preserved c =
    let p = c.from_le_bytes.result in
    let real = real_bytes p c.in-Real.x c.in-Real.ensures in
    pattern_more c.args.bytes.now c.as_chunks.result.0.now c.loop-i.output c.copy_from_slice-in-loop-i.new.self _ _ c.loop-i.i p
    c.as_chunks.ensures.front (omega arith) (omega arith) c.loop-i.invariant c.from_le_bytes.ensures (cc (real, lowest_first (to_bits binary64 c.in-Real.x)))
