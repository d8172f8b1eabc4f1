-- One f64 more of the block: its chunk, and the two bytes of its pattern.
use Rattle.std.proofs.Common.{arith}
use Rattle.patterns.proofs.Bytes.{real_more}
use Rattle.patterns.proofs.convert.Goals as goal

pub loop-i-preserved : goal.loop-i-preserved
loop-i-preserved c =
    real_more c.args.bytes.now c.as_chunks.result.0.now c.loop-i.output c.copy_from_slice.new.self _ _ c.loop-i.i c.from_le_bytes.result c.from_bits-p.result
    c.as_chunks.ensures.front (omega arith) (omega arith) c.loop-i.invariant c.from_le_bytes.ensures c.from_bits-p.ensures (cc)
