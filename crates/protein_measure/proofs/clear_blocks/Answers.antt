use Prim.Native.Nat.{ℕ, ◌+◌, ◌*◌}
use native.Mathlib.Omega.{arith}
use mathlib.Core.Path.{subst}
use Rattle.protein_code.specs.Tables.{code_of}
use Rattle.protein_blocks.specs.Blocks.{NoStop}
use Rattle.protein_codons.proofs.Blocks.{block_none}
use Rattle.protein_codons.proofs.Stops.{none_join, clear_are}
use Rattle.protein_measure.proofs.clear_blocks.Goals as goal

pub loop-block-init : goal.loop-block-init
loop-block-init c = clear_are c.requires (omega arith)

pub loop-block-preserved : goal.loop-block-preserved
loop-block-preserved c =
    let x = c.args.x.now in
    let span = x.span in
    let gc = code_of x.code.now in
    let k = c.args.from + 64 * c.loop-block.block in
    let none = subst (λ (at : ℕ). NoStop gc x.r.now span.turned at 192) c.block_at-at.ensures.0 (c.stops.ensures c.if-stops-ne0.false) in
    let passed = block_none x.r.now span.low span.high span.turned k (omega arith) gc x.inside none in
    clear_are (record { within = omega arith; clear = none_join c.loop-block.invariant.clear passed }) (omega arith)

pub returns : goal.returns
returns c = clear_are c.loop-block.invariant (omega arith)
