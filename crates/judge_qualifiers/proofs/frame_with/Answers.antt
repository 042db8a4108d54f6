-- `judge_qualifiers::frame_with` meets its contract.
use mathlib.Core.Logic.{inl, inr}
use Rattle.judge_qualifiers.proofs.Frames.{frames_other, frames_first, frames_second, frames_third}
use Rattle.judge_qualifiers.proofs.frame_with.Goals as goal

pub returns-then-name-ne-CODON_START : goal.returns-then-name-ne-CODON_START
returns-then-name-ne-CODON_START c = frames_other c.if-name-ne-CODON_START.true

pub returns-in-Unstated : goal.returns-in-Unstated
returns-in-Unstated c = frames_first c.stated.result c.if-name-ne-CODON_START.false c.in-Unstated.is c.stated.ensures

pub returns-in-Stated : goal.returns-in-Stated
returns-in-Stated c =
    let n = c.if-name-ne-CODON_START.false in
    elim c.in-Stated.is [ inl e ↦ frames_second n e.1 | inr e ↦ frames_third n e ]
