-- `judge_coding::region_fault` meets its contract.
use mathlib.Core.Path.{refl}
use Rattle.protein_code.proofs.Codes.{code_1, coded_1}
use Rattle.judge_coding.proofs.Regions.{region_unjudged, region_unclean, region_bad, region_outside, region_judged}
use Rattle.judge_coding.proofs.region_fault.Goals as goal
use Rattle.judge_coding.proofs.region_fault.Goals.{then-unjudged-via-then-unjudged, then-unjudged-via-else-unjudged+then-known}

pub returns-then-unjudged : goal.returns-then-unjudged
returns-then-unjudged c =
    elim c.then-unjudged.branch [
      | then-unjudged-via-then-unjudged w ↦ region_unjudged w.if-unjudged.true
      | then-unjudged-via-else-unjudged+then-known w ↦ region_unclean w.if-known.true
    ]

pub returns-in_err-verdict : goal.returns-in_err-verdict
returns-in_err-verdict c = rw c.from_residual.ensures (region_bad c.in_err-verdict.was)

pub returns-then-branch : goal.returns-then-branch
returns-then-branch c = region_outside c.in_ok-verdict.was c.if-branch.true

pub invariant_of-of : goal.invariant_of-of
invariant_of-of c = record { coded = coded_1 c.requires }

pub returns : goal.returns
returns c =
    region_judged c.in_ok-verdict.was (code_1 c.requires) refl c.if-unjudged.false c.if-known.false c.if-branch.false c.bytes_of.ensures
    c.bytes_of-2.ensures c.translations.ensures
