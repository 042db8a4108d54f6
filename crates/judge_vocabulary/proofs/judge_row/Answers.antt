-- `judge_vocabulary::judge_row` meets its contract.
use Prim.Native.Nat.{ℕ}
use mathlib.Core.Path.{subst}
use Rattle.judge_vocabulary.specs.Words.{HasAll}
use Rattle.judge_vocabulary.proofs.Rows.{row_unknown, row_known}
use Rattle.judge_vocabulary.proofs.judge_row.Goals as goal

pub returns-then-row-eq0 : goal.returns-then-row-eq0
returns-then-row-eq0 c = row_unknown c.if-row-eq0.true

pub returns : goal.returns
returns c =
    let args = c.args in
    row_known c.if-row-eq0.false (subst (λ (n : ℕ). HasAll n args.words.first args.words.second c.has_all-met.result) c.needs-needs.ensures c.has_all-met.ensures) c.unless.ensures c.earlier.ensures
