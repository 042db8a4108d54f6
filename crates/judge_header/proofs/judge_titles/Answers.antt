-- `judge_header::judge_titles` meets its contract.
use native.Mathlib.Omega.{arith}
use mathlib.Core.Path.{refl}
use Rattle.std.specs.Prelude.{Some}
use Rattle.paper.specs.Bytes.{bytes}
use Rattle.paper.specs.Values.{Two, is_lower}
use Rattle.walk_steps.proofs.Elements.{there_tells}
use Rattle.walk_steps.proofs.Loops.{there_inside}
use Rattle.judge_header.specs.Headers.{totalled}
use Rattle.judge_header.proofs.Sums.{maybe_tried, titles_none, titles_next, titles_stuck, titles_done}
use Rattle.judge_header.proofs.judge_titles.Goals as goal

pub loop-part-init : goal.loop-part-init
loop-part-init c = titles_none c.args.first

pub loop-part-smaller : goal.loop-part-smaller
loop-part-smaller c = omega (arith, there_inside 60 (bytes "InventionTitle") c.args.s.now c.loop-part.at c.loop-part-test.true c.title_here.ensures)

pub loop-part-preserved : goal.loop-part-preserved
loop-part-preserved c =
    titles_next (there_tells totalled refl c.title_here.ensures) c.loop-part.invariant c.judge_maybe-own.result c.loop-part-test.true c.title-next.ensures
    (maybe_tried 13 (Two is_lower) (Some c.title-next.result.part) (λ w ok h. rw (← h.shows) h.says.met) c.judge_maybe-own.ensures)
    c.earlier-fault.ensures

pub returns-after-loop-part : goal.returns-after-loop-part
returns-after-loop-part c = titles_done (there_tells totalled refl c.title_here.ensures) c.loop-part.invariant c.loop-part-test.false

pub returns-then-next-at : goal.returns-then-next-at
returns-then-next-at c =
    titles_stuck (there_tells totalled refl c.title_here.ensures) c.loop-part.invariant _ c.loop-part-test.true c.title-next.ensures c.if-next-at.true
