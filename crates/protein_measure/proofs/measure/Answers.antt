use mathlib.Core.Path.{sym}
use native.Mathlib.Omega.{arith}
use lib.ListN.{length}
use Rattle.protein_codons.proofs.Readings.{run_falls}
use Rattle.protein_measure.proofs.Measuring.{measuring_start, measuring_run, measuring_one, measuring_end, measuring_stop, measures, measures_none, measures_are}
use Rattle.protein_measure.proofs.Finished.{finished_done, finished_last, stops_inside}
use Rattle.protein_measure.proofs.measure.Goals as goal

pub returns-then-coding : goal.returns-then-coding
returns-then-coding c = measures_none c.if-coding.true

pub loop-c-init : goal.loop-c-init
loop-c-init c = measuring_start c.begin-x.ensures.ready

pub next-requires : goal.next-requires
next-requires c = let f = measuring_run c.loop-c.invariant c.onward.ensures c.clear-k.ensures c.counted-passed.ensures in f.ready

pub returns-in-None : goal.returns-in-None
returns-in-None c =
    let begin = c.begin-x in
    let loop' = c.loop-c in
    let clear = c.clear-k in
    let counted = c.counted-passed in
    let f = measuring_run loop'.invariant c.onward.ensures clear.ensures counted.ensures in
    measures_are (measures begin.ensures (measuring_end f (finished_done (c.in-None.ensures.says)))) (sym c.ok_or.ensures.value)

pub returns-then-ends : goal.returns-then-ends
returns-then-ends c =
    let begin = c.begin-x in
    let loop' = c.loop-c in
    let clear = c.clear-k in
    let counted = c.counted-passed in
    let onward = c.onward in
    let f = measuring_run loop'.invariant onward.ensures clear.ensures counted.ensures in
    let g = c.in-Some.ensures.says in
    measures_are (measures begin.ensures (measuring_end f (finished_last g c.if-c-eq42.true c.ends.ensures c.if-ends.true))) (sym c.ok_or-then-ends.ensures.value)

pub returns-then-c-eq42 : goal.returns-then-c-eq42
returns-then-c-eq42 c =
    let begin = c.begin-x in
    let loop' = c.loop-c in
    let clear = c.clear-k in
    let counted = c.counted-passed in
    let onward = c.onward in
    let f = measuring_run loop'.invariant onward.ensures clear.ensures counted.ensures in
    let g = c.in-Some.ensures.says in
    measures begin.ensures (measuring_stop f (stops_inside g c.if-c-eq42.true c.ends.ensures c.if-ends.false))

pub loop-c-smaller : goal.loop-c-smaller
loop-c-smaller c =
    let args = c.args in
    let loop' = c.loop-c in
    let onward = c.onward in
    let g = c.in-Some.ensures.says in
    omega (arith, g.falls, run_falls args.coding.now.r.now loop'.invariant.ready onward.ensures (length args.coding.now.loc.now))

pub loop-c-preserved : goal.loop-c-preserved
loop-c-preserved c =
    let loop' = c.loop-c in
    let clear = c.clear-k in
    let counted = c.counted-passed in
    let onward = c.onward in
    let f = measuring_run loop'.invariant onward.ensures clear.ensures counted.ensures in
    let g = c.in-Some.ensures.says in
    measuring_one f g c.if-c-eq42.false c.counted-count.ensures
