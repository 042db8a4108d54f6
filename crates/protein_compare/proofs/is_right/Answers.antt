use mathlib.Core.Bool.{false}
use native.Mathlib.Omega.{arith}
use lib.ListN.{length}
use Rattle.protein_codons.proofs.Readings.{run_falls}
use Rattle.protein_compare.proofs.Values.{comparing_start, comparing_run, comparing_one, comparing_done, comparing_stop, comparing_last, comparing_short, comparing_differs, compares, compares_none}
use Rattle.protein_compare.proofs.is_right.Goals as goal

pub returns-then-coding : goal.returns-then-coding
returns-then-coding c = compares_none c.if-coding.true false

pub loop-c-init : goal.loop-c-init
loop-c-init c = comparing_start c.begin-x.ensures.ready

pub next-requires : goal.next-requires
next-requires c = let f = comparing_run c.loop-c.invariant c.onward.ensures c.same-k.ensures in f.ready

pub returns-in-None : goal.returns-in-None
returns-in-None c =
    let begin = c.begin-x in
    let loop' = c.loop-c in
    let f = comparing_run loop'.invariant c.onward.ensures c.same-k.ensures in
    let coded = c.args.coding.now.coded in
    compares coded.spelt begin.ensures _ (comparing_done f (c.in-None.ensures.says))

pub returns-then-j-value : goal.returns-then-j-value
returns-then-j-value c =
    let begin = c.begin-x in
    let loop' = c.loop-c in
    let same = c.same-k in
    let onward = c.onward in
    let f = comparing_run loop'.invariant onward.ensures same.ensures in
    let g = c.in-Some.ensures.says in
    let coded = c.args.coding.now.coded in
    compares coded.spelt begin.ensures false (comparing_stop f g c.if-c-eq42.true c.if-j-value.true)

pub returns-then-c-eq42 : goal.returns-then-c-eq42
returns-then-c-eq42 c =
    let begin = c.begin-x in
    let loop' = c.loop-c in
    let same = c.same-k in
    let onward = c.onward in
    let f = comparing_run loop'.invariant onward.ensures same.ensures in
    let g = c.in-Some.ensures.says in
    let coded = c.args.coding.now.coded in
    compares coded.spelt begin.ensures _ (comparing_last f g c.if-c-eq42.true c.if-j-value.false c.ends.result c.ends.ensures)

pub returns-then-value-j : goal.returns-then-value-j
returns-then-value-j c =
    let begin = c.begin-x in
    let loop' = c.loop-c in
    let same = c.same-k in
    let onward = c.onward in
    let f = comparing_run loop'.invariant onward.ensures same.ensures in
    let g = c.in-Some.ensures.says in
    let coded = c.args.coding.now.coded in
    compares coded.spelt begin.ensures false (comparing_short f g c.if-c-eq42.false c.if-value-j.true)

pub returns-then-value-j-2 : goal.returns-then-value-j-2
returns-then-value-j-2 c =
    let begin = c.begin-x in
    let loop' = c.loop-c in
    let same = c.same-k in
    let onward = c.onward in
    let f = comparing_run loop'.invariant onward.ensures same.ensures in
    let g = c.in-Some.ensures.says in
    let coded = c.args.coding.now.coded in
    compares coded.spelt begin.ensures false (comparing_differs f g c.if-c-eq42.false c.if-value-j.false c.if-value-j-2.true)

pub loop-c-smaller : goal.loop-c-smaller
loop-c-smaller c =
    let args = c.args in
    let loop' = c.loop-c in
    let onward = c.onward in
    let g = c.in-Some.ensures.says in
    omega (arith, g.falls, run_falls args.coding.now.r.now loop'.invariant.ready onward.ensures (length args.coding.now.loc.now))

pub loop-c-preserved : goal.loop-c-preserved
loop-c-preserved c =
    let loop' = c.loop-c in
    let same = c.same-k in
    let onward = c.onward in
    let f = comparing_run loop'.invariant onward.ensures same.ensures in
    let g = c.in-Some.ensures.says in
    comparing_one f g c.if-c-eq42.false c.if-value-j.false c.if-value-j-2.false
