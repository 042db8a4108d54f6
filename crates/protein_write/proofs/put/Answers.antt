use native.Mathlib.Omega.{arith}
use Rattle.protein_write.proofs.Putting.{putting_start, putting_run, putting_one, putting_done, putting_end}
use Rattle.protein_write.proofs.put.Goals as goal

pub loop-passed-init : goal.loop-passed-init
loop-passed-init c = putting_start c.requires.ready c.requires.count_in_bounds

pub shape_of-out-then-count-j : goal.shape_of-out-then-count-j
shape_of-out-then-count-j c =
    let loop' = c.loop-passed in
    let f = putting_run loop'.invariant c.onward-passed.ensures c.lay-n.ensures in
    f.size

pub returns-then-count-j : goal.returns-then-count-j
returns-then-count-j c =
    let loop' = c.loop-passed in
    let f = putting_run loop'.invariant c.onward-passed.ensures c.lay-n.ensures in
    putting_end f c.if-count-j.true

pub next-requires : goal.next-requires
next-requires c = let f = putting_run c.loop-passed.invariant c.onward-passed.ensures c.lay-n.ensures in f.ready

pub shape_of-out-in-None : goal.shape_of-out-in-None
shape_of-out-in-None c =
    let loop' = c.loop-passed in
    let lay = c.lay-n in
    let f = putting_run loop'.invariant c.onward-passed.ensures lay.ensures in
    f.size

pub returns-in-None : goal.returns-in-None
returns-in-None c =
    let loop' = c.loop-passed in
    let lay = c.lay-n in
    let f = putting_run loop'.invariant c.onward-passed.ensures lay.ensures in
    putting_done f c.if-count-j.false (c.in-None.ensures.says)

pub bounds-out-j : goal.bounds-out-j
bounds-out-j c =
    let loop' = c.loop-passed in
    let lay = c.lay-n in
    let onward = c.onward-passed in
    let f = putting_run loop'.invariant onward.ensures lay.ensures in
    omega (arith, f.room, f.size)

pub loop-passed-preserved : goal.loop-passed-preserved
loop-passed-preserved c =
    let loop' = c.loop-passed in
    let lay = c.lay-n in
    let onward = c.onward-passed in
    let f = putting_run loop'.invariant onward.ensures lay.ensures in
    let g = c.in-Some.ensures.says in
    putting_one f g c.if-count-j.false
