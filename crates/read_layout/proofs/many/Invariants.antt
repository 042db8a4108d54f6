-- The loop's invariant: what is read from here on is read from the start; a turn goes on in the text.
use Prim.Native.Nat.{◌-◌}
use lib.ListN.{length}
use Rattle.read_layout.proofs.Runs.{Onward}
use Rattle.read_layout.proofs.many.Given as goal

abbrev pub invariant-loop-c : goal.invariant-loop-c
invariant-loop-c g l = Onward g.E.Repeated.form g.E.Repeated.next l.s l.fn.st (record { next = l.next; far = l.far })

abbrev pub decreases-loop-c : goal.decreases-loop-c
decreases-loop-c g l = length l.s - l.next
