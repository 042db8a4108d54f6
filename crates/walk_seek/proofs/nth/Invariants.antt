-- `walk_seek::nth` meets its contract. The loop's invariant: what is left of the list stands at `at`, and the item asked for behind as
-- many of it as turns are left.
use Prim.Native.Nat.{◌-◌}
use Rattle.walk_seek.proofs.Ahead.{Ahead}
use Rattle.walk_seek.proofs.nth.Given as goal

abbrev pub invariant-loop : goal.invariant-loop
invariant-loop l = Ahead l.item l.s l.first l.k l.at (l.k - l.counter)
