-- `read_steps::text_at` meets its contract. The loop's invariant: what is read as characters from `at` on is so from `next` on. The measure
-- is what is left of the text.
use Prim.Native.Nat.{ℕ, ◌-◌}
use lib.ListN.{length}
use Rattle.std.specs.Prelude.{Ok}
use Rattle.read_steps.specs.Reads.{going}
use Rattle.read_steps.proofs.Letters.{Letters}
use Rattle.read_steps.proofs.text_at.Given as goal

abbrev pub invariant-loop-at : goal.invariant-loop-at
invariant-loop-at l = (m g : ℕ) → Letters l.high l.s (going l.at l.reach) (going m g) → Letters l.high l.s (Ok l.fn.from) (going m g)

abbrev pub decreases-loop-at : goal.decreases-loop-at
decreases-loop-at l = length l.s - l.at
