-- Feature by feature. Invariant: the lines of the features passed are laid. The measure is what is left of the text.
use Prim.Native.Nat.{◌-◌}
use lib.ListN.{length}
use Rattle.ask_translations.proofs.AllLines.{LayingLines}
use Rattle.ask_translations.proofs.lay_rest.Given as goal

abbrev pub invariant-loop-s : goal.invariant-loop-s
invariant-loop-s l = LayingLines l.s l.first l.at l.translator.known l.initial.laid l.writing l.initial.out l.laid l.out

abbrev pub decreases-loop-s : goal.decreases-loop-s
decreases-loop-s l = length l.s - l.at
