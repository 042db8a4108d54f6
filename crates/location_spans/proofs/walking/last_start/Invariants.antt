-- The search for the last `,`. Invariant: there is none from i on.
use Rattle.location_spans.proofs.Commas.{Searched}
use Rattle.location_spans.proofs.walking.last_start.Given as goal

abbrev pub invariant-loop-i : goal.invariant-loop-i
invariant-loop-i l = Searched l.s l.low l.at l.i
