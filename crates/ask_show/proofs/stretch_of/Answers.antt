-- `ask_show::stretch_of` meets its contract.
use Rattle.ask_show.proofs.Parts.{stretch_none, stretch_so}
use Rattle.ask_show.specs.Shown.{StretchOf}
use native.Mathlib.Omega.{arith}
use mathlib.Core.Path.{sym, subst}
use Rattle.ask_show.proofs.stretch_of.Goals as goal

pub returns-then-part : goal.returns-then-part
returns-then-part c = subst (StretchOf c.args.part) (sym c.no_stretch.ensures) (stretch_none c.if-part.true)

pub returns : goal.returns
returns c = stretch_so (omega (arith, c.if-part.false))
