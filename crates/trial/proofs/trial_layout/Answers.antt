-- `trial::trial_layout` meets its contract: the answer of `read_layout::layout`, in numbers.
use mathlib.Core.Path.{subst}
use Rattle.read_layout.specs.Says.{ShapeSays}
use Rattle.trial.specs.Numbers.{laid, refused}
use Rattle.trial.proofs.trial_layout.Goals as goal

pub returns-in-Ok : goal.returns-in-Ok
returns-in-Ok c = laid (subst (ShapeSays _) c.in-Ok.is c.layout.ensures)

pub returns-in-Err : goal.returns-in-Err
returns-in-Err c = refused (subst (ShapeSays _) c.in-Err.is c.layout.ensures)
