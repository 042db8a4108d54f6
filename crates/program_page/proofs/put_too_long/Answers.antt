-- One line.
use native.Mathlib.Omega.{arith}
use Rattle.paper.specs.Bytes.{bytes}
use Rattle.program_page.proofs.Ends.{shows_text}
use borrow.Author.Rules.{rules}
use Rattle.program_page.proofs.put_too_long.Goals as goal

pub returns : goal.returns
returns c =
    shows_text (bytes "verdict too long for this program\n") c.put_text.ensures (omega (arith, c.put_text.ensures.ends)) (search rules)
