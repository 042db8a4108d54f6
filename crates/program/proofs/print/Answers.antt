-- By the number of bytes, and else by the check's verdict.
use Rattle.paper.specs.Bytes.{bytes}
use Rattle.paper.specs.Answers.{page}
use Rattle.paper.specs.Answers.Prints.{too_long, verdict}
use Rattle.program.proofs.print.Goals as goal

pub returns-then-listing-gt65536 : goal.returns-then-listing-gt65536
returns-then-listing-gt65536 c =
    record { text = bytes "verdict too long for this program\n"; prints = too_long c.if-listing-gt65536.true; shows = c.put_too_long.ensures }

pub returns : goal.returns
returns c =
    record { text = page c.check.result; prints = verdict c.check.result c.if-listing-gt65536.false c.check.ensures; shows = c.put_page.ensures }
