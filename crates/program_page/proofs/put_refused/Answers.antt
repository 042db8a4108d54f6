-- Three lines, one behind the other.
use native.Mathlib.Omega.{arith}
use Rattle.paper.specs.Answers.{page}
use Rattle.std.specs.Prelude.{Err}
use Rattle.lent_room.proofs.Laws.{puts_next}
use Rattle.program_page.proofs.Ends.{shows_text}
use Rattle.program_page.proofs.put_refused.Goals as goal

pub returns : goal.returns
returns c =
    let args = c.args in
    let pre' = c.requires in
    let put-text = c.put_text-a in
    let put-line = c.put_line-b in
    let stands = puts_next put-text.ensures (puts_next put-line.ensures.stands c.put_line.ensures.stands) in
    shows_text (page (Err args.refused)) stands (omega (arith, put-text.ensures.ends, put-line.ensures.short, c.put_line.ensures.short)) (pre')
