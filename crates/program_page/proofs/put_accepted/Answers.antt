-- Six lines, one behind the other.
use native.Mathlib.Omega.{arith}
use Rattle.paper.specs.Answers.{page}
use Rattle.std.specs.Prelude.{Ok}
use Rattle.lent_room.proofs.Laws.{puts_next}
use Rattle.program_page.proofs.Ends.{shows_text}
use Rattle.program_page.proofs.put_accepted.Goals as goal

pub returns : goal.returns
returns c =
    let args = c.args in
    let pre' = c.requires in
    let put-text = c.put_text-a in
    let put-line = c.put_line-b in
    let put-line2 = c.put_line-c in
    let put-line3 = c.put_line-d in
    let put-line4 = c.put_line-e in
    let stands = puts_next put-text.ensures (puts_next put-line.ensures.stands (puts_next put-line2.ensures.stands (puts_next put-line3.ensures.stands (puts_next put-line4.ensures.stands c.put_line.ensures.stands)))) in
    shows_text (page (Ok args.figures)) stands (omega (arith, put-text.ensures.ends, put-line.ensures.short, put-line2.ensures.short, put-line3.ensures.short, put-line4.ensures.short, c.put_line.ensures.short)) (pre')
