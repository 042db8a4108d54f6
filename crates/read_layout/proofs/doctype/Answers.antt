-- `read_layout::doctype` meets its contract: one word after another.
use Rattle.read_layout.proofs.Wholes.{doctype_reads}
use Rattle.read_layout.proofs.doctype.Goals as goal

pub returns : goal.returns
returns c =
    let word = c.word in
    let gap = c.gap-a in
    let word2 = c.word-2 in
    let gap2 = c.gap-b in
    let word3 = c.word-3 in
    let gap3 = c.gap-c in
    doctype_reads word.ensures gap.ensures word2.ensures gap2.ensures word3.ensures gap3.ensures
    c.word-d.ensures c.gap.ensures c.word-4.ensures
