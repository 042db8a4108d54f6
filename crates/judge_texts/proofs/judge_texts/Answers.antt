-- `judge_texts::judge_texts` meets its contract: the earliest of the rules 16 to 20.
use Rattle.judge_texts.proofs.Sums.{texts_judged}
use Rattle.judge_texts.proofs.judge_texts.Goals as goal

pub returns : goal.returns
returns c =
    let bytes_of = c.bytes_of in
    let same = c.same-pat in
    let bytes-of2 = c.bytes_of-2 in
    let is_number = c.is_number-right in
    let is_Known = c.is_known-named in
    let unless = c.unless-a in
    let unless2 = c.unless-b in
    texts_judged same.result c.earlier.result c.earlier-2.result is_Known.ensures bytes_of.ensures
    same.ensures bytes-of2.ensures is_number.ensures unless.ensures unless2.ensures
    c.judge_residues-c.ensures c.unless-d.ensures
    c.earlier.ensures c.earlier-2.ensures c.earlier-3.ensures
