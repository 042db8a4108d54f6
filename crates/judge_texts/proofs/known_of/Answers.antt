-- `judge_texts::known_of` meets its contract.
use Rattle.judge_texts.proofs.Sizes.{knows}
use Rattle.judge_texts.proofs.known_of.Goals as goal

pub length_of-requires : goal.length_of-requires
length_of-requires c = c.before_foreign-n.ensures.within

pub returns : goal.returns
returns c =
    let bytes_of = c.bytes_of in
    let kind-of = c.kind_of-kind in
    knows bytes_of.ensures kind-of.ensures c.bytes_of-w.ensures
    c.before_foreign-n.ensures c.length_of.ensures c.size_of-top.ensures
    c.wrapping_add_usize-foreign.ensures.value
