-- `value_dictionary::find` meets its contract: whichever text it is, its number stands in its slot, so it was compared with that one.
use native.Mathlib.Omega.{arith}
use lib.ListN.{drop}
use Rattle.value_dictionary.proofs.Lookup.{short, looked, other_size, stands_text, other_text}
use Rattle.value_dictionary.proofs.find.Goals as goal
use Rattle.value_dictionary.proofs.find.Goals.{then-stands-via-then-stands, then-stands-via-else-stands+then-stands_short, then-stands-via-else-stands+else-stands_short+then-begins}

pub returns-then-n-lt2 : goal.returns-then-n-lt2
returns-then-n-lt2 c = (short c.if-n-lt2.true, omega arith)

pub returns-then-entry-n : goal.returns-then-entry-n
returns-then-entry-n c =
    let args = c.args in
    let at = looked args.factor args.mask (drop args.base args.t.now) args.w.now c.slot_of.ensures c.byte_at-k.ensures.0 c.pair_at-entry.ensures.0 in
    (other_size at c.if-entry-n.true, omega arith)

pub returns-then-stands : goal.returns-then-stands
returns-then-stands c =
    let args = c.args in
    let k = c.byte_at-k.ensures in
    let at = looked args.factor args.mask (drop args.base args.t.now) args.w.now c.slot_of.ensures k.0 c.pair_at-entry.ensures.0 in
    let here = stands_text args.base args.t.now at c.if-entry-n.false in
    elim c.then-stands.branch [
      | then-stands-via-then-stands w ↦ (here (c.stands.ensures w.if-stands.true), k.1)
      | then-stands-via-else-stands+then-stands_short w ↦ (here (w.stands_short.ensures w.if-stands_short.true), k.1)
      | then-stands-via-else-stands+else-stands_short+then-begins w ↦ (here (w.begins.ensures.yes w.if-begins.true), k.1)
    ]

pub returns : goal.returns
returns c =
    let args = c.args in
    let at = looked args.factor args.mask (drop args.base args.t.now) args.w.now c.slot_of.ensures c.byte_at-k.ensures.0 c.pair_at-entry.ensures.0 in
    (other_text args.base args.t.now at c.if-entry-n.false (omega (arith, c.if-n-lt2.false)) (c.begins.ensures.no c.if-begins.false), omega arith)
