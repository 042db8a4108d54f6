-- `value_words::kind_of` meets its contract: the names of kinds are written as they read.
use Rattle.paper.specs.Rules.{dna, rna, aa}
use Rattle.value_words.proofs.Read.{named, unnamed}
use Rattle.value_words.proofs.Tests.{tells_true, tells_false}
use Rattle.value_words.proofs.kind_of.Goals as goal

pub returns-then-same : goal.returns-then-same
returns-then-same c = let x = c.same in record { says = named dna (tells_true x.result c.if-same.true x.ensures) }

pub returns-then-same-2 : goal.returns-then-same-2
returns-then-same-2 c = let y = c.same-else-same in record { says = named rna (tells_true y.result c.if-same-2.true y.ensures) }

pub returns-then-same-3 : goal.returns-then-same-3
returns-then-same-3 c = let z = c.same-else-same-2 in record { says = named aa (tells_true z.result c.if-same-3.true z.ensures) }

pub returns-else-same-3 : goal.returns-else-same-3
returns-else-same-3 c =
    let x = c.same in
    let y = c.same-else-same in
    let z = c.same-else-same-2 in
    record {
      says = unnamed (tells_false x.result c.if-same.false x.ensures)
          (tells_false y.result c.if-same-2.false y.ensures)
          (tells_false z.result c.if-same-3.false z.ensures);
    }
