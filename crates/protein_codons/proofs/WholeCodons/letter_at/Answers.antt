-- The letter of the codon that stands there: of plain residues by the rule of their table.
use mathlib.Core.Path.{refl, ap, ◌∙◌}
use mathlib.Core.Bool.{true, false, not}
use borrow.Author.Tests.{ne_eqb}
use Rattle.protein_code.specs.Tables.{code_of}
use Rattle.protein_codons.proofs.Readings.{at_place}
use Rattle.protein_codons.proofs.Blocks.{plain_here}
use Rattle.protein_codons.proofs.WholeCodons.letter_at.Goals as goal

pub returns-then-this-ne0 : goal.returns-then-this-ne0
returns-then-this-ne0 g c =
    let codons = c.args.self.now in
    let gc = code_of codons.code.now in
    let span = codons.span in
    let at = c.place-at.ensures.0 in
    let plain = c.requires.plain (ap not (ne_eqb g.row.PLAIN 0 c.if-this-ne0.true)) in
    c.plain_letter.ensures
    ∙ plain_here gc codons.r.now span.turned c.place-at.result _ at plain.1 codons.coded
    ∙ at_place gc codons.r.now span.low span.high span.turned c.args.k at span.turned refl c.requires.k_bound codons.inside

pub returns-then-turned : goal.returns-then-turned
returns-then-turned g c =
    let codons = c.args.self.now in
    let span = codons.span in
    c.codon.ensures
    ∙ at_place (code_of codons.code.now) codons.r.now span.low span.high span.turned c.args.k c.place-at.ensures.0 true c.if-turned.true c.requires.k_bound codons.inside

pub returns : goal.returns
returns g c =
    let codons = c.args.self.now in
    let span = codons.span in
    c.codon-2.ensures
    ∙ at_place (code_of codons.code.now) codons.r.now span.low span.high span.turned c.args.k c.place-at.ensures.0 false c.if-turned.false c.requires.k_bound codons.inside
