-- `read_layout::document` meets its contract: its parts one after another, up to the end.
use mathlib.Core.Path.{sym, ap}
use Rattle.std.specs.Prelude.{Ok}
use Rattle.read_steps.proofs.Steps.{step_from}
use Rattle.read_layout.proofs.Wholes.{document_reads}
use Rattle.read_layout.proofs.document.Goals as goal

pub returns : goal.returns
returns c =
    let fresh = c.fresh in
    let word = c.word-a in
    let blanks = c.blanks in (
      document_reads (step_from (ap Ok (sym fresh.ensures)) word.ensures) blanks.ensures c.doctype-b.ensures c.blanks-2.ensures c.root-d.ensures c.blanks-3.ensures c.end.ensures.passes,
      c.end.ensures.at_end,
    )
