-- Where its parts stand, and then they themselves.
use Rattle.paper.specs.Index.{IndexedSequenceSays}
use Rattle.ask_show.proofs.Views.{shows_sequence}
use Rattle.ask_indexed.proofs.sequence.Goals as goal

pub returns : goal.returns
returns c =
    let args = c.args in
    let w = args.listing in
    shows_sequence w.now w.ref_ptr (IndexedSequenceSays w.now args.index.now args.k) _ _ c.locate_sequence.ensures c.show_sequence.ensures
