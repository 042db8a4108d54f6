-- `ask_lookups::sequence` meets its contract.
use Rattle.paper.specs.Answers.{SequenceSays}
use Rattle.ask_show.proofs.Views.{shows_sequence}
use Rattle.ask_lookups.proofs.sequence.Goals as goal

pub returns : goal.returns
returns c =
    let w = c.args.listing in
    shows_sequence w.now w.ref_ptr (SequenceSays w.now c.args.k) _ _ c.locate_sequence.ensures c.show_sequence.ensures
