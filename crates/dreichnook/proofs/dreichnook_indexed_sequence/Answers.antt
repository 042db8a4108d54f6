-- `dreichnook::dreichnook_indexed_sequence` meets its contract.
use Rattle.paper.specs.Index.{IndexedSequenceSays}
use Rattle.paper.proofs.Demands.{demand1, demand2}
use Rattle.dreichnook.proofs.Handed.{sequence_handed}
use Rattle.dreichnook.proofs.dreichnook_indexed_sequence.Goals as goal

pub returns : goal.returns
returns c =
    let args = c.args in
    let locate-sequence = c.locate_sequence in
    let p = sequence_handed args.listing.now (IndexedSequenceSays args.listing.now args.index.now args.sequence) (demand1.indexed_sequence args.listing.now args.index.now args.sequence) (demand2.indexed_sequence args.listing.now args.index.now args.sequence) locate-sequence.ensures c.hand_sequence.ensures in record { indexed_sequence_says = p.0; in_listing = p.1 }
