-- `dreichnook::dreichnook_sequence` meets its contract.
use Rattle.paper.specs.Answers.{SequenceSays}
use Rattle.paper.proofs.Demands.{demand1, demand2}
use Rattle.dreichnook.proofs.Handed.{sequence_handed}
use Rattle.dreichnook.proofs.dreichnook_sequence.Goals as goal

pub returns : goal.returns
returns c =
    let args = c.args in
    let locate-sequence = c.locate_sequence in
    let p = sequence_handed args.listing.now (SequenceSays args.listing.now args.sequence) (demand1.sequence args.listing.now args.sequence) (demand2.sequence args.listing.now args.sequence) locate-sequence.ensures c.hand_sequence.ensures in record { sequence_says = p.0; in_listing = p.1 }
