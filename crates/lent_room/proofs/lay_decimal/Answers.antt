-- The digits stand at the end of the table.
use Rattle.lent_room.proofs.Passes.{lays_as}
use Rattle.lent_room.proofs.lay_decimal.Goals as goal

pub returns : goal.returns
returns c =
    let digits' = c.digits-k in
    lays_as c.lay_bytes.ensures digits'.ensures.1
