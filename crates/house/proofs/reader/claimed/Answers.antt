use Rattle.house.proofs.Fits.{claim_sized}
use Rattle.house.proofs.reader.claimed.Goals as goal

pub placed-requires : goal.placed-requires
placed-requires c =
    let (same, kept) = c.in_ok-counted_list.ensures in
    let sized = claim_sized c.args.file.now kept in
    record { whole = rw same sized.0; few = rw same sized.1 }
