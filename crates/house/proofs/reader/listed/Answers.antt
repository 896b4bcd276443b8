use Rattle.house.proofs.Fits.{list_sized}
use Rattle.house.proofs.reader.listed.Goals as goal

pub placed-requires : goal.placed-requires
placed-requires c =
    let (same, kept) = c.in_ok-whole_list.ensures in
    let sized = list_sized c.args.list.now kept in
    record { whole = rw same sized.0; few = rw same sized.1 }
