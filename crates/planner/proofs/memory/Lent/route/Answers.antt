use Rattle.std.proofs.Common.{subst, arith}
use Rattle.house.specs.Bounds.{picks_of}
use Rattle.house.specs.Reading.{house_of}
use Rattle.house.specs.declared.layout.House.{House}
use Rattle.euler.specs.Walking.{WalksUses}
use Rattle.planner.proofs.Room.{room_tells}
use Rattle.planner.proofs.Routes.{Bounds, fits_sound, best_walked, routed}
use Rattle.planner.proofs.memory.Lent.route.Goals as goal

bounds : (h : House) → Bounds (house_of h)
bounds h =
    record { some_aisle = h.some_aisle; few_aisles = h.few_aisles; some_depth = h.some_depth; little_depth = h.little_depth; little_way = h.little_way }

pub lay_best-requires : goal.lay_best-requires
lay_best-requires c =
    let room = room_tells c.args.self.now c.requires in
    record { sorting = room.for_picks; tables = (room.for_lengths, room.for_came); laying = room.for_uses }

pub unwrap-requires : goal.unwrap-requires
unwrap-requires c =
    let h = house_of c.args.list.house in
    let room = room_tells c.args.self.now c.requires in
    best_walked h (bounds c.args.list.house) (picks_of c.args.list.bytes.now)
    (fits_sound h c.args.list.bytes.now (bounds c.args.list.house) c.args.list.in_aisles c.args.list.on_shelves) _ _ _ _ _ _ room.for_lengths
    room.for_came c.lay_best.ensures.laid _ _ _ _ room.for_steps (omega arith) c.walk_uses.ensures

pub returns-clause-routed : goal.returns-clause-routed
returns-clause-routed c =
    let h = house_of c.args.list.house in
    let room = room_tells c.args.self.now c.requires in
    routed h (bounds c.args.list.house) (picks_of c.args.list.bytes.now)
    (fits_sound h c.args.list.bytes.now (bounds c.args.list.house) c.args.list.in_aisles c.args.list.on_shelves) _ _ _ _ _ _ room.for_lengths
    room.for_came c.lay_best.ensures.laid _ _ _ _ _ c.unwrap.result (omega arith) c.lay_best.ensures.sorted
    (subst (WalksUses h _ _ _ _) c.unwrap.ensures c.walk_uses.ensures)
