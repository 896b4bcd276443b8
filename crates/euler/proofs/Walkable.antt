-- Round uses are those of a tour. Assumes nothing.
use Rattle.uses.proofs.Rings.{to_ring}
use Rattle.uses.proofs.Tours.{ring_toured, toured_length}
use Rattle.euler.specs.Promise.{RoundIsWalked}

pub round_is_walked : RoundIsWalked
round_is_walked h picks u round = let t = ring_toured h (to_ring round) in (t.tour, t.uses, toured_length h t)
