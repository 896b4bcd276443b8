-- The test whether two spots are one tells it, and so does the test whether a spot is one of a list. Assumes nothing.
use Rattle.std.proofs.Common.{◌≡◌, eqb, List, [], ◌∷◌, Decides, ap}
use Rattle.std.proofs.lemmas.Bool.Decides.{Decides-eqb, Decides-and, Decides-or, Decides-like}
use Rattle.std.proofs.lemmas.Bool.{false≢true}
use Rattle.house.specs.House.{Spot, spot}
use Rattle.walk.specs.Steps.{Among}
use Rattle.walk.specs.Checking.{same, passed}

pub same_decides : (p q : Spot) → Decides (same p q) (p ≡ q)
same_decides p q =
    Decides-like (same p q)
    (λ e. λ i. spot (e.0 i) (e.1 i))
    (λ e. (ap (λ (s : Spot). s.aisle) e, ap (λ (s : Spot). s.depth) e))
    (Decides-and (eqb p.aisle q.aisle) (eqb p.depth q.depth) (Decides-eqb _ _) (Decides-eqb _ _))

pub passed_decides : (ss : List Spot) (p : Spot) → Decides (passed ss p) (Among p ss)
unfolding passed
passed_decides [] p = (λ e. absurd (false≢true e), λ m. absurd m)
passed_decides (s ∷ ss) p = Decides-or (same s p) (passed ss p) (same_decides s p) (passed_decides ss p)
