-- A look in the direction of one step, once it is known where the step leads. Assumes nothing.
use Rattle.std.proofs.Common.{◌≡◌, ℕ, List, get_or, Some, None, sym, ap, ◌∙◌}
use Rattle.house.specs.House.{House, Spot}
use Rattle.house.specs.Reading.{spot_of}
use Rattle.house.specs.declared.layout.Spot as code
use Rattle.walk.specs.Steps.{landing}
use Rattle.uses.specs.Flood.{Flooding, code_of, offered, tried}
use Rattle.uses.specs.Layout.{held_in}
use Rattle.uses.specs.Looking.{edge_by, Sees}

module _ (h : House) (us : List ℕ) (s : Spot) (b : ℕ) (f : Flooding) where
  pub tried_out : landing h s b ≡ None → tried h us s b f ≡ f
  unfolding tried
  tried_out l = rw (l, tried)

  pub tried_to : {t : Spot} → landing h s b ≡ Some t → tried h us s b f ≡ offered (held_in h us (edge_by h s b)) (code_of t) f
  unfolding tried
  tried_to l = rw (l, tried)

  -- as the code does it
  pub tried_seen : {entry : ℕ} {t : code.Spot} → Sees h s b entry (spot_of t) → tried h us s b f ≡ offered (get_or us entry 0) t f
  tried_seen {entry} {t} seen = tried_to seen.leads ∙ ap (λ (n : ℕ). offered (get_or us n 0) t f) (sym seen.entry_is)
