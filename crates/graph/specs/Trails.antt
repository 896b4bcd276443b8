-- What a trail uses, which spots it passes and what it is worth; and uses that are Eulerian between two spots.
-- Assumes nothing: these are definitions.
use Rattle.std.specs.Prelude.{◌≡◌, ◌⊎◌, ℕ, ◌+◌, ◌%◌, ◌<◌}
use Rattle.graph.specs.Graph.{Graph, Linked, Trail, stay, on, one, indicator}

module _ (G : Graph) where
  -- how often a trail uses each edge
  unfoldable pub walked : {s t : G.Spot} → Trail G s t → G.Edge → ℕ
  walked stay x = 0
  walked (on w e i ends) x = walked w x + one G e x

  -- the spots that a trail passes, its ends among them
  unfoldable pub passes : {s t : G.Spot} → Trail G s t → G.Spot → Type 0
  passes {s} stay x = s ≡ x
  passes (on {v = v} w e i ends) x = (v ≡ x) ⊎ passes w x

  -- the worths of a trail's steps, added up
  unfoldable pub total : (G.Edge → ℕ) → {s t : G.Spot} → Trail G s t → ℕ
  total worth stay = 0
  total worth (on w e i ends) = total worth w + worth e

  -- 1 where the two spots are one, else 0
  abbrev pub same_spot : G.Spot → G.Spot → ℕ
  same_spot s x = indicator (G.spot_dec s x)

  -- even degrees, where s and t count one more each
  abbrev pub Balanced : (G.Edge → ℕ) → G.Spot → G.Spot → Type 0
  Balanced u s t = (x : G.Spot) → (G.deg u x + same_spot s x + same_spot t x) % 2 ≡ 0

  -- uses that a trail from s to t can have: balanced, and every spot that they touch is linked with s
  pub record Eulerian (u : G.Edge → ℕ) (s t : G.Spot) : Type 0 where
    pub even : Balanced u s t
    pub held : (x : G.Spot) → 0 < G.deg u x → Linked G u s x

  -- a trail with exactly these uses
  pub record Walks (u : G.Edge → ℕ) (s t : G.Spot) : Type 0 where
    pub trail : Trail G s t
    pub uses : (e : G.Edge) → G.In e → walked trail e ≡ u e
