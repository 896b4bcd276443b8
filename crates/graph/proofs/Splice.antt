-- Trails put together, their uses adding up: one after the other, and a closed one spliced in where another passes. Assumes nothing.
use mathlib.Core.Path.{◌≡◌, path_j}
use mathlib.Core.Logic.{inl, inr}
use Prim.Native.Nat.{◌+◌}
use native.Mathlib.Omega.{arith}
use Rattle.graph.specs.Graph.{Graph, Trail, stay, on}
use Rattle.graph.specs.Trails.{walked, passes}

module _ (G : Graph) where
  unfoldable pub join : {s t v : G.Spot} → Trail G s t → Trail G t v → Trail G s v
  join a stay = a
  join a (on b e i ends) = on (join a b) e i ends

  pub walked_join : {s t v : G.Spot} (a : Trail G s t) (b : Trail G t v) (x : G.Edge) → walked G (join a b) x ≡ walked G a x + walked G b x
  unfolding join walked
  walked_join a stay x = omega arith
  walked_join a (on b e i ends) x = omega (arith, walked_join a b x)

  -- a trail between the ends of w with the uses of w and of the closed trail c
  pub record Spliced {s t y : G.Spot} (w : Trail G s t) (c : Trail G y y) : Type 0 where
    pub trail : Trail G s t
    pub uses : (x : G.Edge) → walked G trail x ≡ walked G w x + walked G c x

  splice_end : {s t y : G.Spot} (w : Trail G s t) → t ≡ y → (c : Trail G y y) → Spliced w c
  splice_end w same = path_j (λ y p. (c : Trail G y y) → Spliced w c) (λ c. record { trail = join w c; uses = walked_join w c }) same

  pub splice : {s t y : G.Spot} (w : Trail G s t) → passes G w y → (c : Trail G y y) → Spliced w c
  unfolding passes walked
  splice stay same c = splice_end stay same c
  splice (on w e i ends) (inl same) c = splice_end (on w e i ends) same c
  splice (on w e i ends) (inr p) c = longer (splice w p c)
    where
      longer : Spliced w c → Spliced (on w e i ends) c
      longer z = record { trail = on z.trail e i ends; uses = λ x. omega (arith, z.uses x) }
