-- A passage out of the beginning of a tour: an edge from a spot of the beginning to one beyond it, and where its uses count. Assumes nothing.
use mathlib.Core.Path.{◌≡◌, subst}
use mathlib.Core.Logic.{◌≢◌, Ne-symm}
use Prim.Native.Nat.{ℕ}
use Rattle.graph.specs.Graph.{Graph, Laws, Ends}
use Rattle.graph.proofs.Many.{many, degree_many_start, degree_many_end, degree_many_else}

module _ (G : Graph) where
  -- the edge a leads from S to T; Done are the spots of the beginning
  pub record Passage (Done : G.Spot → Type 0) (a : G.Edge) (S T : G.Spot) : Type 0 where
    pub there : G.In a
    pub leads : Ends G a S T
    pub old : Done S
    pub new : ¬ Done T

-- a spot of the beginning is none beyond it
pub old_new : {A : Type 0} (Done : A → Type 0) {x y : A} → Done x → ¬ Done y → x ≢ y
old_new Done old new same = new (subst Done same old)

module _ (G : Graph) {size : (G.Edge → ℕ) → ℕ} (laws : Laws G size)
    {Done : G.Spot → Type 0} {a : G.Edge} {S T : G.Spot} (p : Passage G Done a S T) (m : ℕ) where
  pub passage_start : G.deg (many G a m) S ≡ m
  passage_start = degree_many_start G laws a p.there p.leads (old_new Done p.old p.new) m

  pub passage_end : G.deg (many G a m) T ≡ m
  passage_end = degree_many_end G laws a p.there p.leads (old_new Done p.old p.new) m

  -- in the beginning it counts at its start only
  pub passage_done : (x : G.Spot) → Done x → x ≢ S → G.deg (many G a m) x ≡ 0
  passage_done x done other = degree_many_else G laws a p.there p.leads x other (old_new Done done p.new) m

  -- beyond the beginning it counts at its end only
  pub passage_beyond : (x : G.Spot) → ¬ Done x → x ≢ T → G.deg (many G a m) x ≡ 0
  passage_beyond x new other = degree_many_else G laws a p.there p.leads x (Ne-symm (old_new Done p.old new)) other m
