-- A multigraph known by its laws only: spots, edges, and how many ends of used edges meet at a spot.
-- Uses say how often each edge is used; only edges that are in the graph count. Assumes nothing: these are definitions.
use Rattle.std.specs.Prelude.{◌≡◌, ◌⊎◌, ℕ, ◌+◌, ◌<◌}

-- 1 where A holds, else 0
unfoldable pub indicator : {A : Type 0} → Dec A → ℕ
indicator (yes p) = 1
indicator (no p) = 0

pub record Graph : Type 1 where
  pub Spot : Type 0
  pub Edge : Type 0
  pub spot_dec : Discrete Spot
  pub edge_dec : Discrete Edge
  -- the edges that are there
  pub In : Edge → Type 0
  pub src : Edge → Spot
  pub dst : Edge → Spot
  -- the degree of a spot under uses
  pub deg : (Edge → ℕ) → Spot → ℕ

module _ (G : Graph) where
  -- an edge leads from s to t, in one direction or the other
  abbrev pub Ends : G.Edge → G.Spot → G.Spot → Type 0
  Ends e s t = ((G.src e ≡ s) × (G.dst e ≡ t)) ⊎ ((G.src e ≡ t) × (G.dst e ≡ s))

  -- one use of one edge
  unfoldable pub one : G.Edge → G.Edge → ℕ
  one e x = indicator (G.edge_dec e x)

  -- ends of an edge at a spot: a loop would have two
  unfoldable pub ends_at : G.Spot → G.Edge → ℕ
  ends_at s e = indicator (G.spot_dec (G.src e) s) + indicator (G.spot_dec (G.dst e) s)

  -- a measure of uses that adds up over the edges that are there, an edge used once being worth so much
  pub record Adds (F : (G.Edge → ℕ) → ℕ) (worth : G.Edge → ℕ) : Type 0 where
    pub add : (u v w : G.Edge → ℕ) → ((e : G.Edge) → G.In e → w e ≡ u e + v e) → F w ≡ F u + F v
    pub single : (e : G.Edge) → G.In e → F (one e) ≡ worth e

  -- spots linked by what is used
  pub data Linked (u : G.Edge → ℕ) (s : G.Spot) : G.Spot → Type 0 where
    here : Linked u s s
    along : {t v : G.Spot} → Linked u s t → (e : G.Edge) → G.In e → 0 < u e → Ends e t v → Linked u s v

  -- walks between two spots over edges that are there
  pub data Trail (s : G.Spot) : G.Spot → Type 0 where
    stay : Trail s s
    on : {t v : G.Spot} → Trail s t → (e : G.Edge) → G.In e → Ends e t v → Trail s v

  -- what the theory asks of a graph: degrees and the number of uses add up, and where one is positive there is an edge in use
  pub record Laws (size : (G.Edge → ℕ) → ℕ) : Type 0 where
    pub degree : (s : G.Spot) → Adds (λ u. G.deg u s) (ends_at s)
    pub count : Adds size (λ e. 1)
    pub touched : (u : G.Edge → ℕ) (s : G.Spot) → 0 < G.deg u s → (e : G.Edge) × G.In e × (0 < u e) × ((G.src e ≡ s) ⊎ (G.dst e ≡ s))
    pub some_use : (u : G.Edge → ℕ) → 0 < size u → (e : G.Edge) × G.In e × (0 < u e)
