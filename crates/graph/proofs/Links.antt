-- Tools on links: what a link keeps, how links are mapped, where they end, and how a link of a sum comes apart. Assumes nothing.
use mathlib.Core.Path.{◌≡◌, refl, sym, subst}
use mathlib.Core.Logic.{◌⊎◌, inl, inr, ⊎_swap}
use Prim.Native.Nat.{ℕ, ◌<◌}
use native.Mathlib.Omega.{arith}
use Rattle.graph.specs.Graph.{Graph, Laws, Ends, Linked, here, along}
use Rattle.graph.proofs.Sums.{degree_at_end}

module _ (G : Graph) where
  -- what every edge in use carries from each end to the other, a link carries along
  pub keeps :
      {u : G.Edge → ℕ} (K : G.Spot → Type 0) → ((e : G.Edge) (s t : G.Spot) → G.In e → 0 < u e → Ends G e s t → K s → K t) →
      {s t : G.Spot} → Linked G u s t → K s → K t
  keeps K carries here k = k
  keeps K carries (along {t = t} {v = v} l e i p ends) k = carries e t v i p ends (keeps K carries l k)

  -- the same, with what each edge carries said of its own two ends
  pub keeps_ends :
      {u : G.Edge → ℕ} (K : G.Spot → Type 0) →
      ((e : G.Edge) → G.In e → 0 < u e → (K (G.src e) → K (G.dst e)) × (K (G.dst e) → K (G.src e))) → {s t : G.Spot} → Linked G u s t → K s → K t
  keeps_ends K carries l k = keeps K (λ e x y i p ends. moved e x y (carries e i p) ends) l k
    where
      moved : (e : G.Edge) (x y : G.Spot) → (K (G.src e) → K (G.dst e)) × (K (G.dst e) → K (G.src e)) → Ends G e x y → K x → K y
      moved e x y c (inl (a, b)) k = subst K b (c.0 (subst K (sym a) k))
      moved e x y c (inr (a, b)) k = subst K a (c.1 (subst K (sym b) k))

  pub linked_by : {u : G.Edge → ℕ} {s t : G.Spot} (e : G.Edge) → G.In e → 0 < u e → Ends G e s t → Linked G u s t
  linked_by e i p ends = along here e i p ends

  pub linked_same : {u : G.Edge → ℕ} {s t : G.Spot} → s ≡ t → Linked G u s t
  linked_same {u} {s} e = subst (λ x. Linked G u s x) e here

  pub linked_trans : {u : G.Edge → ℕ} {s t v : G.Spot} → Linked G u s t → Linked G u t v → Linked G u s v
  linked_trans {u} {s} l m = keeps (λ x. Linked G u s x) (λ e x y i p ends k. along k e i p ends) m l

  pub linked_sym : {u : G.Edge → ℕ} {s t : G.Spot} → Linked G u s t → Linked G u t s
  linked_sym {u} {s} l = keeps (λ x. Linked G u x s) (λ e x y i p ends k. linked_trans (linked_by e i p (⊎_swap ends)) k) l here

  -- a map of spots that keeps the ends of every edge in use linked keeps all links
  pub maps :
      {u v : G.Edge → ℕ} (r : G.Spot → G.Spot) → ((e : G.Edge) → G.In e → 0 < u e → Linked G v (r (G.src e)) (r (G.dst e))) →
      {s t : G.Spot} → Linked G u s t → Linked G v (r s) (r t)
  maps {v = v} r edges {s} l =
      keeps_ends (λ x. Linked G v (r s) (r x)) (λ e i p. (λ k. linked_trans k (edges e i p), λ k. linked_trans k (linked_sym (edges e i p)))) l here

  -- what is used in u is used in v: links of u are links of v
  pub linked_more : {u v : G.Edge → ℕ} → ((e : G.Edge) → G.In e → 0 < u e → 0 < v e) → {s t : G.Spot} → Linked G u s t → Linked G v s t
  linked_more used l = maps (λ x. x) (λ e i p. linked_by e i (used e i p) (inl (refl, refl))) l

  -- where two uses both touch a spot, it is one of two
  pub record Meets (P Q : G.Spot) (a b : G.Edge → ℕ) : Type 0 where
    pub at : (x : G.Spot) → 0 < G.deg a x → 0 < G.deg b x → (x ≡ P) ⊎ (x ≡ Q)

  -- two spots linked by one of two parts alone
  abbrev pub OnePart : (G.Edge → ℕ) → (G.Edge → ℕ) → G.Spot → G.Spot → Type 0
  OnePart a b s t = Linked G a s t ⊎ Linked G b s t

module _ (G : Graph) {size : (G.Edge → ℕ) → ℕ} (laws : Laws G size) where
  -- a link goes nowhere, or ends where something is used
  pub touched_end : {u : G.Edge → ℕ} {s t : G.Spot} → Linked G u s t → (s ≡ t) ⊎ (0 < G.deg u t)
  touched_end here = inl refl
  touched_end {u} (along l e i p ends) = inr (degree_at_end G laws u e i p ends)

  -- nothing else is linked with a spot where nothing is used
  pub alone : {u : G.Edge → ℕ} {s t : G.Spot} → G.deg u s ≡ 0 → Linked G u s t → s ≡ t
  alone z l = elim (touched_end (linked_sym G l)) [ inl e ↦ sym e | inr p ↦ absurd (omega arith) ]
