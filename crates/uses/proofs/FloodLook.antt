-- Looks from a spot: what is seen in the directions of its steps is offered to the flood. Assumes nothing.
use Rattle.std.proofs.Common.{◌≡◌, ℕ, suc, ◌<◌, ◌≤◌, List, Some, sym, ◌∙◌, subst, inl, inr, arith}
use native.Mathlib.Decide.{ℕ_discrete}
use Rattle.graph.specs.Graph.{along}
use Rattle.house.specs.House.{House, Spot}
use Rattle.walk.specs.Steps.{Within, landing}
use Rattle.walk.proofs.Follow.{some_or_none}
use Rattle.walk.proofs.Lands.{none_not_some, landing_within}
use Rattle.uses.specs.Flood.{Flooding, code_of, offered, tried, spread}
use Rattle.uses.specs.Layout.{held_in}
use Rattle.uses.specs.Looking.{edge_by}
use Rattle.uses.proofs.FloodOffer.{offer_on}
use Rattle.uses.proofs.Floods.{Seen, Reaches, Good, Grows, grows_none, grows_both}
use Rattle.uses.proofs.Taken.{joins_of_landing}
use Rattle.uses.proofs.Tried.{tried_out, tried_to}

module _ (h : House) (us : List ℕ) where
  -- what a look from a spot in one direction gives
  pub record Try (s : Spot) (b : ℕ) (f g : Flooding) : Type 0 where
    pub good : Good h us g
    pub grows : Grows h us f g
    pub hit : (t : Spot) → landing h s b ≡ Some t → 0 < held_in h us (edge_by h s b) → Seen g t

  -- looks from a spot in the directions of the bytes below n
  pub record Looked (s : Spot) (n : ℕ) (f g : Flooding) : Type 0 where
    pub good : Good h us g
    pub grows : Grows h us f g
    pub hits : (b : ℕ) (t : Spot) → b < n → landing h s b ≡ Some t → 0 < held_in h us (edge_by h s b) → Seen g t

  -- from a spot of the house that is linked with the desk
  module _ (few : h.aisles ≤ 64) (low : h.deep ≤ 200) (s : Spot) (inside : Within h s) (link : Reaches h us s) where
    try_on : (b : ℕ) (f : Flooding) → Good h us f → Try s b f (tried h us s b f)
    try_on b f good = elim (some_or_none (landing h s b)) [
      | inl (t, l) ↦
          let join = joins_of_landing h b inside l in
          let o = offer_on h us few low f good t (landing_within b inside l) (held_in h us (edge_by h s b)) (λ p. along link (edge_by h s b) join.inside p join.ends) in
          subst (Try s b f) (sym (tried_to h us s b f l)) (record {
            good = o.good;
            grows = o.grows;
            hit = λ u m p. let same : t ≡ u = cc in subst (Seen (offered (held_in h us (edge_by h s b)) (code_of t) f)) same (o.hit p);
          })
      | inr l ↦
          subst (Try s b f) (sym (tried_out h us s b f l)) (record { good = good; grows = grows_none h us f; hit = λ t m p. absurd (none_not_some (sym l ∙ m)) })
    ]

    looked_none : (f : Flooding) → Good h us f → Looked s 0 f f
    looked_none f good = record { good = good; grows = grows_none h us f; hits = λ b t l. absurd (omega arith) }

    looked_more : (n : ℕ) (f g : Flooding) → Looked s n f g → Looked s (suc n) f (tried h us s n g)
    looked_more n f g k =
        let one = try_on n g k.good in
        record {
          good = one.good;
          grows = grows_both h us f g (tried h us s n g) k.grows one.grows;
          hits = λ b t l m p. elim (ℕ_discrete b n) [
            | yes e ↦ one.hit t (subst (λ c. landing h s c ≡ Some t) e m) (subst (λ c. 0 < held_in h us (edge_by h s c)) e p)
            | no z ↦ one.grows.seen_on t (k.hits b t (omega arith) m p)
          ];
        }

    pub looked_around : (f : Flooding) → Good h us f → Looked s 6 f (spread h us s f)
    looked_around f good =
        looked_more 5 f _ (looked_more 4 f _ (looked_more 3 f _ (looked_more 2 f _ (looked_more 1 f _ (looked_more 0 f _ (looked_none f good))))))
