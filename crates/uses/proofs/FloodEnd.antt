-- A flood begins at the desk and leaves spot after spot; in the end it has seen the spots that are linked with the desk, and no others. Assumes nothing.
use Rattle.std.proofs.Common.{◌≡◌, ℕ, ◌+◌, ◌*◌, ◌<◌, ◌≤◌, false, ◌⊎◌, List, [], ◌∷◌, length, Some, None, sym, ap, ◌∙◌, subst, inl, inr, arith, length-append}
use native.Mathlib.Decide.{ℕ_discrete}
use Rattle.std.proofs.lemmas.List.{length-replicate, get_or_append_left}
use Rattle.std.proofs.Math.Seq.{get_or-append_seam}
use Rattle.graph.specs.Graph.{Ends, here}
use Rattle.graph.proofs.Links.{keeps}
use Rattle.house.specs.House.{House, Spot, desk}
use Rattle.house.specs.Reading.{spot_of}
use Rattle.house.specs.declared.layout.Spot as code
use Rattle.walk.specs.Steps.{Within, landing}
use Rattle.walk.proofs.Lands.{landing_within, desk_within}
use Rattle.uses.specs.Edges.{Edge, In, house_graph}
use Rattle.uses.specs.Flood.{Flooding, left, code_of, waits_too, offered, spread, Pops, dry, TellsLinked}
use Rattle.uses.specs.Layout.{held_in}
use Rattle.uses.specs.Looking.{edge_by}
use Rattle.uses.proofs.Filled.{filled}
use Rattle.uses.proofs.FloodLook.{Looked, looked_around}
use Rattle.uses.proofs.FloodOffer.{offer_on}
use Rattle.uses.proofs.Floods.{Seen, spot_at, Waits, Good}
use Rattle.uses.proofs.Links.{to_link_by, from_link}
use Rattle.uses.proofs.Taken.{byte_of_edge}

module _ (h : House) (us : List ℕ) where
  -- every neighbour of a spot along what is used is seen
  abbrev pub Left : Flooding → Spot → Type 0
  Left f s = (b : ℕ) (t : Spot) → b < 6 → landing h s b ≡ Some t → 0 < held_in h us (edge_by h s b) → Seen f t

  -- a flood from the desk: each spot that it has seen waits or was left
  pub record Flooded (f : Flooding) : Type 0 where
    pub good : Good h us f
    pub start : Seen f desk
    pub done : (s : Spot) → Within h s → Seen f s → Waits f s ⊎ Left f s

  left_on : (f g : Flooding) (s : Spot) → ((t : Spot) → Seen f t → Seen g t) → Left f s → Left g s
  left_on f g s seen_on left b t l m p = seen_on t (left b t l m p)

module _ (h : House) (us : List ℕ) (few : h.aisles ≤ 64) (low : h.deep ≤ 200) where
  dry_unseen : (s : Spot) → Seen dry s → ⊥
  dry_unseen s k = let z = filled 12864 (201 * s.aisle + s.depth) false in let e : ◌≡◌ {A = ℕ} 0 1 = cc (z, k) in omega arith

  dry_good : Good h us dry
  dry_good = record {
    flags = length-replicate 12864 false;
    linked = λ s i k. absurd (dry_unseen s k);
    waiting = λ j l. absurd (omega arith);
  }

  pub flood_start : {f : Flooding} → 1 ≤ h.aisles → f ≡ offered 1 (code_of desk) dry → Flooded h us f
  flood_start some e =
      let o = offer_on h us few low dry dry_good desk (desk_within some) 1 (λ p. here) in
      subst (Flooded h us) (sym e) (record {
        good = o.good;
        start = o.hit (omega arith);
        done = λ s i k. elim (o.grows.fresh s i k) [ inl z ↦ absurd (dry_unseen s z) | inr w ↦ inl w ];
      })

  -- the last spot that waits is taken off and left
  module _ (f : Flooding) (x : code.Spot) (flooded : Flooded h us (waits_too f x)) where
    abbrev g : Flooding
    g = spread h us (spot_of x) f

    one_more : length (waits_too f x).waiting ≡ length f.waiting + 1
    one_more = length-append f.waiting (x ∷ [])

    before_at : (j : ℕ) → j < length f.waiting → spot_at (waits_too f x) j ≡ spot_at f j
    before_at j l = ap spot_of (get_or_append_left f.waiting (x ∷ []) (code_of desk) j l)

    last_at : spot_at (waits_too f x) (length f.waiting) ≡ spot_of x
    last_at = ap spot_of (get_or-append_seam f.waiting x [] (code_of desk))

    held : Within h (spot_of x) × Seen f (spot_of x)
    held = subst (λ s. Within h s × Seen f s) last_at (flooded.good.waiting (length f.waiting) (omega (arith, one_more)))

    still_good : Good h us f
    still_good = record {
      flags = flooded.good.flags;
      linked = flooded.good.linked;
      waiting = λ j l. subst (λ s. Within h s × Seen f s) (before_at j l) (flooded.good.waiting j (omega (arith, one_more, l)));
    }

    around : Looked h us (spot_of x) 6 f g
    around = looked_around h us few low (spot_of x) held.0 (flooded.good.linked (spot_of x) held.0 held.1) f still_good

    -- each spot that waits is the last one, or waits on
    waits_or : (s : Spot) → Waits (waits_too f x) s → (spot_of x ≡ s) ⊎ Waits f s
    waits_or s (j, l, e) = elim (ℕ_discrete j (length f.waiting)) [
      | yes p ↦ inl (sym (ap (spot_at (waits_too f x)) p ∙ last_at) ∙ e)
      | no n ↦ let k : j < length f.waiting = omega (arith, one_more) in inr (j, k, sym (before_at j k) ∙ e)
    ]

    on : (s : Spot) → Waits (waits_too f x) s ⊎ Left h us (waits_too f x) s → Waits g s ⊎ Left h us g s
    on s w = elim w [
      | inl z ↦ elim (waits_or s z) [ inl e ↦ inr (subst (Left h us g) e around.hits) | inr y ↦ inl (around.grows.waits_on s y) ]
      | inr z ↦ inr (left_on h us (waits_too f x) g s around.grows.seen_on z)
    ]

    turn : Flooded h us g
    turn = record {
      good = around.good;
      start = around.grows.seen_on desk flooded.start;
      done = λ s i k. elim (around.grows.fresh s i k) [ inl z ↦ on s (flooded.done s i z) | inr w ↦ inl w ];
    }

    turn_less : left g < left (waits_too f x)
    turn_less = omega (arith, one_more, around.grows.less)

  -- as the code does it
  module _ {f : Flooding} (g : Flooding) (x : code.Spot) (flooded : Flooded h us f) (off : Pops f g (Some x)) where
    pub flood_within : Within h (spot_of x)
    flood_within = (held g x (subst (Flooded h us) off flooded)).0

    module _ {k : Flooding} (all : k ≡ spread h us (spot_of x) g) where
      pub flood_more : Flooded h us k
      flood_more = subst (Flooded h us) (sym all) (turn g x (subst (Flooded h us) off flooded))

      pub flood_less : left k < left f
      flood_less = omega (arith, turn_less g x (subst (Flooded h us) off flooded), ap left all, ap left off)

  -- where no spot waits, what is seen is carried along every edge in use
  module _ (f : Flooding) (flooded : Flooded h us f) (over : f.waiting ≡ []) where
    abbrev Held : Spot → Type 0
    Held s = Within h s × Seen f s

    carried : (e : Edge) (s t : Spot) → In h e → 0 < held_in h us e → Ends (house_graph h) e s t → Held s → Held t
    carried e s t i p ends (inside, seen) =
        let b = byte_of_edge h e i ends in
        let used : 0 < held_in h us (edge_by h s b.byte) = subst (λ x. 0 < held_in h us x) (sym b.along) p in
        elim (flooded.done s inside seen) [
          | inl (j, l, w) ↦ absurd (omega (arith, l, ap length over))
          | inr left ↦ (landing_within b.byte inside b.leads, left b.byte t (omega (arith, b.small)) b.leads used)
        ]

    tells : 1 ≤ h.aisles → TellsLinked h us f.seen
    tells some s inside =
        let start : Held desk = (desk_within some, flooded.start) in
        (λ seen. from_link h (flooded.good.linked s inside seen), λ link. (keeps (house_graph h) Held carried (to_link_by h (held_in h us) link) start).1)

  pub flood_end : {f g : Flooding} → 1 ≤ h.aisles → Flooded h us f → Pops f g None → TellsLinked h us g.seen
  flood_end {f} some flooded (over, same) = subst (λ (k : Flooding). TellsLinked h us k.seen) (sym same) (tells f flooded over some)
