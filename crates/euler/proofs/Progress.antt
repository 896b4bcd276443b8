-- The pass over the uses, turn by turn: what the stack, the tail and the uses left over are to each other, and what the end tells. Assumes nothing.
use Rattle.std.proofs.Common.{◌≡◌, ℕ, suc, ◌+◌, ◌-◌, ◌<◌, ◌≤◌, List, [], ◌∷◌, ◌++◌, length, get_or, take, drop, set, sym, refl, ap, ◌∙◌, subst, subst₂, arith}
use Rattle.std.proofs.lemmas.List.{get_or-set_other, take_more, take_more_set, take-set-le, drop-set, drop-set-lt, same_from_push, length-take-le}
use Rattle.house.specs.House.{House, Spot, desk}
use Rattle.walk.specs.Walk.{Goes, Walk, byte_of, steps_of}
use Rattle.walk.specs.Steps.{Within}
use Rattle.walk.proofs.Lands.{step_of_landing, end_within}
use Rattle.uses.specs.Edges.{degree, house_graph}
use Rattle.uses.specs.Layout.{place, places, held_in}
use Rattle.uses.specs.Looking.{edge_by}
use Rattle.uses.specs.Walked.{edge_of, to_trail}
use Rattle.uses.proofs.Laws.{size, house_laws}
use Rattle.uses.proofs.Places.{place_below}
use Rattle.uses.proofs.Taken.{edge_by_byte}
use Rattle.euler.specs.Choosing.{Opens}
use Rattle.euler.specs.Passing.{origin}
use Rattle.euler.proofs.Halfway.{Halfway, halfway_none, halfway_on, halfway_off}
use Rattle.euler.proofs.Joined.{join, steps_of_front, trail_of_front}
use Rattle.euler.proofs.Less.{one_less, size_one_less}
use Rattle.euler.proofs.Origin.{origin_of_step, start_within}

-- a walk with a last step
record Last {h : House} {s x : Spot} (w : Walk h s x) : Type 0 where
  from : Spot
  far : ℕ
  front : Walk h s from
  step : Goes h from x far
  is : w ≡ Walk.on front step

last_step : {h : House} {s x : Spot} (w : Walk h s x) → 0 < length (steps_of w) → Last w
unfolding steps_of
last_step Walk.stay some = absurd (omega arith)
last_step (Walk.on w g) some = record { from = _; far = _; front = w; step = g; is = refl }

module _ (h : House) (us : List ℕ) (n : ℕ) where
  -- the stack leads from the desk to x, the finished tail from o to the desk, and between them there is a place for each use left over
  pub record Progress (left steps : List ℕ) (top tail : ℕ) (x o : Spot) : Type 0 where
    pub stack : Walk h desk x
    pub rest : Walk h o desk
    pub stacked : steps_of stack ≡ take top steps
    pub finished : steps_of rest ≡ take (n - tail) (drop tail steps)
    pub half : Halfway (house_graph h) (to_trail h stack) (to_trail h rest) (held_in h us) (held_in h left)
    pub room : top + size h (held_in h left) ≡ tail
    pub fits : tail ≤ n
    pub inside : Within h x
    pub beyond : (k : ℕ) → places h ≤ k → get_or left k 0 ≡ get_or us k 0

  pub progress_none : (steps : List ℕ) → 1 ≤ h.aisles → n ≡ size h (held_in h us) → Progress us steps 0 n desk desk
  unfolding steps_of to_trail
  progress_none steps some e =
      let zero : 0 ≡ n - n = omega arith in
      record {
        stack = Walk.stay;
        rest = Walk.stay;
        stacked = refl;
        finished = ap (λ (k : ℕ). take k (drop n steps)) zero;
        half = halfway_none (house_graph h) desk desk (held_in h us);
        room = omega arith;
        fits = omega arith;
        inside = record { aisle_in = some; depth_in = omega arith };
        beyond = λ k l. refl;
      }

  -- a step along an edge that is left over
  on_edge :
      {left steps : List ℕ} {top tail k : ℕ} {x o t : Spot} (p : Progress left steps top tail x o) (g : Goes h x t k) →
      place h (edge_of h g).edge < length left → 0 < held_in h left (edge_of h g).edge → n ≤ length steps →
      Progress (set left (place h (edge_of h g).edge) (held_in h left (edge_of h g).edge - 1)) (set steps top (byte_of g)) (top + 1) tail t o
  unfolding steps_of to_trail
  on_edge {left} {steps} {top} {tail} p g here used long =
      let e = (edge_of h g).edge in
      let i = (edge_of h g).inside in
      let less = size_one_less h left e i here used in
      let below : top < tail = omega (arith, p.room, less) in
      let there : top < length steps = omega (arith, p.fits) in
      record {
        stack = Walk.on p.stack g;
        rest = p.rest;
        stacked = ap (λ bs. bs ++ (byte_of g ∷ [])) p.stacked ∙ sym (take_more_set steps top (byte_of g) there);
        finished = p.finished ∙ ap (take (n - tail)) (sym (drop-set-lt tail steps top (byte_of g) below));
        half = halfway_on (house_graph h) (house_laws h) e i (edge_of h g).ends (one_less h left e i here used) p.half;
        room = omega (arith, p.room, less);
        fits = p.fits;
        inside = end_within g;
        beyond = λ k l. get_or-set_other left (place h e) k (held_in h left e - 1) 0 (λ z. omega (arith, place_below h e i)) ∙ p.beyond k l;
      }

  pub progress_on :
      {left steps : List ℕ} {top tail b entry : ℕ} {x o t : Spot} → Progress left steps top tail x o → Opens h left x b entry t →
      places h ≤ length left → n ≤ length steps →
      Progress (set left entry (get_or left entry 0 - 1)) (set steps top b) (top + 1) tail t o
  progress_on {left} {steps} {top} {tail} {b} {entry} {x} {o} {t} p opens few long =
      let g = step_of_landing b p.inside opens.seen.leads in
      let e = (edge_of h g.step).edge in
      let along : e ≡ edge_by h x b = edge_by_byte h g.step ∙ ap (edge_by h x) g.byte in
      let at : place h e ≡ entry = ap (place h) along ∙ sym opens.seen.entry_is in
      let here : place h e < length left = omega (arith, (opens.seen.stays p.inside).0) in
      let used : 0 < held_in h left e = omega (arith, ap (λ (k : ℕ). get_or left k 0) at, opens.left_over) in
      subst₂ (λ k c. Progress (set left k (get_or left k 0 - 1)) (set steps top c) (top + 1) tail t o) at g.byte (on_edge p g.step here used long)

  -- the last step of the stack becomes the first of the tail, where nothing is left over between them
  off_step :
      {left steps : List ℕ} {top tail far : ℕ} {x y : Spot} (p : Progress left steps (top + 1) (tail + 1) x x) (w : Walk h desk y) (g : Goes h y x far) →
      p.stack ≡ Walk.on w g → n ≤ length steps → degree h (held_in h left) x ≡ 0 → (byte_of g ≡ get_or steps top 0) × Progress left (set steps tail (get_or steps top 0)) top tail y y
  unfolding steps_of to_trail
  off_step {left} {steps} {top} {tail} {x = x} p w g last long stuck =
      let G = house_graph h in
      let e = edge_of h g in
      let there : tail < length steps = omega (arith, p.fits) in
      let below : top ≤ tail = omega (arith, p.room) in
      let more : suc (n - (tail + 1)) ≡ n - tail = omega (arith, p.fits) in
      let row : steps_of w ++ (byte_of g ∷ []) ≡ take (top + 1) steps = ap steps_of (sym last) ∙ p.stacked in
      let (front, byte) = same_from_push (steps_of w) (take top steps) (byte_of g) (get_or steps top 0) (row ∙ take_more steps top 0 (omega arith)) in
      let whole = subst (λ (v : Walk h desk x). Halfway G (to_trail h v) (to_trail h p.rest) (held_in h us) (held_in h left)) last p.half in (
        byte,
        record {
          stack = w;
          rest = join (Walk.on Walk.stay g) p.rest;
          stacked = front ∙ sym (take-set-le top steps tail (get_or steps top 0) below);
          finished =
              steps_of_front g p.rest ∙ (λ i. byte i ∷ p.finished i) ∙ ap (λ (k : ℕ). take k (get_or steps top 0 ∷ drop (tail + 1) steps)) more
              ∙ ap (take (n - tail)) (sym (drop-set steps tail (get_or steps top 0) there));
          half =
              subst
              (λ z. Halfway G (to_trail h w) z (held_in h us) (held_in h left))
              (sym (trail_of_front g p.rest))
              (halfway_off G e.edge e.inside e.ends stuck whole);
          room = omega (arith, p.room);
          fits = omega (arith, p.fits);
          inside = start_within g;
          beyond = p.beyond;
        },
      )

  pub progress_off :
      {left steps : List ℕ} {top tail : ℕ} {x : Spot} → Progress left steps (top + 1) (tail + 1) x x → n ≤ length steps →
      degree h (held_in h left) x ≡ 0 →
      Progress left (set steps tail (get_or steps top 0)) top tail (origin x (get_or steps top 0)) (origin x (get_or steps top 0))
  progress_off {left} {steps} {top} {tail} {x} p long stuck =
      let k = last_step p.stack (omega (arith, ap length p.stacked, length-take-le (top + 1) steps (omega (arith, p.fits, p.room)))) in
      let (byte, after) = off_step p k.front k.step k.is long stuck in
      subst
      (λ z. Progress left (set steps tail (get_or steps top 0)) top tail z z)
      (sym (origin_of_step k.step) ∙ ap (origin x) byte)
      after
