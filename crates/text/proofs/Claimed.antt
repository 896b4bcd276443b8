-- The checker reads back from a claim the house, the list and the way that it was made of, so it says of a tour that it is one.
-- Assumes nothing.
use Rattle.std.proofs.Common.{◌≡◌, ℕ, ◌*◌, List, [], ◌∷◌, length, None, Ok, sym, refl, subst, arith, length-append}
use Rattle.std.proofs.lemmas.List.{take_at, drop_at}
use Rattle.house.specs.Bounds.{picks_of}
use Rattle.house.specs.Reading.{house_in, list_in, count_in, claimed_list, claimed_way, claim_refusal_of}
use Rattle.house.specs.Promise.{Accepted}
use Rattle.house.proofs.Accept.{reading_is_exact, claims_are_exact}
use Rattle.walk.specs.Walk.{steps_of, Tour, length_of}
use Rattle.walk.specs.Checking.{check_of}
use Rattle.walk.specs.Promise.{Says}
use Rattle.walk.proofs.Says.{checking_is_exact}
use Rattle.walk.specs.declared.verdict.Verdict.TheVariants.{Way}
use Rattle.text.specs.Claims.{claim_bytes}
use Rattle.text.specs.Promise.{ClaimsOfToursHold}

-- what is read back from the claim of a house, its list and a way
module _ (m l w : ℕ) (list way : List ℕ) (a : Accepted (house_in (m ∷ l ∷ w ∷ list)) list) where
  abbrev made : List ℕ
  made = claim_bytes (m ∷ l ∷ w ∷ list) way

  count_back : count_in made ≡ length (picks_of list)
  count_back = omega (arith, a.few)

  twice_count : length list ≡ 2 * count_in made
  twice_count = omega (arith, a.whole, count_back)

  list_back : claimed_list made ≡ list
  list_back = take_at list way (2 * count_in made) twice_count

  way_back : claimed_way made ≡ way
  way_back = drop_at list way (2 * count_in made) twice_count

  unrefused : claim_refusal_of made ≡ None
  unrefused = (claims_are_exact made).2 (subst (Accepted (house_in made)) (sym list_back) a) (omega (arith, twice_count, length-append list way))

tour_holds : (file : List ℕ) → Accepted (house_in file) (list_in file) → (t : Tour (house_in file) (picks_of (list_in file))) → check_of (claim_bytes file (steps_of t.walk)) ≡ Ok (Way (length_of t))
tour_holds [] a t = absurd (omega (arith, a.some_way))
tour_holds (m ∷ []) a t = absurd (omega (arith, a.some_way))
tour_holds (m ∷ l ∷ []) a t = absurd (omega (arith, a.some_way))
tour_holds (m ∷ l ∷ w ∷ list) a t =
    let way = steps_of t.walk in
    let c = claim_bytes (m ∷ l ∷ w ∷ list) way in
    ((checking_is_exact c).1 (unrefused m l w list way a) (Ok (Way (length_of t)))).1
    (subst (λ (bs : List ℕ). Says (house_in c) (picks_of bs) (claimed_way c) (Ok (Way (length_of t)))) (sym (list_back m l w list way a))
    (subst (λ (bs : List ℕ). Says (house_in c) (picks_of list) bs (Ok (Way (length_of t)))) (sym (way_back m l w list way a)) (Says.tour t refl refl)))

pub claims_of_tours_hold : ClaimsOfToursHold
claims_of_tours_hold file e t = tour_holds file ((reading_is_exact file).1 e) t
