-- The moves are all: where passages lead on from a class, the two are listed. Assumes nothing.
use Rattle.std.proofs.Common.{◌≡◌, ℕ, ◌<◌, List, length, get_or, Some, None, refl, arith}
use Rattle.aisle.specs.Costs.{Effect, nothing, from_front, from_back, both_ends, through_once, through_twice}
use Rattle.classes.specs.Classes.{
  Class,
  odd_odd,
  even_back,
  even_front,
  even_one,
  even_two,
  nothing_yet,
  closed,
  Passage,
  none,
  one_each,
  two_front,
  two_back,
  two_each,
  transition,
}
use Rattle.partial.specs.Table.{moves}

-- a class and passages stand at a place of a list
pub record Listed (c : Class) (p : Passage) (ms : List (Class × Passage)) : Type 0 where
  pub place : ℕ
  pub inside : place < length ms
  pub is : get_or ms place (c, p) ≡ (c, p)

-- passages that lead nowhere, whatever the effect
stuck :
    (c : Class) (p : Passage) {A : Type 0} (e : Effect) {d : Class} → transition c p nothing ≡ None → transition c p from_front ≡ None → transition c p from_back ≡ None →
    transition c p both_ends ≡ None → transition c p through_once ≡ None → transition c p through_twice ≡ None → transition c p e ≡ Some d → A
stuck c p e {d} n f b t o w leads = absurd (let z : ◌≡◌ {A = ℕ} 0 1 = cc (nowhere e) in omega arith)
  where
    nowhere : (e : Effect) → transition c p e ≡ None
    nowhere nothing = n
    nowhere from_front = f
    nowhere from_back = b
    nowhere both_ends = t
    nowhere through_once = o
    nowhere through_twice = w

pub moves_are_all : (c : Class) (p : Passage) (e : Effect) {d : Class} → transition c p e ≡ Some d → Listed c p moves
moves_are_all odd_odd none e leads = stuck odd_odd none e refl refl refl refl refl refl leads
moves_are_all odd_odd one_each e leads = record { place = 0; inside = omega arith; is = refl }
moves_are_all odd_odd two_front e leads = stuck odd_odd two_front e refl refl refl refl refl refl leads
moves_are_all odd_odd two_back e leads = stuck odd_odd two_back e refl refl refl refl refl refl leads
moves_are_all odd_odd two_each e leads = stuck odd_odd two_each e refl refl refl refl refl refl leads
moves_are_all even_back none e leads = record { place = 1; inside = omega arith; is = refl }
moves_are_all even_back one_each e leads = stuck even_back one_each e refl refl refl refl refl refl leads
moves_are_all even_back two_front e leads = stuck even_back two_front e refl refl refl refl refl refl leads
moves_are_all even_back two_back e leads = record { place = 2; inside = omega arith; is = refl }
moves_are_all even_back two_each e leads = record { place = 3; inside = omega arith; is = refl }
moves_are_all even_front none e leads = record { place = 4; inside = omega arith; is = refl }
moves_are_all even_front one_each e leads = stuck even_front one_each e refl refl refl refl refl refl leads
moves_are_all even_front two_front e leads = record { place = 5; inside = omega arith; is = refl }
moves_are_all even_front two_back e leads = stuck even_front two_back e refl refl refl refl refl refl leads
moves_are_all even_front two_each e leads = record { place = 6; inside = omega arith; is = refl }
moves_are_all even_one none e leads = record { place = 7; inside = omega arith; is = refl }
moves_are_all even_one one_each e leads = stuck even_one one_each e refl refl refl refl refl refl leads
moves_are_all even_one two_front e leads = record { place = 8; inside = omega arith; is = refl }
moves_are_all even_one two_back e leads = record { place = 9; inside = omega arith; is = refl }
moves_are_all even_one two_each e leads = record { place = 10; inside = omega arith; is = refl }
moves_are_all even_two none e leads = stuck even_two none e refl refl refl refl refl refl leads
moves_are_all even_two one_each e leads = stuck even_two one_each e refl refl refl refl refl refl leads
moves_are_all even_two two_front e leads = stuck even_two two_front e refl refl refl refl refl refl leads
moves_are_all even_two two_back e leads = stuck even_two two_back e refl refl refl refl refl refl leads
moves_are_all even_two two_each e leads = record { place = 11; inside = omega arith; is = refl }
moves_are_all nothing_yet none e leads = record { place = 12; inside = omega arith; is = refl }
moves_are_all nothing_yet one_each e leads = stuck nothing_yet one_each e refl refl refl refl refl refl leads
moves_are_all nothing_yet two_front e leads = record { place = 13; inside = omega arith; is = refl }
moves_are_all nothing_yet two_back e leads = record { place = 14; inside = omega arith; is = refl }
moves_are_all nothing_yet two_each e leads = record { place = 15; inside = omega arith; is = refl }
moves_are_all closed none e leads = record { place = 16; inside = omega arith; is = refl }
moves_are_all closed one_each e leads = stuck closed one_each e refl refl refl refl refl refl leads
moves_are_all closed two_front e leads = stuck closed two_front e refl refl refl refl refl refl leads
moves_are_all closed two_back e leads = stuck closed two_back e refl refl refl refl refl refl leads
moves_are_all closed two_each e leads = stuck closed two_each e refl refl refl refl refl refl leads
