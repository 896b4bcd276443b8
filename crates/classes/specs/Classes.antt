-- The classes of beginnings of a tour, the passages from one aisle to the next, and the rule by which they lead from class to class.
-- Assumes nothing: these are definitions.
use Rattle.std.specs.Prelude.{◌≡◌, ℕ, ◌+◌, ◌-◌, ◌%◌, min, Bool, true, false, ◌&&◌, Some, None, Option, ◌==◌, nat_le, nat_lt}
use Rattle.uses.specs.Uses.{pick}
use Rattle.aisle.specs.Costs.{Effect, effect_front, effect_back, effect_joins}

-- what a beginning, the uses up to an aisle, leaves at that aisle's front and back: odd uses at both, in one piece; even uses at the back only,
-- or at the front only; even uses at both, in one piece or in two; nothing used yet; or a closed tour, after which nothing more is used
pub data Class : Type 0 where
  odd_odd : Class
  even_back : Class
  even_front : Class
  even_one : Class
  even_two : Class
  nothing_yet : Class
  closed : Class
  deriving Discrete as class_dec

abbrev pub is_closed : Class → Bool
is_closed odd_odd = false
is_closed even_back = false
is_closed even_front = false
is_closed even_one = false
is_closed even_two = false
is_closed nothing_yet = false
is_closed closed = true

-- 0, 1 or 2: what is at the front, and what is at the back, by parity and whether there is anything
abbrev pub class_front : Class → ℕ
class_front odd_odd = 1
class_front even_back = 0
class_front even_front = 2
class_front even_one = 2
class_front even_two = 2
class_front nothing_yet = 0
class_front closed = 0

abbrev pub class_back : Class → ℕ
class_back odd_odd = 1
class_back even_back = 2
class_back even_front = 0
class_back even_one = 2
class_back even_two = 2
class_back nothing_yet = 0
class_back closed = 0

-- 1 where front and back are linked, else 0
abbrev pub class_joins : Class → ℕ
class_joins odd_odd = 1
class_joins even_back = 0
class_joins even_front = 0
class_joins even_one = 1
class_joins even_two = 0
class_joins nothing_yet = 0
class_joins closed = 0

-- two numbers of the same parity, both positive or neither
pub record Alike (m n : ℕ) : Type 0 where
  pub parity : m % 2 ≡ n % 2
  pub positive : min 1 m ≡ min 1 n

-- the passages that are used from an aisle to the next
pub data Passage : Type 0 where
  none : Passage
  one_each : Passage
  two_front : Passage
  two_back : Passage
  two_each : Passage

-- the uses of the front passage
abbrev pub passage_front : Passage → ℕ
passage_front none = 0
passage_front one_each = 1
passage_front two_front = 2
passage_front two_back = 0
passage_front two_each = 2

-- the uses of the back passage
abbrev pub passage_back : Passage → ℕ
passage_back none = 0
passage_back one_each = 1
passage_back two_front = 0
passage_back two_back = 2
passage_back two_each = 2

abbrev pub even : ℕ → Bool
even n = n % 2 == 0

-- 0, 1 or 2: as even or odd as n, and 0 only where n is
abbrev pub small : ℕ → ℕ
small n = min n (2 - n % 2)

-- from f at the front and b at the back, linked if j is 1, i uses of the front passage and k of the back passage lead on:
-- both ends get even, and what is at an end goes on over its passage, or is linked with the other end and goes on there
abbrev pub leads_on : ℕ → ℕ → ℕ → ℕ → ℕ → Bool
leads_on f b j i k = even (f + i) && even (b + k) && nat_le (min 1 f) (i + j) && nat_le (min 1 b) (k + min i j)

-- a tour may end here: even uses, and one piece
abbrev pub may_close : ℕ → ℕ → ℕ → Bool
may_close f b j = even f && even b && nat_le (min 1 (min f b)) j

abbrev pub has_numbers : ℕ → ℕ → ℕ → Class → Bool
has_numbers f b j c = class_front c == f && class_back c == b && class_joins c == j

-- c if it has these numbers, else the other
abbrev pub class_or : ℕ → ℕ → ℕ → Class → Option Class → Option Class
class_or f b j c other = pick (has_numbers f b j c) (Some c) other

-- the class with these numbers
abbrev pub class_of : ℕ → ℕ → ℕ → Option Class
class_of f b j =
    class_or f b j odd_odd (class_or f b j even_back (class_or f b j even_front
    (class_or f b j even_one (class_or f b j even_two (class_or f b j nothing_yet None)))))

-- the uses of the passages, and of the aisle at its ends
abbrev pub new_uses : Passage → Effect → ℕ
new_uses p e = passage_front p + passage_back p + effect_front e + effect_back e

-- neither a passage nor the aisle is used
abbrev pub idle : Passage → Effect → Bool
idle p e = new_uses p e == 0

abbrev pub begun : Class → Bool
begun c = nat_lt 0 (class_front c + class_back c)

-- the class that a tour may end in
abbrev pub closes : Class → Bool
closes c = may_close (class_front c) (class_back c) (class_joins c)

-- over the passages into the next aisle: the passages and the aisle's uses are what is at its ends,
-- and these are linked over both passages, or within the aisle
abbrev pub into_aisle : Class → Passage → Effect → Option Class
into_aisle c p e =
    class_of (small (passage_front p + effect_front e)) (small (passage_back p + effect_back e))
    (min 1 (min (passage_back p) (min (passage_front p) (class_joins c)) + effect_joins e))

-- from a class that is not closed
abbrev pub go_on : Class → Passage → Effect → Option Class
go_on c p e =
    pick (idle p e && begun c && closes c) (Some closed)
    (pick (leads_on (class_front c) (class_back c) (class_joins c) (passage_front p) (passage_back p)) (into_aisle c p e) None)

-- the class at the next aisle, by the passages to it and the effect of its use, where they lead on from a class
abbrev pub transition : Class → Passage → Effect → Option Class
transition c p e = pick (is_closed c) (pick (idle p e) (Some closed) None) (go_on c p e)

-- the class at aisle 0, where the desk, at the front, counts as two uses
abbrev pub opening : Effect → Option Class
opening e = class_of (small (2 + effect_front e)) (small (effect_back e)) (effect_joins e)
