-- The classes and passages that the code's values stand for. Assumes nothing: these are definitions.
use Rattle.classes.specs.Classes.{Class, odd_odd, even_back, even_front, even_one, even_two, nothing_yet, closed, Passage, none, one_each, two_front, two_back, two_each}
use Rattle.classes.specs.declared.class.Class as code_class
use Rattle.classes.specs.declared.class.Class.TheVariants.{OddOdd, EvenBack, EvenFront, EvenOne, EvenTwo, NothingYet, Closed}
use Rattle.classes.specs.declared.class.Passage as code_passage
use Rattle.classes.specs.declared.class.Passage.TheVariants.{None, OneEach, TwoFront, TwoBack, TwoEach}

abbrev pub class_of : code_class.Class → Class
class_of OddOdd = odd_odd
class_of EvenBack = even_back
class_of EvenFront = even_front
class_of EvenOne = even_one
class_of EvenTwo = even_two
class_of NothingYet = nothing_yet
class_of Closed = closed

abbrev pub passage_of : code_passage.Passage → Passage
passage_of None = none
passage_of OneEach = one_each
passage_of TwoFront = two_front
passage_of TwoBack = two_back
passage_of TwoEach = two_each
