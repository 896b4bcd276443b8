use Rattle.std.proofs.Common.{◌≡◌, ◌⊎◌, Some, sym, refl, subst, inl, inr}
use Rattle.aisle.specs.Costs.{nothing, from_front, from_back, both_ends}
use Rattle.aisle.specs.Values.{effect_of}
use Rattle.aisle.specs.declared.kinds.Effect.{Effect}
use Rattle.classes.specs.Classes.{Class, even_back, even_front, even_two, nothing_yet, two_each, transition}
use Rattle.classes.specs.Values.{class_of}
use Rattle.classes.specs.declared.class.Class as code
use Rattle.classes.specs.declared.class.Class.TheVariants.{EvenBack, EvenFront, EvenTwo, NothingYet}
use Rattle.classes.proofs.going.over_both.Goals as goal

-- a class that each of the four effects leads to two pieces
at_both :
    (c : Class) (e : Effect) → Some even_two ≡ transition c two_each nothing → Some even_two ≡ transition c two_each from_front → Some even_two ≡ transition c two_each from_back →
    Some even_two ≡ transition c two_each both_ends → (e ≡ Effect.ThroughOnce → ⊥) → (e ≡ Effect.ThroughTwice → ⊥) → Some even_two ≡ transition c two_each (effect_of e)
at_both c Effect.Nothing n f b o p q = n
at_both c Effect.FromFront n f b o p q = f
at_both c Effect.FromBack n f b o p q = b
at_both c Effect.BothEnds n f b o p q = o
at_both c Effect.ThroughOnce n f b o p q = absurd (p refl)
at_both c Effect.ThroughTwice n f b o p q = absurd (q refl)

-- each of the four classes is one
in_two : (c : code.Class) (e : Effect) → (c ≡ EvenBack) ⊎ ((c ≡ EvenFront) ⊎ ((c ≡ EvenTwo) ⊎ (c ≡ NothingYet)))
    → (e ≡ Effect.ThroughOnce → ⊥) → (e ≡ Effect.ThroughTwice → ⊥) → Some even_two ≡ transition (class_of c) two_each (effect_of e)
in_two c e (inl s) p q = rw s (at_both even_back e refl refl refl refl p q)
in_two c e (inr (inl s)) p q = rw s (at_both even_front e refl refl refl refl p q)
in_two c e (inr (inr (inl s))) p q = rw s (at_both even_two e refl refl refl refl p q)
in_two c e (inr (inr (inr s))) p q = rw s (at_both nothing_yet e refl refl refl refl p q)

pub returns-in_default-effect : goal.returns-in_default-effect
returns-in_default-effect c = in_two c.args.class c.args.effect c.in-EvenBack.is c.in_default-effect.not-ThroughOnce c.in_default-effect.not-ThroughTwice
