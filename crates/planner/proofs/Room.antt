-- What it says that lent memory is not refused. Assumes nothing.
use Rattle.std.proofs.Common.{◌≡◌, ℕ, ◌≤◌, Bool, true, false, length, Some, None, Option, refl, arith, leb-true}
use Rattle.std.proofs.lemmas.Bool.{and_parts}
use Rattle.house.specs.Rules.{or_else, unless}
use Rattle.house.specs.declared.refusal.Refusal.{Refusal}
use Rattle.planner.specs.Planning.{held, memory_rule}
use Rattle.planner.specs.declared.memory.Lent.{Lent}

-- no refusal of two, and a rule that is kept
both_none : (a b : Option Refusal) → or_else a b ≡ None → (a ≡ None) × (b ≡ None)
both_none None b e = (refl, e)
both_none (Some r) b e = absurd (let z : ◌≡◌ {A = ℕ} 0 1 = cc in omega arith)

rule_kept : (b : Bool) (e : Refusal) → unless b e ≡ None → b ≡ true
rule_kept true e z = refl
rule_kept false e z = absurd (let w : ◌≡◌ {A = ℕ} 0 1 = cc in omega arith)

pub record Room (m : Lent) : Type 0 where
  pub for_picks : 512 ≤ length m.picks.now
  pub for_lengths : 448 ≤ length m.lengths.now
  pub for_came : 448 ≤ length m.came.now
  pub for_steps : 25852 ≤ length m.steps.now
  pub for_uses : 12926 ≤ length m.uses.now

pub room_tells : (m : Lent) → memory_rule (held m) ≡ None → Room m
room_tells m e =
    let (p, rest) = both_none _ _ e in
    let (t, more) = both_none _ _ rest in
    let (s, u) = both_none _ _ more in
    let both = and_parts _ _ (rule_kept _ _ t) in
    record {
      for_picks = leb-true _ _ (rule_kept _ _ p);
      for_lengths = leb-true _ _ both.0;
      for_came = leb-true _ _ both.1;
      for_steps = leb-true _ _ (rule_kept _ _ s);
      for_uses = leb-true _ _ (rule_kept _ _ u);
    }
