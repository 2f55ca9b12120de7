-- Lawful contractions: one more after a run, and what a plan makes of a state.
use Rattle.std.proofs.Common.{ℕ, ◌≡◌, true, false, nat_eq, List, [], ◌∷◌, Option, Some, None, AllPairs, Contains, arith, refl, ◌∙◌, ap, subst, inl, inr}
use Rattle.std.proofs.lemmas.Bool.{cases_eq}
use Rattle.std.proofs.lemmas.Bool.Decides.{nat_tests}
use Rattle.ch_laws.specs.declared.shortcut.Shortcut.{Shortcut}
use Rattle.ch_laws.specs.Contraction.{StateArc, IsFor, NoShortcut, shortcut_arc, or_else}
use Rattle.ch_laws.specs.Theorems.{ReachesOn, PlanIsLawful}
use Rattle.ch_laws.specs.Orders.{run_push}
use Rattle.ch_laws.specs.Members.{pairs_first, pairs_later, contains_first, contains_later, contains_cases}

-- One more contraction

-- what is reached goes on
pub reaches_on : ReachesOn
reaches_on g log s e new reached step = record { start = reached.start; starts = reached.starts; run = run_push reached.run step }

-- The shortcuts of a list

-- the arc that a shortcut with middle v represents
abbrev arc_of_shortcut : ℕ → Shortcut → StateArc
arc_of_shortcut v p = record { cost = p.cost; middle = Some v }

-- at a pair that the first shortcut is for, and at one that it isn't for
at_first : (p : Shortcut) (put : List Shortcut) (v u w : ℕ) → IsFor p u w → shortcut_arc (p ∷ put) v u w ≡ Some (arc_of_shortcut v p)
at_first p put v u w joins =
    let from : nat_eq p.from u ≡ true = grind (arith, nat_tests, joins.0) in
    let to : nat_eq p.to w ≡ true = grind (arith, nat_tests, joins.1) in
    rw (from, to) refl

-- the same where it isn't
at_later : (p : Shortcut) (put : List Shortcut) (v u w : ℕ) → (IsFor p u w → ⊥) → shortcut_arc (p ∷ put) v u w ≡ shortcut_arc put v u w
at_later p put v u w apart = elim (cases_eq p.from u) [
  | inr other ↦
      let from : nat_eq p.from u ≡ false = grind (arith, nat_tests, other) in
      rw from refl
  | inl same ↦
      let from : nat_eq p.from u ≡ true = grind (arith, nat_tests, same) in
      let to : nat_eq p.to w ≡ false = elim (cases_eq p.to w) [
        | inl both ↦ absurd (apart (same, both))
        | inr other ↦ grind (arith, nat_tests, other)
      ] in
      rw (from, to) refl
]

-- a pair without shortcut has none there
pub no_shortcut_arc : (put : List Shortcut) (v u w : ℕ) → NoShortcut put u w → shortcut_arc put v u w ≡ None
no_shortcut_arc [] v u w none = refl
no_shortcut_arc (p ∷ put) v u w none =
    at_later p put v u w (none p (contains_first p put)) ∙ no_shortcut_arc put v u w (λ q among. none q (contains_later p put q among))

-- the pair of a shortcut has its arc
pub its_shortcut_arc : (put : List Shortcut) (v : ℕ) (q : Shortcut) → AllPairs (λ p q. IsFor p q.from q.to → ⊥) put → Contains put q → shortcut_arc put v q.from q.to ≡ Some (arc_of_shortcut v q)
its_shortcut_arc [] v q once among = absurd (omega (arith, among.1))
its_shortcut_arc (p ∷ put) v q once among = elim (contains_cases p put q among) [
  | inl same ↦ subst (λ (r : Shortcut). shortcut_arc (p ∷ put) v r.from r.to ≡ Some (arc_of_shortcut v r)) same (at_first p put v p.from p.to (refl, refl))
  | inr later ↦ at_later p put v q.from q.to (pairs_first (λ p q. IsFor p q.from q.to → ⊥) p put once q later) ∙ its_shortcut_arc put v q (pairs_later (λ p q. IsFor p q.from q.to → ⊥) p put once) later
]

-- A plan

-- so a plan with witnesses is a lawful contraction
pub plan_is_lawful : PlanIsLawful
plan_is_lawful bound s v put plan witnessed = record {
  plan = plan;
  nodes = refl;
  order = refl;
  placed = λ p among. ap (λ (o : Option StateArc). or_else o (s.arc p.from p.to)) (its_shortcut_arc put v p plan.once among);
  others = λ u w none. ap (λ (o : Option StateArc). or_else o (s.arc u w)) (no_shortcut_arc put v u w none);
  witnessed = witnessed;
}
