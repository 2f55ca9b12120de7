-- A change that was planned is a lawful step from the state that the rows show.
use Rattle.std.proofs.Common.{ℕ, ◌≡◌, ◌<◌, List, length, map, drop, ap, sym, subst, refl}
use Rattle.ch_cost.specs.declared.cost.Cost.{Cost}
use Rattle.ch_laws.specs.declared.shortcut.Shortcut.{Shortcut}
use Rattle.ch_laws.specs.Contraction.{State, Contraction, IsWitnessed, Puts, Step, contracted}
use Rattle.ch_laws.specs.Rows.{Row}
use Rattle.ch_laws.specs.Theorems.{PlanIsLawful}
use Rattle.ch_overlay.specs.Overlay.{Overlay, state_of}
use Rattle.ch_overlay.specs.Change.{Change, IsChange}
use Rattle.ch_overlay.specs.Ranges.{pairs-map}

-- the log's entry of a change that puts these shortcuts in
unfoldable pub log_entry : Overlay → List Shortcut → Change → Contraction
log_entry o put c = record { node = c.node; rank = length o.order; neighbours = map (λ (a : ℕ × Row). a.0) (drop 1 c.rows); shortcuts = length put }

-- the step to the state that the change makes
pub lawful_step : PlanIsLawful → (bound : Cost) (o : Overlay) (put : List Shortcut) (c : Change) (new : State) → o.bound ≡ bound → IsWitnessed o.bound (state_of o) c.node put
    → IsChange o put c → new ≡ contracted (state_of o) c.node put → Step bound (state_of o) (log_entry o put c) new
unfolding log_entry
lawful_step plan_is_lawful bound o put c new bound_is witnessed planned made =
    let others_is : drop 1 c.rows ≡ planned.others = ap (drop 1) planned.rows in
    let puts_it : Puts o.bound (state_of o) c.node put (contracted (state_of o) c.node put) = plan_is_lawful o.bound (state_of o) c.node put planned.plan witnessed in
    let by_bound : Puts bound (state_of o) c.node put (contracted (state_of o) c.node put) = subst (λ (b : Cost). Puts b (state_of o) c.node put (contracted (state_of o) c.node put)) bound_is puts_it in
    record {
      put = put;
      puts = subst (λ (s : State). Puts bound (state_of o) c.node put s) (sym made) by_bound;
      rank = refl;
      shortcuts = refl;
      rising = rw others_is (pairs-map (λ x y. x < y) (λ (a : ℕ × Row). a.0) planned.others planned.rising);
      neighbours = λ x. rw others_is (planned.neighbours x);
    }
