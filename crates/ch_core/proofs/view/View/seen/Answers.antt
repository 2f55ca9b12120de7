use Rattle.std.proofs.Common.{Some, ap, sym, subst, ◌∙◌}
use Rattle.ch_core.specs.World.{Standing, StandsIn, stands_at}
use Rattle.ch_core.specs.Keeping.{Sight, IsSight}
use Rattle.ch_core.proofs.Sights.{seen_sound}
use Rattle.ch_core.proofs.view.View.seen.Goals as goal

stands : (c : goal.In_ok-seen) → StandsIn c.args.self.now.view c.in_ok-seen.seen
stands c =
    ap (λ x. stands_at c.args.self.now.view x) c.in_ok-seen.ensures.node
    ∙ ap (λ (s : Sight). stands_at s.view c.args.node) (sym c.self.view_is)
    ∙ sym c.in-Some.ensures
    ∙ ap (λ (t : Standing). Some t) c.in_ok-seen.ensures.row

pub returns-clause-row : goal.returns-clause-row
returns-clause-row c = seen_sound c.args.self.now (subst (λ (s : Sight). IsSight s) c.self.view_is c.self.invariant) c.in_ok-seen.seen (stands c)
