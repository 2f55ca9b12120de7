use Rattle.std.proofs.Common.{◌∙◌, subst, sym}
use Rattle.ch_graph.specs.Hierarchy.{Hierarchy}
use Rattle.ch_query.specs.declared.side.Side.TheVariants.{Fall as falling}
use Rattle.ch_query.specs.Climb.{LeadsUp}
use Rattle.ch_query.proofs.ClimbLinks.{one_link}
use Rattle.ch_query.proofs.search.SearchOf.link_down.Goals as goal

pub returns : goal.returns
returns g c k leads =
    let own = subst (λ (h : Hierarchy). LeadsUp h falling c.args.foot c.args.head c.link_between-link.result) c.hierarchy.ensures c.link_between-link.ensures in
    one_link c.self.invariant.made own (subst (λ (h : Hierarchy). LeadsUp h falling c.args.foot c.args.head k) (sym c.self.view_is) leads)
