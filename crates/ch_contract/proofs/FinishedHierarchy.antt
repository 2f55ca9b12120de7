-- The hierarchy of a ledger whose nodes are all contracted.
use Rattle.std.proofs.Common.{◌≡◌, Ok, Err}
use Rattle.ch_cost.specs.declared.cost.Cost.{Cost}
use Rattle.ch_graph.specs.Limits.{bound_of}
use Rattle.ch_graph.specs.declared.version.Version.TheVariants.{Two}
use Rattle.ch_graph.specs.Hierarchy.{Hierarchy, IsWellMade, hierarchy_of}
use Rattle.ch_laws.specs.Contraction.{IsOver, IsMade}
use Rattle.ch_laws.specs.Theorems.{AlwaysRight, AlwaysWellMade}
use Rattle.ch_overlay.specs.Overlay.{state_of}
use Rattle.ch_contract.specs.Ledger.{Ledger, IsLedger}
use Rattle.ch_contract.specs.Finish.{AreParts, HasNodesLeft, IsMaking}
use Rattle.ch_contract.specs.declared.error.FinishError.{FinishError}
use Rattle.ch_contract.specs.declared.parts.RanksAndLinks.{RanksAndLinks}
use Rattle.ch_contract.proofs.LinksOfRows.{made_of_parts}

pub over-leaves_none : (l : Ledger) → IsOver (state_of l.overlay) → HasNodesLeft l → ⊥
over-leaves_none l over left = left.1.waits (over left.0 left.1.in_range)

not_refused : (h : Hierarchy) (e : FinishError) → Ok h ≡ Err e → ⊥
not_refused h e is = cc

abbrev hierarchy : RanksAndLinks → Cost → Hierarchy
hierarchy parts bound = hierarchy_of Two parts.ranks.items parts.links.items bound

-- the hierarchy of the parts is well made, and it is what comes of the ledger
pub finished : AlwaysRight → AlwaysWellMade → (l : Ledger) (parts : RanksAndLinks) (bound : Cost) → IsLedger l → IsOver (state_of l.overlay)
    → AreParts l.overlay parts → bound ≡ bound_of l.graph → IsWellMade (hierarchy parts bound) × IsMaking l (Ok (hierarchy parts bound))
finished always_right always_well_made l parts bound is over are bound_is =
    let h = hierarchy parts bound in
    let made : IsMade l.graph (state_of l.overlay) h =
    made_of_parts l.overlay l.graph parts.ranks.items parts.links.items bound is.overlay over are.ranks are.links bound_is in (
      always_well_made l.graph l.log (state_of l.overlay) h is.graph is.reached over made,
      record {
        made = made;
        right = always_right l.graph l.log (state_of l.overlay) h is.graph is.reached over made;
        left = (λ e. absurd (not_refused h _ e), λ left. absurd (over-leaves_none l over left));
      },
    )
