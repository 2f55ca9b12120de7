use Rattle.std.proofs.Common.{◌≡◌, List, refl, sym, subst}
use Rattle.ch_graph.specs.Graph.{Graph}
use Rattle.ch_graph.specs.Hierarchy.{Hierarchy}
use Rattle.ch_laws.specs.Contraction.{Contraction, State, IsReached, IsOver, IsMade}
use Rattle.ch_overlay.specs.Overlay.{state_of}
use Rattle.ch_workers.specs.Built.{IsMadeBy}
use Rattle.ch_workers.proofs.finishing.built_of.Goals as goal

made_by : (graph : Graph) (log told : List Contraction) (state : State) (h : Hierarchy) → told ≡ log → IsReached graph log state → IsOver state → IsMade graph state h → IsMadeBy graph told h
made_by graph log told state h is reached over made =
    subst (λ (l : List Contraction). IsMadeBy graph l h) (sym is) (record { state = state; reached = reached; over = over; made = made })

pub returns : goal.returns
returns c =
    record {
      built = record {
        made = made_by c.args.ledger.graph c.args.ledger.log c.in-Ok.finished.log.items (state_of c.args.ledger.overlay) c.in-Ok.finished.hierarchy c.in-Ok.ensures.log c.requires.holds.reached c.requires.over c.in-Ok.ensures.made;
        right = c.in-Ok.ensures.right;
        account = rw c.in-Ok.ensures.log c.requires.account;
        lists = refl;
      };
      queue = refl;
    }
