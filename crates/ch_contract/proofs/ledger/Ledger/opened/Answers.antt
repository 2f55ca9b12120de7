use Rattle.std.proofs.Common.{List, [], arith, sym, subst, refl}
use Rattle.ch_graph.specs.Graph.{Graph}
use Rattle.ch_graph.specs.Limits.{IsGraph}
use Rattle.ch_laws.specs.Contraction.{Contraction, IsReached, Run}
use Rattle.ch_overlay.specs.Overlay.{state_of}
use Rattle.ch_contract.proofs.ledger.Ledger.opened.Goals as goal

pub invariant_of-result : goal.invariant_of-result
invariant_of-result c =
    let overlay = c.args.overlay in
    let is_graph : IsGraph c.args.graph = subst (λ (g : Graph). IsGraph g) c.graph.view_is c.graph.invariant.0 in
    let reached : IsReached c.args.graph [] (state_of overlay) = record { start = state_of overlay; starts = c.requires.start; run = Run.rest } in (
      record {
        graph = is_graph;
        overlay = c.nodes-nodes.ensures.holds;
        bound = c.requires.bound;
        reached = subst (λ (log : List Contraction). IsReached c.args.graph log (state_of overlay)) (sym c.in_ok-log.ensures.items) reached;
      },
      omega (arith, c.nodes-nodes.ensures.count, c.in_ok-log.ensures.capacity),
    )

pub returns : goal.returns
returns c = record {
  graph = refl;
  log = c.in_ok-log.ensures.items;
  start = c.requires.start;
  versions = c.requires.versions;
}
