-- A graph with each arc turned round, and a hierarchy with each link turned round.
use Rattle.std.specs.Prelude.{◌≡◌, ◌↔◌, map, Contains}
use Rattle.ch_graph.specs.declared.link.Link.{Link}
use Rattle.ch_graph.specs.declared.road.Road.{Road}
use Rattle.ch_graph.specs.Graph.{Graph}
use Rattle.ch_graph.specs.Hierarchy.{Hierarchy}

-- an arc with its ends exchanged
abbrev pub turned_road : Road → Road
turned_road r = record { from = r.to; to = r.from; weight = r.weight }

-- the graph of the same nodes whose arcs are those of another one with their ends exchanged
abbrev pub turned_graph : Graph → Graph
turned_graph g = record { nodes = g.nodes; arcs = map turned_road g.arcs }

-- A link with its ends exchanged. Its middle stays, so its halves are those of the link, exchanged and turned too.
abbrev pub turned_link : Link → Link
turned_link l = record { from = l.to; to = l.from; cost = l.cost; middle = l.middle }

-- The second hierarchy is the first one with each link turned: all else is the same.
pub record IsTurned (h t : Hierarchy) : Type 0 where
  pub version : t.version ≡ h.version
  pub ranks : t.ranks ≡ h.ranks
  pub bound : t.bound ≡ h.bound
  pub links : (l : Link) → Contains t.links l ↔ Contains h.links (turned_link l)
