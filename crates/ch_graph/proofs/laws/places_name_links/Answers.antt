use Rattle.ch_graph.proofs.LinksByPlaces.{same_links}
use Rattle.ch_graph.proofs.laws.places_name_links.Goals as goal

pub returns : goal.returns
returns c = same_links
