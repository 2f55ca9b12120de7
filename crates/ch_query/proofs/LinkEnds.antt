-- The ends of links on either side.
use Rattle.std.proofs.Common.{ℕ, ◌<◌, length, Contains}
use Rattle.std.proofs.lemmas.List.Elements.{All-contains, Contains-get_or}
use Rattle.ch_graph.specs.Hierarchy.{Hierarchy, IsWellMade, IsLinkWellMade}
use Rattle.ch_query.specs.declared.side.Side.{Side}
use Rattle.ch_query.specs.declared.side.Side.TheVariants.{Rise, Fall}
use Rattle.ch_query.specs.Places.{link_at}
use Rattle.ch_query.specs.Climb.{foot_at, head_at}

pub link-among : (h : Hierarchy) {k : ℕ} → k < length h.links → Contains h.links (link_at h k)
link-among h {k} within = Contains-get_or h.links k _ within

pub link-made : {h : Hierarchy} → IsWellMade h → {k : ℕ} → k < length h.links → IsLinkWellMade h (link_at h k)
link-made {h} made {k} within = All-contains (IsLinkWellMade h) h.links (link_at h k) made.links (link-among h within)

pub foot_in : {h : Hierarchy} → IsWellMade h → (side : Side) {k : ℕ} → k < length h.links → foot_at h side k < length h.ranks
foot_in made Rise within = (link-made made within).from_in
foot_in made Fall within = (link-made made within).to_in

pub head_in : {h : Hierarchy} → IsWellMade h → (side : Side) {k : ℕ} → k < length h.links → head_at h side k < length h.ranks
head_in made Rise within = (link-made made within).to_in
head_in made Fall within = (link-made made within).from_in
