-- Rows and the links of a hierarchy.
use Rattle.std.specs.Prelude.{ℕ, ◌≡◌, ◌<◌, List, Some, length, All, Contains}
use Rattle.ch_graph.specs.declared.link.Link.{Link}
use Rattle.ch_laws.specs.declared.entry.Entry.{Entry}
use Rattle.ch_laws.specs.Rows.{Row, row_at}
use Rattle.ch_overlay.specs.Overlay.{Overlay, state_of}

-- the link between two nodes that an entry describes
abbrev pub link_of : ℕ → ℕ → Entry → Link
link_of x y e = record { from = x; to = y; cost = e.cost; middle = e.middle }

-- that of an entry of the row of x, out of x or into it
abbrev pub link_out : ℕ → Entry → Link
link_out x e = link_of x e.other e

abbrev pub link_in : ℕ → Entry → Link
link_in x e = link_of e.other x e

-- each entry of the row of x is one of these links
pub record IsLinked (links : List Link) (x : ℕ) (r : Row) : Type 0 where
  pub out : All (λ e. Contains links (link_out x e)) r.out
  pub inn : All (λ e. Contains links (link_in x e)) r.inn

-- each entry of each row is
abbrev pub AreLinked : List Link → Overlay → Type 0
AreLinked links o = (x : ℕ) → x < length o.rows → IsLinked links x (row_at o.rows x)

-- the entry for a node that describes a link
abbrev pub entry_of : ℕ → Link → Entry
entry_of x l = record { other = x; cost = l.cost; middle = l.middle }

-- the link is an arc of the state that the rows show
abbrev pub IsArc : Overlay → Link → Type 0
IsArc o l = (state_of o).arc l.from l.to ≡ Some (record { cost = l.cost; middle = l.middle })
