-- The ranks and the links that the rows of a ledger come to, and the hierarchy of both. But for HasNodesLeft and IsFinish,
-- contracts of private functions alone cite it.
use Rattle.std.specs.Prelude.{ℕ, ◌≡◌, ◌<◌, ◌≤◌, ◌↔◌, List, ◌++◌, length, map, Some, Result, Err, IfOk, IfErr, IsErrOf, AllPairs, slice_index}
use Rattle.std.specs.List.{flat_map, range_with_len}
use Rattle.std.specs.List.Sorted.{IsPermutation}
use Rattle.ch_graph.specs.declared.link.Link.{Link}
use Rattle.ch_graph.specs.Hierarchy.{Hierarchy, IsRight}
use Rattle.ch_laws.specs.declared.entry.Entry.{Entry}
use Rattle.ch_laws.specs.Contraction.{IsAlive, IsMade}
use Rattle.ch_laws.specs.Rows.{Row}
use Rattle.ch_overlay.specs.Overlay.{Overlay, row_at, state_of}
use Rattle.ch_contract.specs.Ledger.{Ledger}
use Rattle.ch_contract.specs.declared.error.FinishError.{FinishError}
use Rattle.ch_contract.specs.declared.error.FinishError.TheVariants.{NodesLeft}
use Rattle.ch_contract.specs.declared.finish.Finished.{Finished}
use Rattle.ch_contract.specs.declared.parts.RanksAndLinks.{RanksAndLinks}

-- some node of the ledger isn't contracted
abbrev pub HasNodesLeft : Ledger → Type 0
HasNodesLeft b = (x : ℕ) × IsAlive (state_of b.overlay) x

-- the rank of each node, as its row has it
pub record AreRanks (o : Overlay) (ranks : List ℕ) : Type 0 where
  pub count : length ranks ≡ length o.rows
  pub each : (x : ℕ) → x < length o.rows → (row_at o.rows x).rank ≡ Some (slice_index ranks x)

-- the links of an entry of the row of x: out of x, and into it
abbrev pub link_out : ℕ → Entry → Link
link_out x e = record { from = x; to = e.other; cost = e.cost; middle = e.middle }

abbrev pub link_in : ℕ → Entry → Link
link_in x e = record { from = e.other; to = x; cost = e.cost; middle = e.middle }

abbrev pub row_links : Row → ℕ → List Link
row_links r x = map (link_out x) r.out ++ map (link_in x) r.inn

-- the links of the rows of the first nodes
abbrev pub links_below : List Row → ℕ → List Link
links_below rows n = flat_map (λ x. row_links (row_at rows x) x) (range_with_len 0 n)

-- the links of all rows, by their ends
pub record AreLinks (o : Overlay) (links : List Link) : Type 0 where
  pub all : IsPermutation (links_below o.rows (length o.rows)) links
  pub no_later : AllPairs (λ a b. (a.from ≤ b.from) × (a.from ≡ b.from → a.to ≤ b.to)) links

-- both
pub record AreParts (o : Overlay) (parts : RanksAndLinks) : Type 0 where
  pub ranks : AreRanks o parts.ranks.items
  pub links : AreLinks o parts.links.items

-- The hierarchy of a ledger is made of its state and right for its graph. It is refused with NodesLeft exactly where a node
-- isn't contracted.
pub record IsMaking (l : Ledger) (r : Result Hierarchy FinishError) : Type 0 where
  pub made : IfOk r (IsMade l.graph (state_of l.overlay))
  pub right : IfOk r (IsRight l.graph)
  pub left : (r ≡ Err NodesLeft) ↔ HasNodesLeft l

-- The same beside the log and the rows, or beside the ledger as it was.
pub record IsFinish (l : Ledger) (r : Result Finished (Ledger × FinishError)) : Type 0 where
  pub made : IfOk r (λ f. IsMade l.graph (state_of l.overlay) f.hierarchy)
  pub right : IfOk r (λ f. IsRight l.graph f.hierarchy)
  pub log : IfOk r (λ f. f.log.items ≡ l.log)
  pub rows : IfOk r (λ f. f.rows ≡ l.overlay)
  pub left : IsErrOf r (l, NodesLeft) ↔ HasNodesLeft l
  pub back : IfErr r (λ refused. refused.0 ≡ l)
