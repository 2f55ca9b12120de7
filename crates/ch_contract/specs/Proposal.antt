-- Proposals to contract a node: the rows that they rest on, and a verdict for each pair of neighbours.
use Rattle.std.specs.Prelude.{ℕ, ◌≡◌, ◌≢◌, ◌↔◌, ◌⊎◌, ◌<◌, ◌≤◌, ◌*◌, ◌^◌, List, ◌∷◌, length, map, Option, Some, None, Result, Err, IfOk, All, AllPairs, Contains}
use Rattle.ch_cost.specs.declared.cost.Cost.{Cost}
use Rattle.ch_cost.specs.Cost.{IsWithin}
use Rattle.ch_laws.specs.declared.shortcut.Shortcut.{Shortcut}
use Rattle.ch_laws.specs.Contraction.{NoShortcut}
use Rattle.ch_laws.specs.declared.entry.Entry.{Entry}
use Rattle.ch_laws.specs.Rows.{Row, Lists}
use Rattle.ch_laws.specs.Verdicts.{HasWay, ListsThrough, AreVerdicts}
use Rattle.ch_overlay.specs.declared.source.Seen.{Seen}
use Rattle.ch_overlay.specs.Source.{row_in, row_of, IsBound, IsSeenRow}
use Rattle.ch_witness.specs.FirstPlaces.{first_places}
use Rattle.ch_contract.specs.Listed.{AreNamed}
use Rattle.ch_contract.specs.declared.error.ProposeError.{ProposeError}
use Rattle.ch_contract.specs.declared.error.ProposeError.TheVariants.{OutOfMemory, Unseen, Contracted}
use Rattle.ch_contract.specs.declared.facts.Facts.{Facts}
use Rattle.ch_contract.specs.declared.verdict.Verdict.{Verdict}
use Rattle.ch_contract.specs.declared.verdict.Verdict.TheVariants as verdicts

-- the bound that it was made under, the node, the rows that it rests on, the node's first, and the shortcuts that it
-- would put in
pub record Proposal : Type 0 where
  pub bound : Cost
  pub node : ℕ
  pub rests_on : List Seen
  pub shortcuts : List Shortcut

-- by the ends, the first end before the second
abbrev pub ShortcutBefore : Shortcut → Shortcut → Type 0
ShortcutBefore p q = (p.from < q.from) ⊎ ((p.from ≡ q.from) × (p.to < q.to))

-- The rows are those of the node and then of the nodes that the pairs name, each once, at its first place, and no other.
pub record IsListing (p : Proposal) (row : Row) : Type 0 where
  pub named : List ℕ
  pub by_pairs : AreNamed p.bound (row_of p.rests_on) p.node row p.shortcuts row.inn named
  pub nodes : map (λ s. s.node) p.rests_on ≡ first_places (p.node ∷ named)

-- The rows are of different nodes, the proposal's first, and can be relied on. By these rows each shortcut is a
-- verdict, and each other pair of neighbours is heavy or has a way; and they are the rows of these ways alone.
pub record IsProposal (p : Proposal) : Type 0 where
  pub bound : IsBound p.bound
  pub first : Seen
  pub others : List Seen
  pub rests_on : p.rests_on ≡ first ∷ others
  pub of_node : first.node ≡ p.node
  pub once : AllPairs (λ a b. a.node ≢ b.node) p.rests_on
  pub rows : All (IsSeenRow p.bound) p.rests_on
  pub sorted : AllPairs ShortcutBefore p.shortcuts
  pub verdicts : AreVerdicts p.bound (row_of p.rests_on) p.node p.shortcuts
  pub listing : IsListing p verdicts.row

-- by the row that was read of the node, the pair (u, w) is joined by way of it at this sum
pub record Joins (p : Proposal) (u w : ℕ) (sum : Cost) : Type 0 where
  pub row : Row
  pub read : row_of p.rests_on p.node ≡ Some row
  pub through : ListsThrough row u w sum

-- the verdict on a pair that is joined at this sum
abbrev pub IsVerdictAt : Proposal → ℕ → ℕ → Cost → Verdict → Type 0
IsVerdictAt p u w sum verdicts.Heavy = IsWithin sum p.bound → ⊥
IsVerdictAt p u w sum verdicts.Witness = IsWithin sum p.bound × NoShortcut p.shortcuts u w × HasWay (row_of p.rests_on) p.node u w sum
IsVerdictAt p u w sum verdicts.Shortcut = IsWithin sum p.bound × Contains p.shortcuts (record { from = u; to = w; cost = sum })

-- the verdict on a pair, or none where the node doesn't join it
abbrev pub IsVerdict : Proposal → ℕ → ℕ → Option Verdict → Type 0
IsVerdict p u w (Some verdict) = (sum : Cost) × Joins p u w sum × IsVerdictAt p u w sum verdict
IsVerdict p u w None = (sum : Cost) → Joins p u w sum → ⊥

-- what the entry for this node costs, or none where no entry is for it
abbrev pub IsCostOf : List Entry → ℕ → Option Cost → Type 0
IsCostOf entries y (Some c) = Lists entries y c
IsCostOf entries y None = (c : Cost) → Lists entries y c → ⊥

-- one of the shortcuts joins these nodes
abbrev pub HasShortcut : List Shortcut → ℕ → ℕ → Type 0
HasShortcut put u w = (p : Shortcut) × Contains put p × (p.from ≡ u) × (p.to ≡ w)

-- as many arcs and shortcuts as a node can have
pub record AreFacts (f : Facts) : Type 0 where
  pub ins : f.ins < 2 ^ 25
  pub outs : f.outs < 2 ^ 25
  pub shortcuts : f.shortcuts ≤ f.ins * f.outs

-- the counts of a proposal, by the row that was read of its node
pub record AreFactsOf (p : Proposal) (f : Facts) : Type 0 where
  pub node : f.node ≡ p.node
  pub row : Row
  pub read : row_of p.rests_on p.node ≡ Some row
  pub ins : f.ins ≡ length row.inn
  pub outs : f.outs ≡ length row.out
  pub shortcuts : f.shortcuts ≡ length p.shortcuts

-- Where memory sufficed and no row was missing, a row of the node was read, and the result is that the node is contracted
-- exactly where that row has a rank.
pub record IsToldByRank (Bears Shows : Seen → Type 0) (node : ℕ) (result : Result Proposal ProposeError) : Type 0 where
  pub row : Seen
  pub of_node : row.node ≡ node
  pub bears : Bears row
  pub shows : Shows row
  pub ranked : (result ≡ Err Contracted) ↔ ((row_in row).rank ≢ None)

abbrev pub TellsContracted : (Seen → Type 0) → (Seen → Type 0) → ℕ → Result Proposal ProposeError → Type 0
TellsContracted Bears Shows node result = (result ≡ Err OutOfMemory → ⊥) → (result ≡ Err Unseen → ⊥) → IsToldByRank Bears Shows node result

-- a row of the node was read that has no rank
pub record IsReadUnranked (Bears Shows : Seen → Type 0) (node : ℕ) : Type 0 where
  pub row : Seen
  pub of_node : row.node ≡ node
  pub bears : Bears row
  pub shows : Shows row
  pub unranked : (row_in row).rank ≡ None

-- A row is missing: that of the node itself, and the source is what it was; or another, asked for after a row of the node
-- that has no rank.
abbrev pub MissesRow : (Seen → Type 0) → (Seen → Type 0) → Type 0 → ℕ → Result Proposal ProposeError → Type 0
MissesRow Bears Shows Same node result = result ≡ Err Unseen → Same ⊎ IsReadUnranked Bears Shows node

-- What is returned where a node is to be proposed under a bound, by a source that moved in this way, or is the same: a
-- proposal by answers that the source bears and shows; `Contracted` exactly where the node's row has a rank, and before
-- another row is asked for; and `Unseen` nowhere where the source is whole around the node.
pub record IsProposedBy (Bears Shows : Seen → Type 0) (limit : Cost) (Moved Same IsWhole : Type 0) (v : ℕ) (result : Result Proposal ProposeError) : Type 0 where
  pub node : IfOk result (λ p. p.node ≡ v)
  pub bound : IfOk result (λ p. p.bound ≡ limit)
  pub holds : IfOk result IsProposal
  pub bears : IfOk result (λ p. All Bears p.rests_on)
  pub shows : IfOk result (λ p. All Shows p.rests_on)
  pub contracted : TellsContracted Bears Shows v result
  pub missed : MissesRow Bears Shows Same v result
  pub stays : Moved
  pub found : IsWhole → result ≡ Err Unseen → ⊥
