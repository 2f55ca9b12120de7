use Rattle.std.proofs.Common.{ℕ, ◌≡◌, ◌++◌, List, Some, Bor, All, AllPairs, map, sym, subst, ap, ◌∙◌}
use Rattle.std.proofs.lemmas.List.Elements.{All-append}
use Rattle.ch_laws.specs.declared.shortcut.Shortcut.{Shortcut}
use Rattle.ch_laws.specs.Rows.{Rises}
use Rattle.ch_overlay.specs.declared.row.Row as declared
use Rattle.ch_overlay.specs.declared.source.Seen.{Seen}
use Rattle.ch_overlay.specs.Prepared.{AreNamed, IsPrepared}
use Rattle.ch_overlay.specs.Source.{row_in, row_of}
use Rattle.ch_contract.specs.Proposal.{ShortcutBefore}
use Rattle.ch_contract.specs.Ready.{RowsRise}
use Rattle.ch_contract.proofs.ReadRows.{is_ready, rows_rise, seen_rise, sorted_once}
use Rattle.ch_contract.proofs.ready.prepare_by.Goals as goal

-- the rows that were read, in either list
abbrev AreRows : List Seen → List Seen → List (ℕ × Bor declared.Row) → Type 0
AreRows front back near = All (λ (a : ℕ × Bor declared.Row). row_of (front ++ back) a.0 ≡ Some a.1.now) near

read : (rests_on front back : List Seen) (items near : List (ℕ × Bor declared.Row)) → rests_on ≡ front → near ≡ items → AreRows rests_on back items → AreRows front back near
read rests_on front back items near rests_is near_is are =
    subst (λ (ns : List (ℕ × Bor declared.Row)). AreRows front back ns) (sym near_is) (subst (λ (seen : List Seen). AreRows seen back items) rests_is are)

rise : (c : goal.After-shortcuts) → RowsRise (c.args.proposal.now.rests_on ++ c.args.beside.now)
rise c =
    All-append (λ (s : Seen). Rises (row_in s).out × Rises (row_in s).inn) c.args.proposal.now.rests_on c.args.beside.now
    (seen_rise c.args.proposal.now.bound c.args.proposal.now.rests_on c.own-row.ensures.holds.rows) c.requires.rise

pub prepare-requires-clause-rising : goal.prepare-requires-clause-rising
prepare-requires-clause-rising c k d h = rows_rise (c.args.proposal.now.rests_on ++ c.args.beside.now) (rise c) _ _ (read c.rests_on.result.now c.args.proposal.now.rests_on c.args.beside.now c.in_ok-near.near.items c.as_slice.result.now c.rests_on.ensures.rows c.as_slice.ensures.value c.in_ok-near.ensures.rows k d h)

pub prepare-requires-clause-once : goal.prepare-requires-clause-once
prepare-requires-clause-once c = sorted_once c.shortcuts.result.now (subst (λ (put : List Shortcut). AllPairs ShortcutBefore put) (sym c.shortcuts.ensures) c.own-row.ensures.holds.sorted)

pub returns : goal.returns
returns c =
    let p = c.args.proposal.now in
    let row = c.own-row.result.now in
    let near : List (ℕ × Bor declared.Row) = c.as_slice.result.now in
    let nodes = ap (map (λ (a : ℕ × Bor declared.Row). a.0)) c.as_slice.ensures.value ∙ c.in_ok-near.ensures.nodes in
    is_ready p c.in_ok-prepared.prepared c.args.beside.now row near (λ r. r.now) c.own-row.ensures.read
    (subst (λ (ns : List ℕ). AreNamed row ns) (sym nodes) (c.requires.named row c.own-row.ensures.read))
    (read c.rests_on.result.now c.args.proposal.now.rests_on c.args.beside.now c.in_ok-near.near.items c.as_slice.result.now c.rests_on.ensures.rows c.as_slice.ensures.value c.in_ok-near.ensures.rows)
    (subst (λ (v : ℕ). IsPrepared v row (map (λ (a : ℕ × Bor declared.Row). (a.0, a.1.now)) near) p.shortcuts c.in_ok-prepared.prepared) c.node-node.ensures
    (subst (λ (put : List Shortcut). IsPrepared c.node-node.result row (map (λ (a : ℕ × Bor declared.Row). (a.0, a.1.now)) near) put c.in_ok-prepared.prepared) c.shortcuts.ensures c.in_ok-prepared.ensures))
