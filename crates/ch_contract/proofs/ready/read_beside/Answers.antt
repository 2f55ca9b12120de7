use Rattle.std.proofs.Common.{ℕ, ◌≡◌, ◌+◌, List, [], ◌∷◌, ◌++◌, All, IsSome, get_or, take, sym, subst}
use Rattle.std.proofs.lemmas.List.{append_assoc, take_all}
use Rattle.std.proofs.lemmas.List.Elements.{All-more, All-push}
use Rattle.ch_laws.specs.Rows.{Rises}
use Rattle.ch_overlay.specs.declared.source.Seen.{Seen}
use Rattle.ch_overlay.specs.Source.{row_in, row_of}
use Rattle.ch_contract.specs.Ready.{AreAnswered, RowsRise}
use Rattle.ch_contract.proofs.ReadRows.{answered_by, answered_front, answered_in, answered_more}
use Rattle.ch_contract.proofs.ready.read_beside.Goals as goal

pub nodes-preserved-then-is_some : goal.nodes-preserved-then-is_some
nodes-preserved-then-is_some g c =
    let inv = c.nodes.invariant in
    let nodes = c.args.nodes.now in
    let seen : List Seen = c.args.rests_on.now ++ c.nodes.beside.items in
    record {
      bears = inv.bears;
      rise = inv.rise;
      read = All-more (λ (x : ℕ). IsSome (row_of seen x)) nodes c.nodes.node-index 0 c.nodes-test.true inv.read
          (answered_front c.args.rests_on.now c.nodes.beside.items (get_or nodes c.nodes.node-index 0) (answered_in c.row_for.result (λ r. r.now) _ c.row_for.ensures.some (sym c.if-is_some.ensures)));
      stays = inv.stays;
    }

pub nodes-preserved : goal.nodes-preserved
nodes-preserved g c =
    let inv = c.nodes.invariant in
    let nodes = c.args.nodes.now in
    let old : List Seen = c.nodes.beside.items in
    let s : Seen = c.in_ok-seen.seen in
    let items : c.push.new.self.items ≡ old ++ s ∷ [] = c.in_ok-push.ensures.items in
    let front : List Seen = c.args.rests_on.now ++ old in
    let read : AreAnswered (front ++ s ∷ []) (take (c.nodes.node-index + 1) nodes) =
    All-more (λ (x : ℕ). IsSome (row_of (front ++ s ∷ []) x)) nodes c.nodes.node-index 0 c.nodes-test.true (answered_more front s (take c.nodes.node-index nodes) inv.read)
    (answered_by front s (get_or nodes c.nodes.node-index 0) c.in_ok-seen.ensures.node) in
    record {
      bears = subst (λ (ss : List Seen). All g.S.RowSource.bears ss) (sym items) (All-push g.S.RowSource.bears old s inv.bears c.in_ok-seen.ensures.bears);
      rise = subst (λ (ss : List Seen). RowsRise ss) (sym items)
          (All-push (λ (t : Seen). Rises (row_in t).out × Rises (row_in t).inn) old s inv.rise (c.in_ok-seen.ensures.row.out_rises, c.in_ok-seen.ensures.row.inn_rises));
      read = subst (λ (ss : List Seen). AreAnswered (c.args.rests_on.now ++ ss) (take (c.nodes.node-index + 1) nodes)) (sym items)
          (subst (λ (ss : List Seen). AreAnswered ss (take (c.nodes.node-index + 1) nodes)) (append_assoc c.args.rests_on.now old (s ∷ [])) read);
      stays = g.met.S.RowSource.stays_more c.args.source.now c.nodes.source c.row_of.new.self inv.stays c.in_ok-seen.ensures.stays;
    }

pub returns-clause-read : goal.returns-clause-read
returns-clause-read g c =
    subst (λ (ns : List ℕ). AreAnswered (c.args.rests_on.now ++ c.nodes.beside.items) ns) (take_all c.nodes.node-index c.args.nodes.now c.nodes-test.false) c.nodes.invariant.read
