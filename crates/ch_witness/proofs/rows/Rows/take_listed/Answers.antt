use Rattle.std.proofs.Common.{ℕ, List, [], get_or, subst, sym, refl}
use Rattle.std.proofs.lemmas.List.{take_all, take_more}
use Rattle.ch_overlay.specs.declared.source.Seen.{Seen}
use Rattle.ch_witness.specs.Kept.{kept_of, AreListed}
use Rattle.ch_witness.proofs.ListedAnswers.{Listing, listing-start, listing-more}
use Rattle.ch_witness.proofs.rows.Rows.take_listed.Goals as goal

pub nodes-init : goal.nodes-init
nodes-init c = subst (λ (ss : List Seen). Listing (kept_of c.args.self.now) (kept_of c.args.self.now) [] ss) (sym c.in_ok-listed.ensures) (listing-start (kept_of c.args.self.now))

pub nodes-preserved : goal.nodes-preserved
nodes-preserved c =
    let v = get_or c.args.nodes.now c.nodes.node-index 0 in
    subst (λ (ns : List ℕ). Listing (kept_of c.args.self.now) (kept_of c.list.new.self) ns c.list.new.listed.items)
    (sym (take_more c.args.nodes.now c.nodes.node-index 0 c.nodes-test.true))
    (listing-more (kept_of c.args.self.now) (kept_of c.nodes.self) (kept_of c.list.new.self) c.requires.nodes v
    c.list.new.listed.items (kept_of c.nodes.self v) refl
    (c.in_ok-list.ensures) c.nodes.invariant)

pub returns : goal.returns
returns c = subst (λ (ns : List ℕ). AreListed (kept_of c.args.self.now) ns c.nodes.listed.items) (take_all c.nodes.node-index c.args.nodes.now c.nodes-test.false) c.nodes.invariant.is
