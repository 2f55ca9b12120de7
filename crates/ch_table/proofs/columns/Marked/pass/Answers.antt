use Rattle.std.proofs.Common.{ℕ, ◌≡◌, ◌+◌, ◌-◌, ◌<◌, List, [], ◌∷◌, ◌++◌, length, drop, map, take, ap, sym, ◌∙◌, subst, arith}
use Rattle.memchr.specs.Find.{Nowhere, Passes, is_byte}
use Rattle.ch_graph.specs.Hierarchy.{Hierarchy}
use Rattle.ch_query.specs.declared.fall.Fall.{Fall}
use Rattle.ch_table.specs.Laying.{AreDown, AreListedTo, AreMarkedWith, IsLaidMore}
use Rattle.ch_table.proofs.LayingDown.{down-more}
use Rattle.ch_table.proofs.Marked.{length-rest, listed-skips, listed-more, unmarked}
use Rattle.ch_table.proofs.columns.Marked.pass.Goals as goal

pub returns-in-None-clause-listed : goal.returns-in-None-clause-listed
returns-in-None-clause-listed g c =
    let marks = c.deref.result.now in
    let low = c.args.low in
    let nodes : c.nodes-nodes.result ≡ length c.args.search.now.ranks = c.nodes-nodes.ensures.count ∙ ap (λ (h : Hierarchy). length h.ranks) c.hierarchy.ensures in
    let seen : length c.deref.result.now ≡ c.nodes-nodes.result = ap (λ (ms : List ℕ). length ms) c.deref.ensures.value ∙ (c.requires.listed.nodes ∙ sym nodes) in
    let none = subst (λ n. Nowhere (Passes (is_byte 1) (take (length marks - low) (drop low marks))) 0 n) (length-rest marks low) c.in-None.ensures in
    let ranks = c.args.self.now.down.ranks.items in
    let tails = c.args.self.now.down.steps.tails.items in
    subst (λ (ms : List ℕ). AreListedTo c.args.search.now c.args.targets.now ms ranks tails c.nodes-nodes.result) c.deref.ensures.value
    (listed-skips c.args.search.now c.args.targets.now ranks tails low marks c.nodes-nodes.result (omega (arith, c.requires.low_in, nodes))
    (λ r from to. unmarked marks low (length marks - low) none r from (omega (arith, to, from, seen)))
    (subst (λ (ms : List ℕ). AreListedTo c.args.search.now c.args.targets.now ms ranks tails low) (sym c.deref.ensures.value) c.requires.listed))

pub returns-in_ok-lay-in-Some-clause-listed : goal.returns-in_ok-lay-in-Some-clause-listed
returns-in_ok-lay-in-Some-clause-listed g c =
    let h = c.args.search.now in
    let old = c.deref.result.now in
    let new = c.mark_tails.new.marks.items in
    let low = c.args.low in
    let ranks = c.args.self.now.down.ranks.items in
    let tails = c.args.self.now.down.steps.tails.items in
    let falls = c.falls_to.new.falls.items in
    let rank = low + c.in-Some.skipped in
    let was = subst (λ (ms : List ℕ). AreListedTo h c.args.targets.now ms ranks tails low) (sym c.deref.ensures.value) c.requires.listed in
    let rank_in : low + c.in-Some.skipped < length c.args.search.now.ranks = omega (arith, c.in-Some.ensures.0.high, length-rest old low, was.nodes) in
    let skipped = listed-skips h c.args.targets.now ranks tails low old rank (omega arith) (unmarked old low c.in-Some.skipped c.in-Some.ensures.0.before) was in
    let more = listed-more h c.args.targets.now ranks tails rank old new falls rank_in c.in_ok-falls_to-in-Some.ensures.falls
    (subst (λ (ms : List ℕ). AreMarkedWith falls ms new) (sym c.deref.ensures.value)
    (subst (λ (fs : List Fall). AreMarkedWith fs c.args.self.now.marks.items new) c.deref-in-Some.ensures.value c.mark_tails.ensures)) c.requires.ends_in skipped in
    let longer = subst (λ (fs : List Fall). c.lay.new.self.tails.items ≡ tails ++ map (λ (f : Fall). f.tail) fs) c.deref-in-Some-2.ensures.value c.in_ok-lay-in-Some.ensures.more_tails in
    subst (λ (rs : List ℕ). AreListedTo h c.args.targets.now new rs c.lay.new.self.tails.items (rank + 1)) (sym c.in_ok-push-in-Some.ensures.items)
    (subst (λ (ts : List ℕ). AreListedTo h c.args.targets.now new (ranks ++ rank ∷ []) ts (rank + 1)) (sym longer) more)

pub returns-in_ok-lay-in-Some-clause-down : goal.returns-in_ok-lay-in-Some-clause-down
returns-in_ok-lay-in-Some-clause-down g c =
    let h = c.args.search.now in
    let ranks = c.args.self.now.down.ranks.items in
    let old = c.args.self.now.down.steps in
    let new = c.lay.new.self in
    let falls = c.falls_to.new.falls.items in
    let rank = c.args.low + c.in-Some.skipped in
    let more = subst (λ (fs : List Fall). IsLaidMore fs old.first.items old.tails.items old.lengths.items new.first.items new.tails.items new.lengths.items) c.deref-in-Some-2.ensures.value c.in_ok-lay-in-Some.ensures in
    subst (λ (rs : List ℕ). AreDown h rs new.first.items new.tails.items new.lengths.items) (sym c.in_ok-push-in-Some.ensures.items)
    (down-more h ranks old.first.items old.tails.items old.lengths.items c.requires.down rank falls c.in_ok-falls_to-in-Some.ensures.falls new.first.items new.tails.items new.lengths.items more)
