use Rattle.std.proofs.Common.{ℕ, List, ap, subst, ◌∙◌}
use Rattle.ch_witness.specs.Kept.{kept_of, AreListed}
use Rattle.ch_witness.specs.Tree.{seen_of}
use Rattle.ch_witness.proofs.HandedOut.{nodes_of, rows_still, start_still, ways_still}
use Rattle.ch_witness.specs.Kept.{all_listed_are}
use Rattle.ch_witness.proofs.searching.search.Goals as goal

pub take_listed-requires : goal.take_listed-requires
take_listed-requires g c = record { nodes = λ x s is. (c.in_ok-traced.ensures.read.kept x s is).node }

pub returns-clause-ways : goal.returns-clause-ways
returns-clause-ways g c =
    let listing : AreListed (kept_of c.search.new.self.rows) (nodes_of (seen_of c.in_ok-traced.traced.steps.items)) c.in_ok-seen.seen.items =
    (subst (λ (ns : List ℕ). AreListed (kept_of c.search.new.self.rows) ns c.in_ok-seen.seen.items)
    (c.deref-2.ensures.value ∙ c.in_ok-nodes.ensures ∙ ap (λ ss. nodes_of (seen_of ss)) c.deref.ensures.value) c.in_ok-seen.ensures) in
    ways_still (seen_of c.in_ok-traced.traced.steps.items) c.in_ok-traced.ensures.kept_rows listing c.in_ok-traced.ensures.ways

pub returns-clause-direct : goal.returns-clause-direct
returns-clause-direct g c = λ k h other.
    let listing : AreListed (kept_of c.search.new.self.rows) (nodes_of (seen_of c.in_ok-traced.traced.steps.items)) c.in_ok-seen.seen.items =
    (subst (λ (ns : List ℕ). AreListed (kept_of c.search.new.self.rows) ns c.in_ok-seen.seen.items)
    (c.deref-2.ensures.value ∙ c.in_ok-nodes.ensures ∙ ap (λ ss. nodes_of (seen_of ss)) c.deref.ensures.value) c.in_ok-seen.ensures) in
    let start = c.in_ok-traced.ensures.direct k h other in
    let answer = c.in_ok-traced.ensures.read.kept start.0.node start.0 start.1 in (
      start.0,
      answer.bears,
      answer.shows,
      start_still (seen_of c.in_ok-traced.traced.steps.items) c.in_ok-traced.ensures.kept_rows listing start.2,
    )

pub returns-clause-rows : goal.returns-clause-rows
returns-clause-rows g c =
    let listing : AreListed (kept_of c.search.new.self.rows) (nodes_of (seen_of c.in_ok-traced.traced.steps.items)) c.in_ok-seen.seen.items =
    (subst (λ (ns : List ℕ). AreListed (kept_of c.search.new.self.rows) ns c.in_ok-seen.seen.items)
    (c.deref-2.ensures.value ∙ c.in_ok-nodes.ensures ∙ ap (λ ss. nodes_of (seen_of ss)) c.deref.ensures.value) c.in_ok-seen.ensures) in
    rows_still (seen_of c.in_ok-traced.traced.steps.items) c.in_ok-traced.ensures.kept_rows listing c.in_ok-traced.ensures.rows

pub returns-clause-bears : goal.returns-clause-bears
returns-clause-bears g c = all_listed_are g.S.RowSource.bears (g.S.RowSource.shows c.search.new.source) g.S.RowSource.bears
    (g.S.RowSource.bound_of c.search.new.source)
    (kept_of c.search.new.self.rows) c.deref-2.result.now c.in_ok-seen.seen.items c.in_ok-traced.ensures.read.kept c.in_ok-seen.ensures
    (λ x s a. a.bears)

pub returns-clause-shows : goal.returns-clause-shows
returns-clause-shows g c = all_listed_are g.S.RowSource.bears (g.S.RowSource.shows c.search.new.source) (g.S.RowSource.shows c.search.new.source)
    (g.S.RowSource.bound_of c.search.new.source)
    (kept_of c.search.new.self.rows) c.deref-2.result.now c.in_ok-seen.seen.items c.in_ok-traced.ensures.read.kept c.in_ok-seen.ensures
    (λ x s a. a.shows)
