use Rattle.std.proofs.Common.{ℕ, ◌≡◌, List, Contains, All, map, sym, subst, ◌∙◌}
use Rattle.ch_cost.specs.Cost.{◌≼◌}
use Rattle.ch_laws.specs.declared.shortcut.Shortcut.{Shortcut}
use Rattle.ch_overlay.specs.Overlay.{Overlay}
use Rattle.ch_overlay.specs.Pairs.{at_most-from_within}
use Rattle.ch_witness.specs.declared.searcher.Traced.{Traced}
use Rattle.ch_witness.specs.Kept.{kept_of, AllNamed, AreKept, IsKept}
use Rattle.ch_witness.specs.Tree.{seen_of}
use Rattle.ch_witness.specs.Ways.{AreWays}
use Rattle.std.proofs.lemmas.Result.{IfOk-weaker}
use Rattle.ch_check.specs.Pairs.{AreRowsOf, IsNode, ShowsRow}
use Rattle.ch_check.proofs.Joining.{apart_targets, ways_around}
use Rattle.ch_check.proofs.Outcomes.{at_ok, named_at}
use Rattle.ch_check.proofs.ways.Finder.trace_ways.Goals as goal

pub search-found-requires-clause-targets : goal.search-found-requires-clause-targets
search-found-requires-clause-targets c = λ among.
    apart_targets c.args.overlay.now c.args.via c.args.from c.args.owed.now c.requires.owed
    (subst (λ (ts : List ℕ). Contains ts c.args.via) (c.deref.ensures.value ∙ c.in_ok-find_ends.ensures) among)

pub search-found-requires-clause-cutoff : goal.search-found-requires-clause-cutoff
search-found-requires-clause-cutoff c =
    subst (λ (o : Overlay). c.greatest_cost.result ≼ o.bound) (sym c.new-rows.ensures)
    (at_most-from_within _ _ (c.greatest_cost.ensures.within _ (λ p among. (c.requires.owed p among).2)))

pub search-found-requires-clause-kept : goal.search-found-requires-clause-kept
search-found-requires-clause-kept c =
    subst (λ (o : Overlay). AreKept (λ _. Unit {0}) (ShowsRow o) o.bound (kept_of c.args.self.now.searcher.rows))
    (sym c.new-rows.ensures) c.requires.kept.answers

-- the source is the overlay, before the search and after it
source : (c : goal.After-seen_all) → c.search-found.new.source ≡ c.args.overlay.now
source c = c.search-found.ensures.read.stays ∙ c.new-rows.ensures

answers : (c : goal.After-seen_all) → AreKept (λ _. Unit {0}) (ShowsRow c.args.overlay.now) c.args.overlay.now.bound
    (kept_of c.search-found.new.self.rows)
answers c =
    subst (λ (o : Overlay). AreKept (λ _. Unit {0}) (ShowsRow o) o.bound (kept_of c.search-found.new.self.rows))
    (source c) c.search-found.ensures.read.kept

targets : (c : goal.After-seen_all) → c.deref.result.now ≡ map (λ (p : Shortcut). p.to) c.args.owed.now
targets c = c.deref.ensures.value ∙ c.in_ok-find_ends.ensures

pub returns-clause-ways : goal.returns-clause-ways
returns-clause-ways c = IfOk-weaker c.seen_all.result _ _ (λ traced is.
    ways_around c.args.overlay.now c.args.via c.args.from (kept_of c.search-found.new.self.rows) (answers c)
    (at_ok (λ (t : Traced). All (IsKept (kept_of c.search-found.new.self.rows)) (seen_of t.steps.items))
    is c.search-found.ensures.kept_rows)
    (subst (λ (ts : List ℕ). AreWays (seen_of traced.steps.items) c.args.from c.args.via c.greatest_cost.result ts
    traced.ways.items) (targets c)
    (at_ok (λ (t : Traced). AreWays (seen_of t.steps.items) c.args.from c.args.via c.greatest_cost.result c.deref.result.now
    t.ways.items) is c.search-found.ensures.ways))) c.seen_all.ensures

pub returns-clause-kept : goal.returns-clause-kept
returns-clause-kept c =
    IfOk-weaker c.seen_all.result _ (λ _. AreRowsOf c.args.overlay.now (kept_of c.search-found.new.self.rows)) (λ traced is.
    let named = c.search-found.ensures.found
    (subst (λ (o : Overlay). AllNamed (IsNode o) (kept_of c.args.self.now.searcher.rows)) (sym c.new-rows.ensures)
    c.requires.kept.named) (subst (λ (o : Overlay). IsNode o c.args.from) (sym c.new-rows.ensures) c.requires.inside) in
    record {
      answers = answers c;
      named = subst (λ (o : Overlay). AllNamed (IsNode o) (kept_of c.search-found.new.self.rows)) (source c)
          (named_at _ _ _ is named);
    }) c.seen_all.ensures
