use Rattle.std.proofs.Common.{ℕ, ◌≡◌, List, length, Contains, map, ap, sym, subst, ◌∙◌}
use Rattle.std.proofs.lemmas.List.{length-map}
use Rattle.std.proofs.lemmas.Result.{err_from_is_err_and}
use Rattle.ch_laws.specs.declared.shortcut.Shortcut.{Shortcut}
use Rattle.ch_overlay.specs.Pairs.{at_most-from_within}
use Rattle.ch_witness.specs.Kept.{kept_of, finds_unless}
use Rattle.ch_witness.specs.Tree.{seen_of}
use Rattle.ch_witness.specs.Ways.{AreWays}
use Rattle.ch_contract.proofs.ThroughResults.{finds_short}
use Rattle.ch_contract.proofs.PairsBySearch.{direct_for, judged_for}
use Rattle.ch_contract.proofs.draft.judge_by_search.Goals as goal

pub search-requires-clause-start : goal.search-requires-clause-start
search-requires-clause-start g c = c.requires.start

pub search-requires-clause-targets : goal.search-requires-clause-targets
search-requires-clause-targets g c = λ among. c.requires.avoided (subst (λ (ts : List ℕ). Contains ts c.args.task.node) (c.deref-2.ensures.value ∙ c.requires.ends) among)

pub search-requires-clause-cutoff : goal.search-requires-clause-cutoff
search-requires-clause-cutoff g c = at_most-from_within _ _ (c.greatest_cost.ensures.within _ (λ p among. c.requires.within p (subst (λ (ps : List Shortcut). Contains ps p) c.deref.ensures.value among)))

pub search-requires-clause-kept : goal.search-requires-clause-kept
search-requires-clause-kept g c = c.requires.kept

pub returns-in_err-found-clause-read : goal.returns-in_err-found-clause-read
returns-in_err-found-clause-read g c = c.in_err-found.ensures.read

pub returns-in_err-found-clause-found : goal.returns-in_err-found-clause-found
returns-in_err-found-clause-found g c = λ named whole.
    let p = err_from_is_err_and c.from_residual.result c.from_residual.ensures.1 in
    let same = p.2 in
    finds_unless _ _ _ _ p.0 p.1 (λ unseen. c.in_err-found.ensures.found named whole (cc (same, unseen)))

pub judge-requires : goal.judge-requires
judge-requires g c =
    let pairs = c.args.desk.now.pairs.light.items in
    let targets : c.deref-2.result.now ≡ map (λ (p : Shortcut). p.to) pairs = c.deref-2.ensures.value ∙ c.requires.ends in
    record { many = ap length c.deref-5.ensures.value ∙ c.in_ok-found.ensures.ways.many ∙ ap length targets ∙ length-map pairs (λ (p : Shortcut). p.to) ∙ sym (ap length c.deref-4.ensures.value) }

pub returns-in_err-judge-clause-read : goal.returns-in_err-judge-clause-read
returns-in_err-judge-clause-read g c = c.in_ok-found.ensures.read

pub returns-in_err-judge-clause-found : goal.returns-in_err-judge-clause-found
returns-in_err-judge-clause-found g c = λ named whole.
    let p = err_from_is_err_and c.from_residual-in_err-judge.result c.from_residual-in_err-judge.ensures.1 in
    finds_short _ _ _ p.0 p.1 p.2

pub returns-clause-searched : goal.returns-clause-searched
returns-clause-searched g c =
    let pairs = c.args.desk.now.pairs.light.items in
    let targets : c.deref-2.result.now ≡ map (λ (p : Shortcut). p.to) pairs = c.deref-2.ensures.value ∙ c.requires.ends in
    let ways = c.in_ok-found.found.ways.items in
    let rows = seen_of c.in_ok-found.found.steps.items in
    record {
      rows = rows;
      cutoff = c.greatest_cost.result;
      ways = ways;
      found = subst (λ (ts : List ℕ). AreWays rows c.args.from c.args.task.node c.greatest_cost.result ts ways) targets c.in_ok-found.ensures.ways;
      most = λ p among. c.greatest_cost.ensures.most p (subst (λ (ps : List Shortcut). Contains ps p) (sym c.deref.ensures.value) among);
      direct = direct_for (kept_of c.search.new.self.rows) rows c.args.from c.greatest_cost.result ways _ (map (λ (p : Shortcut). p.to) pairs) targets c.in_ok-found.ensures.direct;
      rows_kept = c.in_ok-found.ensures.kept_rows;
      judged = judged_for _ pairs _ ways _ c.judge.new.self c.deref-4.ensures.value c.deref-5.ensures.value c.in_ok-judge.ensures;
    }

pub returns-clause-read : goal.returns-clause-read
returns-clause-read g c = c.in_ok-found.ensures.read

pub returns-clause-found : goal.returns-clause-found
returns-clause-found g c = λ named whole. c.in_ok-found.ensures.found named whole
