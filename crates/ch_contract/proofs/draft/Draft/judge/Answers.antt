use Rattle.std.proofs.Common.{ℕ, ◌≡◌, length, arith, subst}
use Rattle.ch_laws.specs.declared.shortcut.Shortcut.{Shortcut}
use Rattle.ch_contract.specs.Drafts.{AreJudged, IsPairJudged}
use Rattle.ch_contract.proofs.PairVerdicts.{judged_none, next_judged}
use Rattle.ch_contract.proofs.draft.Draft.judge.Goals as goal

pub pairs-init : goal.pairs-init
pairs-init c = judged_none c.args.pairs.now c.args.ways.now c.args.self.now

pub pairs-preserved : goal.pairs-preserved
pairs-preserved c = next_judged c.args.pairs.now c.args.ways.now c.pairs.place _ _ c.args.self.now c.pairs.self c.judge_pair.new.self
    (omega arith) c.requires.many c.index-ways-place.is c.pairs.invariant
    (subst (λ (p : Shortcut). IsPairJudged p c.index-ways-place.result c.pairs.self c.judge_pair.new.self) c.index-pairs-place.is c.in_ok-judge_pair.ensures)

pub returns : goal.returns
returns c =
    let all : c.pairs.place ≡ length c.args.pairs.now = omega arith in
    subst (λ (n : ℕ). AreJudged c.args.pairs.now c.args.ways.now n c.args.self.now c.pairs.self) all c.pairs.invariant
