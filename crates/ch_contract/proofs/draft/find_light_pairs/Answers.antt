use Rattle.std.proofs.Common.{List, [], subst, sym}
use Rattle.std.proofs.lemmas.List.{take_all}
use Rattle.ch_laws.specs.declared.entry.Entry.{Entry}
use Rattle.ch_laws.specs.declared.shortcut.Shortcut.{Shortcut}
use Rattle.ch_contract.specs.Drafts.{ArePairs, IsPairAdded}
use Rattle.ch_contract.proofs.PairVerdicts.{next_pairs, pairs_none}
use Rattle.ch_contract.proofs.draft.find_light_pairs.Goals as goal

pub outs-init : goal.outs-init
outs-init c = subst (λ (ps : List Shortcut). ArePairs c.args.bound c.args.into.now [] ps) (sym c.clear.ensures.items) (pairs_none c.args.bound c.args.into.now)

pub outs-preserved : goal.outs-preserved
outs-preserved c = next_pairs c.args.bound c.args.into.now c.args.outs.now c.outs.out-index _ _ _ c.outs-test.true c.requires.rises
    (subst (λ (e : Entry). IsPairAdded c.args.bound c.args.into.now e c.outs.pairs.items c.add_pair.new.pairs.items) c.out-item.is c.in_ok-add_pair.ensures) c.outs.invariant

pub returns : goal.returns
returns c = subst (λ (es : List Entry). ArePairs c.args.bound c.args.into.now es c.outs.pairs.items) (take_all c.outs.out-index c.args.outs.now c.outs-test.false) c.outs.invariant
