use Rattle.std.proofs.Common.{All, List, refl, subst}
use Rattle.std.proofs.lemmas.List.{take_all}
use Rattle.std.proofs.lemmas.List.Elements.{All-more}
use Rattle.ch_overlay.specs.declared.source.Seen.{Seen}
use Rattle.ch_core.specs.World.{StandsIn}
use Rattle.ch_core.proofs.offering.all_stand.Goals as goal

pub rows-preserved : goal.rows-preserved
rows-preserved c =
    All-more (StandsIn c.args.view.now) c.args.rows.now c.rows.seen-index c.seen-item.result c.rows-test.true c.rows.invariant
    (subst (λ (s : Seen). StandsIn c.args.view.now s) c.seen-item.is (c.stands.ensures.0 c.if-not-stands.false))

pub returns : goal.returns
returns c = (
  λ _. subst (λ (rows : List Seen). All (StandsIn c.args.view.now) rows) (take_all c.rows.seen-index c.args.rows.now c.rows-test.false) c.rows.invariant,
  λ _. refl,
)
