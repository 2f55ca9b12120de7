use Rattle.std.proofs.Common.{Option, IfSome, refl, sym, subst}
use Rattle.core.specs.Mem.{manually_drop_value}
use Rattle.ch_graph.specs.Hierarchy.{Hierarchy}
use Rattle.domethyme_c.specs.Towards.{AnswersTowards}
use Rattle.domethyme_c.specs.Towards.IsOpenedTurned.{opened, refused}
use Rattle.domethyme_c.proofs.Towards.{answers-towards}
use Rattle.domethyme_c.proofs.turning.domethyme_open_turned.Goals as goal

pub returns-in-Ok : goal.returns-in-Ok
returns-in-Ok c = record {
  answer = opened refl (manually_drop_value c.in-Ok.engine.value) c.put.ensures c.in-Ok.ensures.ok;
  towards = λ g graph file. subst (λ (held : Option Hierarchy). IfSome held (AnswersTowards g)) (sym c.put.ensures)
      (answers-towards c.hierarchies_have_one_spelling.ensures c.turned_is_right.ensures.right c.turned_is_right.ensures.by_weight c.walks_turn.ensures.graph c.walks_turn.ensures.walks g c.args.bytes.now (manually_drop_value c.in-Ok.engine.value) graph file c.in-Ok.ensures.ok);
}

pub returns-in-Err : goal.returns-in-Err
returns-in-Err c = record {
  answer = refused c.in-Err.error c.code_of.ensures c.in-Err.ensures.err c.close.ensures;
  towards = λ g graph file. subst (λ (held : Option Hierarchy). IfSome held (AnswersTowards g)) (sym c.close.ensures) tt;
}
