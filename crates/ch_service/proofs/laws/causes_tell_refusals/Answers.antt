use Rattle.ch_service.proofs.RefusalsByCause.{answers-tell, joined-tell, preparations-tell, routes-tell}
use Rattle.ch_service.proofs.laws.causes_tell_refusals.Goals as goal

pub returns : goal.returns
returns c = record {
  answers = answers-tell;
  joined = joined-tell;
  prepared = preparations-tell;
  routes = routes-tell;
}
