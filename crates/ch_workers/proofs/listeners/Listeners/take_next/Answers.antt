use Rattle.std.proofs.Common.{◌≡◌}
use Rattle.std.proofs.lemmas.List.Elements.{All-drop, All-same}
use Rattle.ch_workers.proofs.listeners.Listeners.take_next.Goals as goal

pub invariant_of-self : goal.invariant_of-self
invariant_of-self g c = record {
  untold = All-same (λ l. l.told ≡ 0) _ _ c.pop_front.ensures.rest (All-drop (λ l. l.told ≡ 0) 1 c.args.self.now.later.items c.args.self.now.untold);
}
