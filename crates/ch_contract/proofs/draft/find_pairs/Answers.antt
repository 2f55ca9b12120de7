use Rattle.std.proofs.Common.{map, ap, ◌∙◌}
use Rattle.ch_laws.specs.declared.shortcut.Shortcut.{Shortcut}
use Rattle.ch_contract.proofs.ThroughResults.{on_ok}
use Rattle.ch_contract.proofs.draft.find_pairs.Goals as goal

pub find_light_pairs-requires : goal.find_light_pairs-requires
find_light_pairs-requires c = record { rises = c.requires.rises; limit = c.requires.limit }

pub returns-clause-light : goal.returns-clause-light
returns-clause-light c = on_ok c.find_aims.result c.in_ok-find_light_pairs.ensures

pub returns-clause-ends : goal.returns-clause-ends
returns-clause-ends c = on_ok c.find_aims.result (c.in_ok-find_ends.ensures ∙ ap (map (λ (p : Shortcut). p.to)) c.deref.ensures.value)
