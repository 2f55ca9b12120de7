use Rattle.std.proofs.Common.{rules}
use Rattle.std.proofs.lemmas.List.Sorted.{answers_always}
use Rattle.ch_graph.proofs.LinkSearch.{found_at, links_rise, nowhere}
use Rattle.ch_graph.proofs.hierarchy.find_link.Goals as goal

-- the closure gives a link's ends
pub returns-in-Ok-clause-found : goal.returns-in-Ok-clause-found
returns-in-Ok-clause-found c =
    let found = c.in-Ok.ensures.position (λ link. (link.from, link.to)) (answers_always _ _ _ (λ f a r g called. search rules)) in
    found_at c.args.links.now c.args.from c.args.to c.in-Ok.place c.in-Ok.ensures.bound found

pub returns-in-Err-clause-none : goal.returns-in-Err-clause-none
returns-in-Err-clause-none c =
    let split = c.in-Err.ensures.position (λ link. (link.from, link.to)) (answers_always _ _ _ (λ f a r g called. search rules)) in
    nowhere c.args.links.now c.args.from c.args.to c.in-Err.field-0 (split (links_rise c.args.links.now c.args.from c.args.to c.requires))
