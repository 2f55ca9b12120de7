use Rattle.ch_graph.proofs.LinkParts.{part_rises, found_in_part, not_in_part}
use Rattle.ch_graph.proofs.link_index.LinkIndex.find.Goals as goal

pub find_head-requires : goal.find_head-requires
find_head-requires c = part_rises c.in-Some.ensures c.requires.sorted

pub returns-in-None-clause-none : goal.returns-in-None-clause-none
returns-in-None-clause-none c = not_in_part c.args.to c.in-Some.ensures c.in-None.ensures.none

pub returns-in-Some-find_head-clause-found : goal.returns-in-Some-find_head-clause-found
returns-in-Some-find_head-clause-found c =
    found_in_part c.in-Some.ensures c.in-Some-find_head.ensures.found
