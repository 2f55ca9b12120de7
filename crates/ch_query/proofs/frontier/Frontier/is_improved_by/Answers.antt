use Rattle.ch_graph.specs.Marks.{mark}
use Rattle.ch_query.proofs.MarkOrder.{better_than}
use Rattle.ch_query.proofs.frontier.Frontier.is_improved_by.Goals as goal

pub returns-in-Some : goal.returns-in-Some
returns-in-Some c =
    let better = better_than {m = mark c.args.self.now c.args.rank} c.requires.settled c.in-Some.ensures in
    (λ is. better.0 (c.is_below.ensures.0 is), λ improves. c.is_below.ensures.1 (better.1 improves))
