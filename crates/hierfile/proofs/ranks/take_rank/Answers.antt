use Rattle.std.proofs.Common.{List, ℕ, sym, subst, arith}
use Rattle.hierfile.specs.Taken.{AreTaken}
use Rattle.hierfile.proofs.PartAfterPart.{taken_more}
use Rattle.hierfile.proofs.ranks.take_rank.Goals as goal

pub returns-clause-taken : goal.returns-clause-taken
returns-clause-taken c =
    let n = c.args.nodes in
    let more = taken_more n c.args.rank c.args.ranks.now.items c.args.taken.now c.add.new.self (omega arith) c.requires (c.in_ok-add.ensures.places n c.requires.places) c.in_ok-add.ensures.added in
    subst (λ (l : List ℕ). AreTaken n c.add.new.self l) (sym c.in_ok-push.ensures.items) more
