use Rattle.std.proofs.Common.{◌≡◌, None}
use Rattle.std.specs.Result.{IfErr}
use Rattle.grfile.proofs.LaterFaults.{first_taken, pairs_text}
use Rattle.std.proofs.Common.{◌++◌, List, ℕ, All, subst}
use Rattle.grfile.specs.Pairs.{pair_grammar}
use Rattle.grfile.specs.Reading.{IsPair}
use Rattle.grfile.specs.Taken.{ComesFirst, PairsTaken, pairs_with, taken_of}
use Rattle.grfile.specs.Outcome.{Takes}
use Rattle.grfile.proofs.TextInPieces.{still_holds, takes_seen}
use Rattle.grfile.proofs.LinesToText.{as_pairs}
use Rattle.grfile.proofs.query_reader.QueryReader.feed.Goals as goal

pub invariant_of-self : goal.invariant_of-self
invariant_of-self c = still_holds (pair_grammar c.self.inside.nodes) (taken_of c.self.inside.pieces) (taken_of c.feed.new.pieces) c.args.piece.now as_pairs (All (IsPair c.self.inside.nodes)) c.feed.result c.feed.ensures.takes c.feed.ensures.refused c.self.invariant

pub returns-clause-takes : goal.returns-clause-takes
returns-clause-takes c = subst (λ (old : PairsTaken). Takes c.feed.result (λ (rest : List ℕ). pairs_with old (c.args.piece.now ++ rest))
    (pairs_with (record { nodes = c.self.inside.nodes; taken = taken_of c.feed.new.pieces }))) c.self.view_is
    (takes_seen (pair_grammar c.self.inside.nodes) (taken_of c.self.inside.pieces)
    (taken_of c.feed.new.pieces) c.args.piece.now as_pairs c.feed.result c.feed.ensures.takes)

pub returns-clause-before : goal.returns-clause-before
returns-clause-before c =
    subst (λ (old : PairsTaken). old.taken.failed ≡ None → IfErr c.feed.result (ComesFirst (pairs_with old) c.args.piece.now)) c.self.view_is
    (λ fresh. first_taken (pairs_text c.self.inside.nodes) (taken_of c.self.inside.pieces) c.args.piece.now c.feed.result (c.feed.ensures.before fresh))
