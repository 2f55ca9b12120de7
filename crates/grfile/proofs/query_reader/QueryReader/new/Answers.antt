use Rattle.std.proofs.Common.{ℕ, Result, ap, sym, ◌∙◌}
use Rattle.grfile.specs.declared.error.GrError.{GrError}
use Rattle.grfile.specs.Grammar.{Listing}
use Rattle.grfile.specs.Outcome.{◌>>=◌}
use Rattle.grfile.specs.Pairs.{pair_grammar}
use Rattle.grfile.proofs.TextInPieces.{told_first}
use Rattle.grfile.proofs.LinesToText.{as_pairs, pairs_seen, pairs_sound}
use Rattle.grfile.proofs.query_reader.QueryReader.new.Goals as goal

pub returns-clause-told : goal.returns-clause-told
returns-clause-told c = λ rest. ap (λ (told : Result (Listing (ℕ × ℕ)) GrError). told >>= as_pairs) (told_first (pair_grammar c.args.nodes) rest c.new.ensures) ∙ pairs_seen c.args.nodes rest

pub invariant_of-result : goal.invariant_of-result
invariant_of-result c = λ rest pairs is. pairs_sound c.args.nodes rest pairs (sym (ap (λ (told : Result (Listing (ℕ × ℕ)) GrError). told >>= as_pairs) (told_first (pair_grammar c.args.nodes) rest c.new.ensures) ∙ pairs_seen c.args.nodes rest) ∙ is)
