use Rattle.std.proofs.Common.{[], ℕ, All, Result, ap, subst}
use Rattle.grfile.specs.declared.error.GrError.{GrError}
use Rattle.grfile.specs.Grammar.{Listing}
use Rattle.grfile.specs.Outcome.{◌>>=◌}
use Rattle.grfile.specs.Reading.{IsPair}
use Rattle.grfile.specs.Taken.{PairsTaken}
use Rattle.grfile.proofs.LinesToText.{as_pairs}
use Rattle.grfile.proofs.query_reader.QueryReader.finish.Goals as goal

pub returns-clause-in_range : goal.returns-clause-in_range
returns-clause-in_range c = subst (λ (nodes : ℕ). All (IsPair nodes) c.in_ok-listed.listed.entries.items) (ap (λ (taken : PairsTaken). taken.nodes) c.self.view_is) (c.self.invariant [] _ (ap (λ (told : Result (Listing (ℕ × ℕ)) GrError). told >>= as_pairs) c.in_ok-listed.ensures.told))
