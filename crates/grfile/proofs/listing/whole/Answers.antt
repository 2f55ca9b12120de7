use Rattle.std.proofs.Common.{arith}
use Rattle.grfile.specs.Progress.{listing_of}
use Rattle.grfile.proofs.OneMoreLine.{ends-short, ends-full}
use Rattle.grfile.proofs.listing.whole.Goals as goal

pub returns-then-len-listed-clause-told : goal.returns-then-len-listed-clause-told
returns-then-len-listed-clause-told g c = λ grammar.
    rw c.at.ensures (ends-short grammar c.args.line (listing_of c.args.listed) (omega (arith, c.args.listed.entries.ok, c.len.ensures, c.if-len-listed.true)))

pub returns-clause-told : goal.returns-clause-told
returns-clause-told g c = λ grammar.
    ends-full grammar c.args.line (listing_of c.args.listed) (omega (arith, c.args.listed.entries.ok, c.len.ensures, c.if-len-listed.false))
