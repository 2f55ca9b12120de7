use Rattle.std.proofs.Common.{rules}
use Rattle.hierfile.proofs.links.is_in_order.Goals as goal

pub returns-then-earlier-link-2 : goal.returns-then-earlier-link-2
returns-then-earlier-link-2 c = search rules
