use Rattle.ch_query.proofs.WaysBetween.{ways_walks, free_value, longest_exact}
use Rattle.ch_query.proofs.laws.ways_are_walks.Goals as goal

pub returns : goal.returns
returns c = record { walks = ways_walks; value = free_value; exact = longest_exact }
