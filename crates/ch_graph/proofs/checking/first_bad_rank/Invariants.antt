use Rattle.std.proofs.Common.{ℕ, ◌≡◌, ◌<◌, length}
use Rattle.ch_graph.specs.Checking.{IsNewRank}
use Rattle.ch_graph.proofs.TakenRanks.{AreTaken}
use Rattle.ch_graph.proofs.checking.first_bad_rank.Given as goal

abbrev pub invariant-ranks : goal.invariant-ranks
invariant-ranks l = record {
  count : length l.taken.items ≡ length l.ranks;
  marks : AreTaken l.ranks l.place l.taken.items;
  before : (k : ℕ) → k < l.place → IsNewRank l.ranks k;
}
