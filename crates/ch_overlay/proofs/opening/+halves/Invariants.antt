use Rattle.std.proofs.Common.{◌+◌, ◌*◌}
use Rattle.ch_overlay.proofs.opening.+halves.Given as goal

abbrev pub decreases-shared_rows : goal.decreases-shared_rows
decreases-shared_rows g l = 2 * l.threads

abbrev pub decreases-lower : goal.decreases-lower
decreases-lower g l = 2 * l.few + 1

abbrev pub decreases-upper : goal.decreases-upper
decreases-upper g l = 2 * l.others + 1
