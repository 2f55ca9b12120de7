use Rattle.std.proofs.Common.{◌-◌, ◌^◌}
use Rattle.ch_workers.proofs.build_state.BuildState.tell_all.Given as goal

abbrev pub decreases-entries : goal.decreases-entries
decreases-entries g l = 2 ^ 25 - l.listener.told
