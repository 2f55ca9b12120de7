use Rattle.std.proofs.Common.{rules}
use Rattle.ch_rowbook.proofs.blank.Blank.new.Goals as goal

pub returns : goal.returns
returns c = search rules
