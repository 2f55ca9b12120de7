use Rattle.std.proofs.Common.{leb-true, le-leb}
use Rattle.ch_cost.specs.Cost.{length_of}
use Rattle.ch_cost.specs.Cost.Fields.{no_longer-from_fields, fields-from_no_longer}
use Rattle.ch_cost.proofs.cost.Cost.is_no_longer.Goals as goal

pub returns : goal.returns
returns c = rw (c.length.ensures, c.length-2.ensures) (
  λ e. no_longer-from_fields c.args.self c.args.bound (leb-true (length_of c.args.self) (length_of c.args.bound) e),
  λ h. le-leb (length_of c.args.self) (length_of c.args.bound) (fields-from_no_longer c.args.self c.args.bound h),
)
