use Rattle.std.proofs.Common.{◌≡◌, length, slice_index, subst, arith}
use Rattle.ch_table.specs.Selection.{lists_of}
use Rattle.ch_table.specs.Sums.{AreStepNumbersTo}
use Rattle.ch_table.proofs.StepLinks.{listed-all, listed-none}
use Rattle.ch_table.proofs.columns.Columns.list_numbers.Goals as goal

pub places-init : goal.places-init
places-init g c = listed-none c.args.search.now c.args.numbers.now (lists_of c.args.self.now) c.requires.selection c.args.listed.now c.requires.room

pub returns : goal.returns
returns g c =
    let whole : c.places.place ≡ length c.args.self.now.ranks.items = omega (arith, c.places-test.false, c.len-place-end.ensures, c.args.self.now.ranks.ok, c.places.auto.place-end) in
    listed-all c.args.search.now c.args.numbers.now (lists_of c.args.self.now) c.requires.selection c.places.listed
    (subst (λ n. AreStepNumbersTo c.args.search.now c.args.numbers.now (lists_of c.args.self.now) (slice_index (lists_of c.args.self.now).first n) c.places.listed) whole c.places.invariant)
