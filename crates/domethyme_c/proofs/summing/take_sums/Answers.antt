use Rattle.std.proofs.Common.{◌≡◌, ◌<◌, length, subst, arith}
use Rattle.domethyme_c.specs.Starting.{AreTaken}
use Rattle.domethyme_c.proofs.Starts.{taken-none, taken-more}
use Rattle.domethyme_c.proofs.summing.take_sums.Goals as goal

pub places-init : goal.places-init
places-init c = record {
  within = omega arith;
  taken = taken-none c.args.lengths.now c.args.row.now c.args.others.now c.args.start c.args.added c.args.sums.now;
}

pub returns : goal.returns
returns c =
    let end : c.places.place ≡ length c.args.lengths.now = omega (arith, c.places.invariant.within, c.places-test.false) in
    subst (λ n. AreTaken c.args.lengths.now c.args.row.now c.args.others.now c.args.start c.args.added n c.args.sums.now c.places.sums) end c.places.invariant.taken

pub bounds-sums-place : goal.bounds-sums-place
bounds-sums-place c = omega (arith, c.places-test.true, c.places.invariant.taken.room, c.requires.sums)

pub bounds-sums-place-in-places : goal.bounds-sums-place-in-places
bounds-sums-place-in-places c = omega (arith, c.places-test.true, c.places.invariant.taken.room, c.requires.sums)

pub places-preserved : goal.places-preserved
places-preserved c =
    let low : c.places.place < length c.places.sums = omega (arith, c.places-test.true, c.places.invariant.taken.room, c.requires.sums) in
    record {
      within = omega (arith, c.places-test.true);
      taken = taken-more c.args.lengths.now c.args.row.now c.args.others.now c.args.start c.args.added c.places.place c.args.sums.now c.places.sums c.sum_taken.result low c.sum_taken.ensures c.places.invariant.taken;
    }
