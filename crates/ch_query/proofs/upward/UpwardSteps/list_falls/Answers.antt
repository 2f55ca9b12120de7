use Rattle.std.proofs.Common.{◌≡◌, ◌+◌, ◌<◌, slice_index, sym, subst, List, arith}
use Rattle.ch_query.specs.declared.fall.Fall.{Fall}
use Rattle.ch_query.specs.declared.side.Side.TheVariants.{Fall as falling}
use Rattle.ch_query.specs.Searching.{IsStepAt}
use Rattle.ch_query.specs.Ways.{fall_along}
use Rattle.ch_query.proofs.ListedFalls.{IsListing, listing-more, falls-here, falls-listed, fall-is}
use Rattle.ch_query.proofs.FollowedLinks.{step-made}
use Rattle.ch_query.proofs.upward.UpwardSteps.list_falls.Goals as goal

pub step_cost-requires : goal.step_cost-requires
step_cost-requires c = (
  falling,
  step-made c.requires.made c.requires.laid c.requires.rank_in c.places.invariant.from
      (omega (arith, c.places.invariant.end, c.places-test.true)),
)

pub places-preserved : goal.places-preserved
places-preserved c =
    let h = c.args.hierarchy.now in
    let links = c.args.self.now.links.items in
    let before : c.places.place < slice_index c.args.self.now.first.items (c.args.rank + 1) = omega (arith, c.places.invariant.end, c.places-test.true) in
    let step : IsStepAt h falling links c.args.self.now.steps.items c.places.place = step-made c.requires.made c.requires.laid
    c.requires.rank_in c.places.invariant.from before in
    let fall : Fall = record { tail = c.index.result.now.head; length = c.length-length.result } in
    let is : fall ≡ fall_along h (slice_index links c.places.place) = fall-is step c.index.ensures c.step_cost.ensures c.length-length.ensures in
    record {
      from = omega (arith, c.places.invariant.from);
      end = c.places.invariant.end;
      listing = subst (λ (fs : List Fall). IsListing h c.args.rank links (slice_index c.args.self.now.first.items c.args.rank) (c.places.place + 1) fs) (sym c.in_ok-push.ensures.items) (listing-more c.requires.made is
          (falls-here c.requires.made c.requires.laid c.requires.rank_in c.places.invariant.from before) c.places.invariant.listing);
    }

pub returns : goal.returns
returns c = record {
  falls = falls-listed c.requires.made c.requires.laid c.requires.rank_in
      (omega (arith, c.places.invariant.end, c.places-test.false)) c.places.invariant.listing;
}
