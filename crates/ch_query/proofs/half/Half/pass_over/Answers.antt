use Rattle.std.proofs.Common.{ℕ, ◌≡◌, slice_index, sym, subst, arith}
use Rattle.ch_query.proofs.FollowedLinks.{IsPassing, passing-none, passing-more, passed_over, latest-more, step-made, foot-made}
use Rattle.ch_query.proofs.half.Half.pass_over.Goals as goal

pub loop-place-init : goal.loop-place-init
loop-place-init c =
    let h = c.args.self.now.hierarchy.now in
    let first = c.args.self.now.steps.now.first.items in
    let links = c.args.self.now.steps.now.links.items in
    let from : ℕ = slice_index first c.args.from.rank in
    let begin : c.get-begin.result ≡ from = c.get-begin.ensures in
    record {
      from = omega (arith, begin);
      end = c.get-end.ensures;
      passing = subst (λ n. IsPassing h c.args.self.now.side c.args.self.now.bound c.args.from.rank c.args.from.label.cost
          links from n c.args.limit c.args.here.now c.args.here.now) (sym begin) passing-none;
    }

pub follow-requires-clause-step : goal.follow-requires-clause-step
follow-requires-clause-step c =
    step-made c.requires.half.made c.requires.half.laid c.requires.rank_in c.loop-place.invariant.from
    (omega (arith, c.loop-place.invariant.end, c.loop-place-test.true))

pub follow-requires-clause-foot : goal.follow-requires-clause-foot
follow-requires-clause-foot c =
    foot-made c.requires.half.made c.requires.half.laid c.requires.rank_in c.loop-place.invariant.from
    (omega (arith, c.loop-place.invariant.end, c.loop-place-test.true))

pub follow-requires-clause-latest : goal.follow-requires-clause-latest
follow-requires-clause-latest c = latest-more c.loop-place.invariant.passing.opened c.requires.latest

pub loop-place-preserved : goal.loop-place-preserved
loop-place-preserved c = record {
  from = omega (arith, c.loop-place.invariant.from);
  end = c.loop-place.invariant.end;
  passing = passing-more c.loop-place.invariant.passing c.in_ok-follow.ensures.opened c.in_ok-follow.ensures.followed;
}

pub returns-clause-passed : goal.returns-clause-passed
returns-clause-passed c =
    passed_over c.requires.half.made c.requires.half.laid c.requires.rank_in
    (omega (arith, c.loop-place.invariant.end, c.loop-place-test.false)) c.loop-place.invariant.passing
