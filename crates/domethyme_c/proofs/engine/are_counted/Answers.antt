use Rattle.std.proofs.Common.{◌≡◌, ◌+◌, ◌<◌, ◌∙◌, sym, arith}
use Rattle.std.specs.List.{range_with_len}
use Rattle.std.proofs.lemmas.Grind.{same_number_lists}
use Rattle.std.proofs.lemmas.List.FromFn.{length-range_with_len, get_or-range_with_len}
use Rattle.domethyme_c.proofs.engine.are_counted.Goals as goal

pub returns : goal.returns
returns c told =
    let same = c.if-numbers-count.false in
    let done = c.numbers-test.false in
    same_number_lists c.args.numbers.now (range_with_len 0 c.args.count) (omega (arith, same, length-range_with_len 0 c.args.count)) (λ k low.
    let here : 0 + k ≡ k = omega arith in
    let within : k < c.args.count = omega (arith, same, low) in
    c.numbers.invariant k (omega (arith, done, low)) ∙ sym (get_or-range_with_len 0 c.args.count k 0 within ∙ here))
