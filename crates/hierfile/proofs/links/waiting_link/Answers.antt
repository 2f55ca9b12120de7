use Rattle.std.proofs.Common.{ℕ, ◌≡◌, ◌+◌, ◌++◌, List, length, ap, ◌∙◌, arith, length-append}
use Rattle.hierfile.proofs.PartAfterPart.{parts_then}
use Rattle.hierfile.proofs.FaultsOfParts.{length-word, length-long, length-arcs}
use Rattle.hierfile.specs.Spelling.{word, long, arcs_bytes, link_bytes}
use Rattle.ch_cost.specs.Cost.Numbers.{length_of-of_walk, arcs_of-of_walk}
use Rattle.hierfile.proofs.links.waiting_link.Goals as goal

-- how many bytes wait behind these
behind : (whole bytes rest : List ℕ) → whole ≡ bytes ++ rest → length whole ≡ length bytes + length rest
behind whole bytes rest is = ap length is ∙ length-append bytes rest

pub waiting_word-to-requires : goal.waiting_word-to-requires
waiting_word-to-requires c = omega (arith, behind _ (word c.waiting_word-from.result) c.waiting_word-from.new.self.waiting c.waiting_word-from.ensures.taken, length-word c.waiting_word-from.result)

pub waiting_long-weight-requires : goal.waiting_long-weight-requires
waiting_long-weight-requires c = omega (
  arith,
  behind _ (word c.waiting_word-from.result) c.waiting_word-from.new.self.waiting c.waiting_word-from.ensures.taken,
  length-word c.waiting_word-from.result,
  behind _ (word c.waiting_word-to.result) c.waiting_word-to.new.self.waiting c.waiting_word-to.ensures.taken,
  length-word c.waiting_word-to.result,
)

pub waiting_arcs-arcs-requires : goal.waiting_arcs-arcs-requires
waiting_arcs-arcs-requires c = omega (
  arith,
  behind _ (word c.waiting_word-from.result) c.waiting_word-from.new.self.waiting c.waiting_word-from.ensures.taken,
  length-word c.waiting_word-from.result,
  behind _ (word c.waiting_word-to.result) c.waiting_word-to.new.self.waiting c.waiting_word-to.ensures.taken,
  length-word c.waiting_word-to.result,
  behind _ (long c.waiting_long-weight.result) c.waiting_long-weight.new.self.waiting c.waiting_long-weight.ensures.taken,
  length-long c.waiting_long-weight.result,
)

pub waiting_word-middle-requires : goal.waiting_word-middle-requires
waiting_word-middle-requires c = omega (
  arith,
  behind _ (word c.waiting_word-from.result) c.waiting_word-from.new.self.waiting c.waiting_word-from.ensures.taken,
  length-word c.waiting_word-from.result,
  behind _ (word c.waiting_word-to.result) c.waiting_word-to.new.self.waiting c.waiting_word-to.ensures.taken,
  length-word c.waiting_word-to.result,
  behind _ (long c.waiting_long-weight.result) c.waiting_long-weight.new.self.waiting c.waiting_long-weight.ensures.taken,
  length-long c.waiting_long-weight.result,
  behind _ (arcs_bytes c.args.version c.waiting_arcs-arcs.result) c.waiting_arcs-arcs.new.input.waiting c.waiting_arcs-arcs.ensures.taken,
  length-arcs c.args.version c.waiting_arcs-arcs.result,
)

pub returns-clause-taken : goal.returns-clause-taken
unfolding link_bytes
returns-clause-taken c =
    let from = c.waiting_word-from.ensures.taken in
    let to = c.waiting_word-to.ensures.taken in
    let weight = c.waiting_long-weight.ensures.taken in
    let arcs = c.waiting_arcs-arcs.ensures.taken in
    let middle = c.waiting_word-middle.ensures.taken in
    rw (c.of_walk.ensures, length_of-of_walk c.waiting_long-weight.result c.waiting_arcs-arcs.result, arcs_of-of_walk c.waiting_long-weight.result c.waiting_arcs-arcs.result, c.middle_of.ensures.number)
    (parts_then _ _ _ _ _ (parts_then _ _ _ _ _ (parts_then _ _ _ _ _ (parts_then _ _ _ _ _ from to) weight) arcs) middle)

pub returns-clause-writable : goal.returns-clause-writable
returns-clause-writable c = record {
  from = omega arith;
  to = omega arith;
  cost = rw (c.of_walk.ensures, length_of-of_walk c.waiting_long-weight.result c.waiting_arcs-arcs.result) (omega arith);
  arcs = rw (c.of_walk.ensures, arcs_of-of_walk c.waiting_long-weight.result c.waiting_arcs-arcs.result) c.waiting_arcs-arcs.ensures.told;
  middle = c.middle_of.ensures.node;
}
