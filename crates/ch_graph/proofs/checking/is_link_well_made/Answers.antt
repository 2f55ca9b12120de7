use Rattle.std.proofs.Common.{◌≡◌, true, arith}
use Rattle.std.proofs.lemmas.Bool.Decides.{nat_tests}
use Rattle.ch_graph.specs.Hierarchy.{Hierarchy}
use Rattle.ch_graph.proofs.LinkTests.{well_made, allowed-from_made, tested-from_made}
use Rattle.ch_graph.proofs.checking.is_link_well_made.Goals as goal

pub returns : goal.returns
returns c =
    let h : Hierarchy = record { version = c.args.version; ranks = c.args.ranks.now; links = c.args.links.now; bound = c.args.bound } in (
      λ test.
          let allowed : c.is_allowed.result ≡ true = grind (arith, nat_tests, test) in
          let tested : c.has_halves.result ≡ true = grind (arith, nat_tests, test) in
          well_made h (c.is_allowed.ensures.0 allowed) (c.has_halves.ensures.0 tested),
      λ made. grind (arith, nat_tests, c.is_allowed.ensures.1 (allowed-from_made made), c.has_halves.ensures.1 (tested-from_made made)),
    )
