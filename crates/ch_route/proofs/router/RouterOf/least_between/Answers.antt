use Rattle.std.proofs.Common.{◌∙◌, Some, None, Err, ap}
use Rattle.std.specs.Prelude.{option_map}
use Rattle.ch_query.specs.declared.search.FoundBetween.{FoundBetween}
use Rattle.ch_graph.specs.Hierarchy.{Hierarchy}
use Rattle.ch_unpack.specs.Unpacking.{IsTooLong}
use Rattle.std.proofs.Common.{subst}
use Rattle.ch_route.proofs.RoutesAreLeast.{walk-of, value-of, node_at, found_between, long_between, is_too_long}
use Rattle.ch_route.proofs.router.RouterOf.least_between.Goals as goal

pub returns-in_default-clause-found : goal.returns-in_default-clause-found
returns-in_default-clause-found g c =
    value-of c.args.starts.now c.args.ends.now _ None c.self.view_is (ap (option_map (λ (f : FoundBetween). f.cost)) c.in_default.is) c.in_ok-found.ensures.value

pub returns-in_err-nodes-clause-too_long : goal.returns-in_err-nodes-clause-too_long
returns-in_err-nodes-clause-too_long g c is =
    let found = c.in-Some.found in
    let places = c.as_slice.result.now in
    let same = c.self.view_is in
    let walk = walk-of c.args.starts.now c.args.ends.now c.in_ok-found.field-0 found places same c.in-Some.is c.as_slice.ensures.value c.in_ok-found.ensures.walk in
    let value = value-of c.args.starts.now c.args.ends.now _ (Some found.cost) same (ap (option_map (λ (f : FoundBetween). f.cost)) c.in-Some.is) c.in_ok-found.ensures.value in
    let long = is_too_long c.from_residual-in_err-nodes.result c.in_err-nodes.field-0.0 c.from_residual-in_err-nodes.ensures.1 is in
    long_between c.places_name_links.ensures c.args.self.now c.args.starts.now c.args.ends.now found.start found.end places found.cost walk value
    (subst (λ (h : Hierarchy). IsTooLong h places) (c.hierarchy.ensures ∙ c.in_ok-found.ensures.kept ∙ same) (c.in_err-nodes.ensures.too_long (ap Err long)))

pub returns-clause-found : goal.returns-clause-found
returns-clause-found g c =
    let found = c.in-Some.found in
    let places = c.as_slice.result.now in
    let same = c.self.view_is in
    let walk = walk-of c.args.starts.now c.args.ends.now c.in_ok-found.field-0 found places same c.in-Some.is c.as_slice.ensures.value c.in_ok-found.ensures.walk in
    let value = value-of c.args.starts.now c.args.ends.now _ (Some found.cost) same (ap (option_map (λ (f : FoundBetween). f.cost)) c.in-Some.is) c.in_ok-found.ensures.value in
    found_between c.places_name_links.ensures _ c.args.self.now c.args.starts.now c.args.ends.now found.start found.end places found.cost walk (c.hierarchy.ensures ∙ c.in_ok-found.ensures.kept ∙ same) c.in_ok-nodes.ensures.nodes
    (node_at c.args.starts.now found.start walk.walk.start _ walk.walk.begins) value
