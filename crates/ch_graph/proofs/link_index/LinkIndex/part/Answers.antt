use Rattle.std.proofs.Common.{ℕ, ◌≡◌, ◌+◌, ◌<◌, List, length, slice_index, subst, sym, arith}
use Rattle.std.proofs.lemmas.List.{get_or_read}
use Rattle.ch_graph.specs.LinkIndex.{IsIndexOf, IsPartOf}
use Rattle.ch_graph.proofs.LinkParts.{part_of}
use Rattle.ch_graph.proofs.link_index.LinkIndex.part.Goals as goal

pub returns-then-node-len : goal.returns-then-node-len
returns-then-node-len c =
    let firsts : List ℕ = c.self.inside.firsts.items in
    let links = c.args.links.now in
    let from : ℕ = c.args.from in
    let there : from + 1 < length firsts = omega (arith, c.len.ensures, c.self.inside.firsts.ok, c.if-node-len.true) in
    let here : from < length firsts = omega arith in
    let is_index : IsIndexOf links firsts = subst (λ (n : List ℕ). IsIndexOf links n) (sym c.self.view_is) c.requires in
    let begin : c.index.result.now ≡ slice_index firsts from = get_or_read firsts from c.index.result.now here c.index.ensures 0 in
    let end : c.index-then-node-len.result.now ≡ slice_index firsts (from + 1) = get_or_read firsts (from + 1) c.index-then-node-len.result.now there c.index-then-node-len.ensures 0 in
    subst (λ n. IsPartOf links from n c.index-then-node-len.result.now) (sym begin) (subst (λ n. IsPartOf links from (slice_index firsts from) n) (sym end) (part_of from is_index there))
