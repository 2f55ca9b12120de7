use Rattle.std.proofs.Common.{length, ◌<◌, ap, sym, arith}
use Rattle.counted_io.specs.Sinks.Laws.{puts_as, puts_failed, puts_nothing, puts_then}
use Rattle.ch_graph.specs.declared.version.Version.TheVariants.{Two}
use Rattle.hierfile.specs.Spelling.{link_bytes}
use Rattle.hierfile.proofs.PartAfterPart.{spelled-more, spelled-rest}
use Rattle.hierfile.proofs.writing.write_links.Goals as goal

pub links-init : goal.links-init
links-init g c = puts_nothing _ _

pub links-preserved : goal.links-preserved
links-preserved g c =
    let within : c.links.link-index < length c.args.links.now = omega arith in
    puts_as (spelled-more (link_bytes Two) c.args.links.now c.links.link-index _ within) (puts_then c.links.invariant (puts_as (ap (link_bytes Two) c.link-item.is) c.write_link.ensures))

pub returns-then-has_failed : goal.returns-then-has_failed
returns-then-has_failed g c = puts_as (spelled-rest (link_bytes Two) c.args.links.now c.links.link-index) (puts_then c.links.invariant (puts_failed _ _ _ (sym c.if-has_failed.ensures)))
