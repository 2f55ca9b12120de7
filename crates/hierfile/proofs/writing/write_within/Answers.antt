use Rattle.std.proofs.Common.{◌≡◌, ◌++◌, List, All, length, refl, sym, ap, subst, arith}
use Rattle.std.specs.List.{flat_map}
use Rattle.counted_io.specs.Sinks.Laws.{finishes, puts_as, puts_then}
use Rattle.ch_graph.specs.declared.link.Link.{Link}
use Rattle.ch_graph.specs.declared.version.Version.{Version}
use Rattle.ch_graph.specs.declared.version.Version.TheVariants.{One, Two}
use Rattle.ch_graph.specs.Hierarchy.{Hierarchy, version_number}
use Rattle.hierfile.specs.Spelling.{word, head_bytes, link_bytes, bytes_of}
use Rattle.hierfile.specs.Bytes.{IsWritable}
use Rattle.hierfile.proofs.OneSpelling.{links_fit}
use Rattle.hierfile.proofs.writing.write_within.Goals as goal

is_two : (v : Version) → version_number v ≡ 2 → v ≡ Two
is_two One is = absurd (omega arith)
is_two Two is = refl

-- a hierarchy of version 2 is spelled by it
spelled_by_two : (h : Hierarchy) → version_number h.version ≡ 2 → head_bytes Two (length h.ranks) (length h.links) h.bound ++ flat_map word h.ranks ++ flat_map (link_bytes Two) h.links ≡ bytes_of h
spelled_by_two h is = ap (λ (v : Version). head_bytes v (length h.ranks) (length h.links) h.bound ++ flat_map word h.ranks ++ flat_map (link_bytes v) h.links) (sym (is_two h.version is))

pub returns : goal.returns
returns g c =
    let links = puts_as (ap (λ (l : List Link). flat_map (link_bytes Two) l) c.links.ensures.links) c.write_links.ensures in
    let file = puts_as (spelled_by_two c.args.hierarchy.now c.requires) (puts_then (puts_then c.write_head.ensures c.write_ranks.ensures) links) in
    let all = finishes c.new-sink.ensures file c.finish.ensures in
    record { writes = record { ok = all.ok; calls = all.calls; err = all.err; stopped = all.stopped } }

pub write_links-requires : goal.write_links-requires
write_links-requires g c =
    let h = c.args.hierarchy.now in
    let fit : All (IsWritable Two) h.links =
    subst (λ (v : Version). All (IsWritable v) h.links) (is_two h.version c.requires) (links_fit h c.links.ensures.made) in
    subst (All (IsWritable Two)) (sym c.links.ensures.links) fit
