-- Ways along rows that are kept are ways along them as they are returned.
use Rattle.std.proofs.Common.{ℕ, ◌≡◌, List, map, get_or, slice_index, Option, Some, None, Contains, ap, sym, subst, ◌∙◌}
use Rattle.std.specs.List.{All}
use Rattle.std.proofs.lemmas.Option.{IfSome_then}
use Rattle.std.proofs.lemmas.List.Elements.{Contains-get_or}
use Rattle.ch_laws.specs.Members.{contains-map, contains-mapped}
use Rattle.ch_laws.specs.Moving.{along_moved}
use Rattle.ch_cost.specs.declared.cost.Cost.{Cost}
use Rattle.ch_laws.specs.Rows.{Row}
use Rattle.ch_laws.specs.Verdicts.{SeenArc}
use Rattle.ch_overlay.specs.declared.source.Seen.{Seen}
use Rattle.ch_overlay.specs.Source.{row_in, row_of}
use Rattle.ch_overlay.specs.Finding.{row_among, row_found}
use Rattle.ch_witness.specs.declared.way.Way.{Way}
use Rattle.ch_witness.specs.Kept.{Kept, AreListed, IsKept}
use Rattle.ch_witness.specs.Ways.{AreUnrankedRows, AreWays, IsStartRead, IsWay, way_at}

-- the nodes of rows
abbrev pub nodes_of : List Seen → List ℕ
nodes_of seen = map (λ s. s.node) seen

seen-same : (a b : Seen) → Some a ≡ Some b → a ≡ b
seen-same a b e = cc

module _ {kept : Kept} (rows : List Seen) {listed : List Seen} (are : All (IsKept kept) rows) (listing : AreListed kept (nodes_of rows) listed) where
  -- what is among the rows is returned
  among_listed : (s : Seen) → Contains rows s → Contains listed s
  among_listed s among = listing.every s.node s (contains-map (λ (t : Seen). t.node) rows s among) (subst (IsKept kept) among.2 (are among.0 s among.1))

  -- and what is returned is among the rows
  among_rows : (s : Seen) → Contains listed s → Contains rows s
  among_rows s among =
      let t = contains-mapped (λ (u : Seen). u.node) rows s.node (listing.of_nodes s among) in
      let is : kept t.0.node ≡ Some t.0 = subst (IsKept kept) t.1.2 (are t.1.0 t.0 t.1.1) in
      let it : t.0 ≡ s = seen-same t.0 s (sym is ∙ subst (λ (n : ℕ). kept n ≡ Some s) (sym t.2) (listing.from_kept s among)) in
      subst (λ (u : Seen). Contains rows u) it t.1

  -- each row that is found among the rows is found among what is returned
  row_still : (x : ℕ) (r : Row) → row_of rows x ≡ Some r → row_of listed x ≡ Some r
  row_still x r is =
      let s = row_among rows x r is in
      subst (λ (n : ℕ). row_of listed n ≡ Some r) s.2
      (row_found listed listing.once s.0 (among_listed s.0 s.1) ∙ ap (λ (t : Row). Some t) s.3)

  arc_still : (avoid x y : ℕ) (c : Cost) → SeenArc (row_of rows) avoid x y c → SeenArc (row_of listed) avoid x y c
  arc_still avoid x y c arc = record {
    row = arc.row;
    read = row_still x arc.row arc.read;
    unranked = arc.unranked;
    listed = arc.listed;
    from_other = arc.from_other;
    to_other = arc.to_other;
  }

  way_still : (avoid from to : ℕ) (w : Way) → IsWay rows avoid from to w → IsWay listed avoid from to w
  way_still avoid from to w way = along_moved (SeenArc (row_of rows) avoid) (SeenArc (row_of listed) avoid) w.nodes.items from to w.cost (arc_still avoid) way

  pub ways_still : {from avoid : ℕ} {cutoff : Cost} {targets : List ℕ} {ways : List (Option Way)} → AreWays rows from avoid cutoff targets ways → AreWays listed from avoid cutoff targets ways
  ways_still {from} {avoid} {targets} {ways} w = record {
    many = w.many;
    leads = λ k h. IfSome_then (way_at ways k) {P = IsWay rows avoid from (slice_index targets k)} {Q = IsWay listed avoid from (slice_index targets k)} (w.leads k h) (way_still avoid from (slice_index targets k));
    at_most = w.at_most;
  }

  pub rows_still : AreUnrankedRows rows → AreUnrankedRows listed
  rows_still unlisted = record {
    once = listing.once;
    unranked = unranked;
  } where
    unranked : All (λ (s : Seen). (row_in s).rank ≡ None) listed
    unranked k d h =
        let among = among_rows (get_or listed k d) (Contains-get_or listed k d h) in
        subst (λ (u : Seen). (row_in u).rank ≡ None) among.2 (unlisted.unranked among.0 (get_or listed k d) among.1)

  pub start_still : {from : ℕ} {cutoff : Cost} {targets : List ℕ} {ways : List (Option Way)} {s : Seen} → IsStartRead rows from cutoff targets ways s → IsStartRead listed from cutoff targets ways s
  start_still {s} start = record {
    node = start.node;
    among = λ unranked. among_listed s (start.among unranked);
    direct = start.direct;
  }
