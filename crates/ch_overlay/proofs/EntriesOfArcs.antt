-- The entries of rows are those of arcs.
use Rattle.std.proofs.Common.{ℕ, get_or, sym}
use Rattle.std.proofs.lemmas.List.Elements.{Contains-get_or}
use Rattle.ch_cost.specs.declared.cost.Cost.{Cost}
use Rattle.ch_laws.specs.Contraction.{State}
use Rattle.ch_laws.specs.Rows.{Row, IsRow, IsPlain}
use Rattle.ch_overlay.specs.Overlay.{AreEntries}

pub entries-sound : (bound : Cost) (s : State) (x : ℕ) (r : Row) → IsPlain bound s → IsRow s x r → AreEntries s.nodes bound x r
entries-sound bound s x r plain row = record {
  out = λ k d h.
      let e = get_or r.out k d in
      let arc = plain.arcs x e.other (record { cost = e.cost; middle = e.middle }) ((row.out e).0 (Contains-get_or r.out k d h)).0 in
      record { in_range = arc.to_in; apart = λ same. arc.apart (sym same); above = arc.above; within = arc.within };
  inn = λ k d h.
      let e = get_or r.inn k d in
      let arc = plain.arcs e.other x (record { cost = e.cost; middle = e.middle }) ((row.inn e).0 (Contains-get_or r.inn k d h)).0 in
      record { in_range = arc.from_in; apart = arc.apart; above = arc.above; within = arc.within };
}
