-- Verdicts by rows that are still those of the state make a lawful contraction.
use Rattle.std.proofs.Common.{ℕ, ◌≡◌, ◌<◌, List, Option, arith}
use Rattle.ch_cost.specs.declared.cost.Cost.{Cost}
use Rattle.ch_graph.specs.Graph.{Graph}
use Rattle.ch_graph.specs.Walk.Laws.{along_arcs}
use Rattle.ch_laws.specs.Contraction.{State, IsAlive, Through, Avoids, HasWitness, Shortcut, IsAllowed, IsPlan, IsWitnessed}
use Rattle.ch_laws.specs.Rows.{Entry, Row, arc_of, IsRow, Lists}
use Rattle.ch_laws.specs.Verdicts.{AreRead, SeenArc, HasWay, ListsThrough, IsForShortcut, AreVerdicts}
use Rattle.ch_laws.specs.Theorems.{VerdictsAreLawful}
use Rattle.ch_laws.proofs.SoundStates.{IsSound, reached-sound, sound-plain}
use Rattle.ch_laws.proofs.AliveRows.{row_tells_alive, shows-remaining}

module _ {g : Graph} {s : State} (sound : IsSound g s) where
  -- a node whose row lists an arc is a node
  listing_in_range : {x y : ℕ} {c : Cost} {r : Row} → IsRow s x r → Lists r.out y c → x < s.nodes
  listing_in_range {x} {y} {c} {r} row lists =
      let e : Entry = lists.entry in
      let here : s.arc x e.other ≡ arc_of e = ((row.out e).0 lists.among).0 in
      omega (arith, (sound.arcs x e.other (record { cost = e.cost; middle = e.middle }) here).from_in, sound.nodes)

  module _ {seen : ℕ → Option Row} (are : AreRead s seen) where
    -- an arc of a row that was read remains, and avoids v
    seen-avoids : {v : ℕ} (x y : ℕ) (c : Cost) → SeenArc seen v x y c → Avoids s v x y c
    seen-avoids x y c arc =
        let row : IsRow s x arc.row = are x arc.row arc.read in
        let alive : IsAlive s x = row_tells_alive (listing_in_range row arc.listed) row arc.unranked in
        record { remains = ((shows-remaining (sound-plain sound) row alive).out y c).1 arc.listed; from_other = arc.from_other; to_other = arc.to_other }

    -- so a way is a witness
    way-witness : {v u w : ℕ} {sum : Cost} → HasWay seen v u w sum → HasWitness s v u w sum
    way-witness way = record { cost = way.cost; walk = along_arcs seen-avoids way.way; at_most = way.at_most }

    module _ {bound : Cost} {v : ℕ} {put : List Shortcut} (low : v < s.nodes) (verdicts : AreVerdicts bound seen v put) where
      -- the row of v is its row, and v is alive
      its_row : IsRow s v verdicts.row
      its_row = are v verdicts.row verdicts.read

      its_alive : IsAlive s v
      its_alive = row_tells_alive low its_row verdicts.unranked

      -- the pairs that it lists are those by way of v
      through-listed : {u w : ℕ} {sum : Cost} → Through s v u w sum → ListsThrough verdicts.row u w sum
      through-listed {u} {w} h =
          let shows = shows-remaining (sound-plain sound) its_row its_alive in
          record { into = h.into; out = h.out; apart = h.apart; first = (shows.inn u h.into).0 h.first; second = (shows.out w h.out).0 h.second; adds = h.adds }

      listed-through : {u w : ℕ} {sum : Cost} → ListsThrough verdicts.row u w sum → Through s v u w sum
      listed-through {u} {w} h =
          let shows = shows-remaining (sound-plain sound) its_row its_alive in
          record { into = h.into; out = h.out; apart = h.apart; first = (shows.inn u h.into).1 h.first; second = (shows.out w h.out).1 h.second; adds = h.adds }

      -- a verdict for a shortcut allows it
      verdict-allowed : {p : Shortcut} → IsForShortcut bound seen verdicts.row p → IsAllowed bound s v p
      verdict-allowed {p} is =
          let through : Through s v p.from p.to p.cost = listed-through is.through in
          let first = shows-remaining (sound-plain sound) (are p.from is.first_row is.first_read) through.first.from_alive in
          record {
            through = through;
            within = is.within;
            less = λ c has. is.less first.unranked c ((first.out p.to c).0 (record { from_alive = through.first.from_alive; to_alive = through.second.to_alive; arc = has }));
          }

      verdicts-plan : IsPlan bound s v put
      verdicts-plan = record { alive = its_alive; once = verdicts.once; allowed = λ p among. verdict-allowed (verdicts.shortcuts p among) }

      -- and each other pair has a witness
      verdicts-witnessed : IsWitnessed bound s v put
      verdicts-witnessed u w sum through within none = way-witness (verdicts.ways u w sum (through-listed through) within none)

-- the law of verdicts
pub verdicts_are_lawful : VerdictsAreLawful
verdicts_are_lawful g log s seen v put is reached low are verdicts =
    let sound = reached-sound is reached in
    (verdicts-plan sound are low verdicts, verdicts-witnessed sound are low verdicts)
