use Rattle.std.proofs.Common.{Option, ℕ, ◌≡◌, List, Bor, map, refl, sym, ◌∙◌, subst}
use Rattle.std.specs.List.Sorted.{IsPermutation}
use Rattle.ch_laws.specs.Members.{map-map}
use Rattle.ch_laws.specs.Rows.{Row}
use Rattle.ch_overlay.specs.declared.row.Row as declared
use Rattle.ch_overlay.specs.Placing.{out_place, in_place}
use Rattle.ch_overlay.proofs.prepared.prepare.Goals as goal

near_nodes : (xs : List (ℕ × Bor declared.Row)) → map (λ (a : ℕ × Bor declared.Row). a.0) xs ≡ map (λ (a : ℕ × Row). a.0) (map (λ (a : ℕ × Bor declared.Row). (a.0, a.1.now)) xs)
near_nodes xs = sym (map-map (λ (a : ℕ × Bor declared.Row). (a.0, a.1.now)) (λ (a : ℕ × Row). a.0) xs)

pub returns : goal.returns
returns c =
    record {
      of_node = refl;
      same = c.in_ok-row.ensures;
      nodes = c.in_ok-others.ensures.nodes_are ∙ near_nodes c.args.near.now;
      made = λ apart. c.in_ok-others.ensures.changed c.args.shortcuts.now (record {
        outs = subst (λ (m : Option ℕ). IsPermutation (map (out_place m) c.args.shortcuts.now) c.in_ok-out.out.placed.items) c.at-middle.ensures c.in_ok-out.ensures.all;
        inns = subst (λ (m : Option ℕ). IsPermutation (map (in_place m) c.args.shortcuts.now) c.in_ok-inn.inn.placed.items) c.at-middle.ensures c.in_ok-inn.ensures.all;
        apart = apart;
      });
    }

pub changed_rows-requires-clause-out_order : goal.changed_rows-requires-clause-out_order
changed_rows-requires-clause-out_order c = c.in_ok-out.ensures.order

pub changed_rows-requires-clause-inn_order : goal.changed_rows-requires-clause-inn_order
changed_rows-requires-clause-inn_order c = c.in_ok-inn.ensures.order
