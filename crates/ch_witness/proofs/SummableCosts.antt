-- What a search adds up is small enough to be a summand.
use Rattle.std.proofs.Common.{ℕ, ◌^◌, ◌-◌, ◌<◌, ◌≤◌, List, length, slice_index_or, subst, ap, ◌∙◌, arith}
use Rattle.ch_cost.specs.declared.cost.Cost.{Cost}
use Rattle.ch_cost.specs.Cost.{◌≼◌, IsWithin, IsInLimit, IsOfWalks}
use Rattle.ch_cost.specs.Cost.Laws.{at_most_trans, within_refl, no_longer-from_within, no_longer_at_most, in_limit-from_within, in_limit-from_walks, cost_of_arcs_in_limit, of_walks_one}
use Rattle.ch_laws.specs.declared.entry.Entry.{Entry}
use Rattle.ch_laws.specs.Rows.{Lists}
use Rattle.ch_overlay.specs.declared.source.Seen.{Seen}
use Rattle.ch_overlay.specs.Source.{row_in, IsBound, IsSeenRow}
use Rattle.ch_witness.specs.declared.label.Label.{Label}
use Rattle.ch_witness.specs.declared.rule.Rule.{Rule}
use Rattle.ch_witness.specs.declared.step.TreeNode.{TreeNode}
use Rattle.ch_witness.specs.Tree.{IsLabel}

bound_fits : {bound : Cost} → IsBound bound → IsInLimit bound
bound_fits h = in_limit-from_within h (cost_of_arcs_in_limit (2 ^ 25 - 1) (2 ^ 32 - 1) (omega arith) (omega arith))

pub reached_fits : {r : Rule} (steps : List TreeNode) (bound : Cost) (v : ℕ) (l : Label) → length steps ≤ 2 ^ 25 → r.cutoff ≼ bound → IsBound bound → IsLabel r steps v l → IsInLimit l.cost
reached_fits steps bound v l few cutoff limit known = in_limit-from_walks few known.fits (no_longer_at_most (at_most_trans known.at_most cutoff) (no_longer-from_within (within_refl bound))) (bound_fits limit)

pub entries_fit : {bound : Cost} (s : Seen) → IsBound bound → IsSeenRow bound s → (k : ℕ) (d : Entry) → k < length (row_in s).out → IsInLimit (slice_index_or (row_in s).out k d).cost
entries_fit {bound} s limit row k d h = in_limit-from_within (row.entries.out k d h).within (bound_fits limit)

pub entries_light : {bound : Cost} (s : Seen) → IsBound bound → IsSeenRow bound s → (v : ℕ) (d : Cost) → Lists (row_in s).out v d → IsOfWalks 1 d
entries_light {bound} s limit row v d listed =
    let within : IsWithin d bound = subst (λ (c : Cost). IsWithin c bound) (ap (λ (e : Entry). e.cost) listed.among.2 ∙ listed.costs) (row.entries.out listed.among.0 listed.entry listed.among.1).within in
    of_walks_one (2 ^ 25 - 1) (2 ^ 32 - 1) (omega arith) (omega arith) limit within
