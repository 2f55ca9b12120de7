-- Rows are the same where their entries and their ranks are.
use Rattle.std.proofs.Common.{ℕ, ◌≡◌, Bool, ◌&&◌, ◌==◌, List, Option, ap, subst, ◌∙◌}
use Rattle.std.specs.Bool.{Decides}
use Rattle.std.specs.Cmp.{unsigned_Decides}
use Rattle.std.specs.Cmp.Lexicographic.{pointwise}
use Rattle.std.proofs.lemmas.Bool.Decides.{Decides-and}
use Rattle.std.proofs.lemmas.Slice.Eq.{slice_eq-Decides}
use Rattle.ch_cost.specs.declared.cost.Cost.{Cost}
use Rattle.ch_cost.specs.Cost.{same}
use Rattle.ch_cost.specs.Cost.Laws.{equal-from_same, same-from_equal}
use Rattle.ch_laws.specs.declared.entry.Entry.{Entry}
use Rattle.ch_graph.specs.Middle.{same_middles, same_middles-Decides}
use Rattle.ch_laws.specs.Rows.{Row}

cost_decides : (a b : Cost) → Decides (same a b) (a ≡ b)
cost_decides a b = (equal-from_same a b, same-from_equal a b)

entry : ℕ → Cost → Option ℕ → Entry
entry other cost middle = record { other = other; cost = cost; middle = middle }

-- entries are the same where their three parts are
entry_decides : (a b : Entry) → Decides (a.other == b.other && (same_middles a.middle b.middle && same a.cost b.cost)) (a ≡ b)
unfolding entry
entry_decides a b =
    let parts = Decides-and (a.other == b.other) (same_middles a.middle b.middle && same a.cost b.cost) (unsigned_Decides a.other b.other) (Decides-and (same_middles a.middle b.middle) (same a.cost b.cost) (same_middles-Decides a.middle b.middle) (cost_decides a.cost b.cost)) in (
      λ e. let is = parts.0 e in ap (λ x. entry x a.cost a.middle) is.0 ∙ ap (λ x. entry b.other a.cost x) is.1.0 ∙ ap (λ (x : Cost). entry b.other x b.middle) is.1.1,
      λ e. parts.1 (ap (λ (x : Entry). x.other) e, (ap (λ (x : Entry). x.middle) e, ap (λ (x : Entry). x.cost) e)),
    )

row : List Entry → List Entry → Option ℕ → Row
row out inn rank = record { out = out; inn = inn; rank = rank }

-- and rows, by three tests
pub row_decides : (q r : Row) (rank out inn : Bool) → Decides rank (q.rank ≡ r.rank) → Decides out (q.out ≡ r.out) → Decides inn (q.inn ≡ r.inn) → Decides ((rank && out) && inn) (q ≡ r)
unfolding row
row_decides q r rank out inn ranks outs inns =
    let parts = Decides-and (rank && out) inn (Decides-and rank out ranks outs) inns in (
      λ e. let is = parts.0 e in ap (λ x. row q.out q.inn x) is.0.0 ∙ ap (λ x. row x q.inn r.rank) is.0.1 ∙ ap (λ x. row r.out x r.rank) is.1,
      λ e. parts.1 ((ap (λ (x : Row). x.rank) e, ap (λ (x : Row). x.out) e), ap (λ (x : Row). x.inn) e),
    )

-- what `==` returns for two lists of entries
pub entries_decide : (xs ys as_xs as_ys : List Entry) (r : Bool) → as_xs ≡ xs → as_ys ≡ ys → r ≡ pointwise (λ (a b : Entry). a.other == b.other && (same_middles a.middle b.middle && same a.cost b.cost)) as_xs as_ys → Decides r (xs ≡ ys)
entries_decide xs ys as_xs as_ys r first second e =
    subst (λ zs. Decides r (zs ≡ ys)) first (subst (λ zs. Decides r (as_xs ≡ zs)) second (slice_eq-Decides entry_decides as_xs as_ys r e))
