-- Links that are sorted by their ends, and the links of one more row.
use Rattle.std.proofs.Common.{ℕ, ◌≡◌, ◌+◌, ◌≤◌, false, List, [], ◌∷◌, ◌++◌, AllPairs, nat_cmp, is_lt, arith, ap, ◌∙◌}
use Rattle.std.specs.List.{flat_map, range_with_len}
use Rattle.std.specs.List.Sorted.{IsSortedBy}
use Rattle.std.specs.Ordering.{ordering_then}
use Rattle.std.proofs.lemmas.Bool.Decides.{nat_tests}
use Rattle.std.proofs.lemmas.Cmp.{nat_cmp_total, on_total, then_total}
use Rattle.std.proofs.lemmas.List.{append-nil}
use Rattle.std.proofs.lemmas.List.Concat.{flat_map-append}
use Rattle.std.proofs.lemmas.List.Sorted.{ranks_by, sorted_far}
use Rattle.ch_graph.specs.declared.link.Link.{Link}
use Rattle.ch_laws.specs.Rows.{Row}
use Rattle.ch_overlay.specs.Overlay.{row_at}
use Rattle.ch_overlay.specs.Ranges.{range_with_len-more}
use Rattle.ch_contract.specs.Finish.{row_links, links_below}

no_later : (a b c d : ℕ) → is_lt (ordering_then (nat_cmp c a) (nat_cmp d b)) ≡ false → (a ≤ c) × (a ≡ c → b ≤ d)
no_later a b c d e = (grind (arith, nat_tests, e), λ same. grind (arith, nat_tests, e, same))

pub sorted-pairs : (ls : List Link) → IsSortedBy (λ a b. is_lt (ordering_then (nat_cmp a.from b.from) (nat_cmp a.to b.to))) ls → AllPairs (λ a b. (a.from ≤ b.from) × (a.from ≡ b.from → a.to ≤ b.to)) ls
sorted-pairs ls up i j d low high =
    let order = then_total (on_total (λ (l : Link). l.from) nat_cmp_total) (on_total (λ (l : Link). l.to) nat_cmp_total) in
    no_later _ _ _ _ (sorted_far _ (ranks_by order (λ l. l)) ls up i j d (omega (arith, low)) high)

-- the links of one more row
pub links_below-more : (rows : List Row) (n : ℕ) → links_below rows (n + 1) ≡ links_below rows n ++ row_links (row_at rows n) n
links_below-more rows n =
    let f : ℕ → List Link = λ x. row_links (row_at rows x) x in
    let here : 0 + n ≡ n = omega arith in
    ap (flat_map f) (range_with_len-more 0 n) ∙ flat_map-append f (range_with_len 0 n) ((0 + n) ∷ []) ∙ ap (λ x. links_below rows n ++ flat_map f (x ∷ [])) here ∙ ap (λ ls. links_below rows n ++ ls) (append-nil (f n))
