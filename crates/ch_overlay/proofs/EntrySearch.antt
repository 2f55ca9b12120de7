-- A search by halves among entries that rise.
use Rattle.std.proofs.Common.{ℕ, ◌≡◌, ◌≢◌, ◌<◌, List, Contains, get_or, Ok, Err, arith, ap, sym, subst, refl, ◌∙◌, inl, inr}
use Rattle.std.specs.List.Sorted.{IsBinarySearchResult, IsNonDecreasingBy}
use Rattle.std.specs.Ordering.{nat_cmp, ordering_index}
use Rattle.std.proofs.lemmas.Cmp.{ranked}
use Rattle.std.proofs.lemmas.Bool.{cases_lt}
use Rattle.std.proofs.lemmas.Bool.Decides.{nat_tests}
use Rattle.ch_laws.specs.declared.entry.Entry.{Entry}
use Rattle.ch_laws.specs.Rows.{Rises}

module _ (es : List Entry) (rises : Rises es) (to : ℕ) where
  -- the comparisons with a node rise along the list
  comparisons_rise : IsNonDecreasingBy (λ (e : Entry). ordering_index (nat_cmp e.other to)) es
  comparisons_rise i j d low high =
      let up : (i < j) → (get_or es i d).other < (get_or es j d).other = λ less. rises i j d less high in
      let same : (i ≡ j) → (get_or es i d).other ≡ (get_or es j d).other = λ e. subst (λ k. (get_or es i d).other ≡ (get_or es k d).other) e refl in
      grind (arith, nat_tests, up, same)

  -- a place that was found has an entry for the node
  pub found_there : (place : ℕ) → IsBinarySearchResult (λ (e : Entry). nat_cmp e.other to) es (Ok place) → (d : Entry) → (get_or es place d).other ≡ to
  found_there place equal d = ranked _ to _ (sym (equal d))

  -- and where none was found no entry is for it
  pub none_there : (gap : ℕ) → IsBinarySearchResult (λ (e : Entry). nat_cmp e.other to) es (Err gap) → (e : Entry) → Contains es e → e.other ≢ to
  none_there gap parted e among same =
      let k = among.0 in
      let here : (get_or es k e).other ≡ to = ap (λ (f : Entry). f.other) among.2 ∙ same in
      elim (cases_lt k gap) [
        | inl low ↦ let less : (get_or es k e).other < to = ranked _ to _ (sym ((parted comparisons_rise).0 k e (omega arith) low)) in absurd (omega (arith, less, here))
        | inr high ↦ let more : to < (get_or es k e).other = ranked _ to _ (sym ((parted comparisons_rise).1 k e high among.1)) in absurd (omega (arith, more, here))
      ]
