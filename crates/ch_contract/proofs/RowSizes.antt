-- How many entries a row has, and how many shortcuts over it.
use Rattle.std.proofs.Common.{ℕ, ◌≡◌, ◌≢◌, ◌+◌, ◌*◌, ◌<◌, ◌≤◌, List, [], ◌∷◌, length, get_or, map, All, AllPairs, Contains, None, Some, arith, ap, subst, refl, ◌∙◌, inl, inr}
use Rattle.std.proofs.lemmas.Bool.{cases_eq, cases_lt}
use Rattle.std.proofs.lemmas.Nat.{mul-le}
use Rattle.std.proofs.lemmas.List.{get_or_default, length-map}
use Rattle.std.proofs.lemmas.List.Elements.{All-head, All-map, All-tail}
use Rattle.ch_cost.specs.declared.cost.Cost.{Cost}
use Rattle.ch_cost.specs.Cost.{zero_cost}
use Rattle.ch_laws.specs.declared.entry.Entry.{Entry}
use Rattle.ch_laws.specs.declared.shortcut.Shortcut.{Shortcut}
use Rattle.ch_laws.specs.Rows.{Row, Rises, Lists}
use Rattle.ch_laws.specs.Members.{contains_first, contains_later, pairs_first, pairs_later}
use Rattle.ch_overlay.specs.Overlay.{IsEntry}
use Rattle.ch_laws.specs.Verdicts.{ListsThrough}
use Rattle.ch_overlay.specs.Source.{row_of}
use Rattle.ch_overlay.specs.Ranges.{AllPairs-head, pairs-map, rising-short}
use Rattle.ch_contract.specs.Proposal.{Proposal, IsProposal, ShortcutBefore}
use Rattle.ch_contract.proofs.VerdictOfPair.{same_row}

-- a rising list of numbers from a on and below n that leaves one of these out
rising-missing : (xs : List ℕ) (a n x : ℕ) → a ≤ x → x < n → AllPairs (λ y z. y < z) xs → All (λ y. (a ≤ y) × (y < n) × (y ≢ x)) xs → length xs + a < n
rising-missing [] a n x low high rises within = omega (arith, low, high)
rising-missing (y ∷ ys) a n x low high rises within =
    let head : (a ≤ y) × (y < n) × (y ≢ x) = All-head (λ z. (a ≤ z) × (z < n) × (z ≢ x)) y ys within in
    let above : All (λ z. y < z) ys = AllPairs-head (λ z t. z < t) y ys rises in
    elim (cases_lt y x) [
      | inl less ↦
          let rest : All (λ z. (a + 1 ≤ z) × (z < n) × (z ≢ x)) ys = λ k d h. let t = All-tail (λ z. (a ≤ z) × (z < n) × (z ≢ x)) y ys within k d h in (omega (arith, above k d h, head.0), t.1, t.2) in
          let short = rising-missing ys (a + 1) n x (omega (arith, less, head.0)) high (pairs_later (λ z t. z < t) y ys rises) rest in
          omega (arith, short)
      | inr past ↦
          let over : x < y = omega (arith, past, head.2) in
          let rest : All (λ z. (y + 1 ≤ z) × (z < n)) ys = λ k d h. let t = All-tail (λ z. (a ≤ z) × (z < n) × (z ≢ x)) y ys within k d h in (omega (arith, above k d h), t.1) in
          let short = rising-short ys (y + 1) n (omega (arith, head.1)) (pairs_later (λ z t. z < t) y ys rises) rest in
          omega (arith, short, low, over)
    ]

-- a row has an entry for fewer nodes than there can be, since none is for its own
pub few_entries : (n x : ℕ) (bound : Cost) (es : List Entry) → x < n → Rises es → All (IsEntry n bound x) es → length es < n
few_entries n x bound es inside rises entries =
    let f = λ (e : Entry). e.other in
    let each : All (λ (e : Entry). (0 ≤ e.other) × (e.other < n) × (e.other ≢ x)) es = λ k d h. (omega arith, (entries k d h).in_range, (entries k d h).apart) in
    let short = rising-missing (map f es) 0 n x (omega arith) inside (pairs-map (λ y z. y < z) f es rises) (All-map (λ y. (0 ≤ y) × (y < n) × (y ≢ x)) f es each) in
    omega (arith, short, length-map es f)

-- the places of two entries, by their nodes
place_less : (es : List Entry) → Rises es → (i j : ℕ) (d : Entry) → i < length es → j < length es → (get_or es i d).other < (get_or es j d).other → i < j
place_less es rises i j d first second less = elim (cases_lt i j) [
  | inl low ↦ low
  | inr past ↦ elim (cases_eq i j) [
    | inl same ↦ absurd (omega (arith, less, ap (λ k. (get_or es k d).other) same))
    | inr apart ↦ absurd (omega (arith, less, rises j i d (omega (arith, past, apart)) first))
  ]
]

-- the place of a pair, by the places of its two entries
record IsPlace (inns outs : List Entry) (p : Shortcut) (k : ℕ) : Type 0 where
  i : ℕ
  j : ℕ
  i_in : i < length inns
  j_in : j < length outs
  from : (d : Entry) → (get_or inns i d).other ≡ p.from
  to : (d : Entry) → (get_or outs j d).other ≡ p.to
  is : k ≡ i * length outs + j

row-below : (m a b p q : ℕ) → a < b → p < m → a * m + p < b * m + q
row-below m a b p q less inside =
    let rows : (a + 1) * m ≤ b * m = mul-le (a + 1) m b m (omega (arith, less)) (omega arith) in
    omega (arith, rows, inside)

module _ (inns outs : List Entry) (inn : Rises inns) (out : Rises outs) where
  places_rise : (p q : Shortcut) (j k : ℕ) (d : Entry) → ShortcutBefore p q → IsPlace inns outs p j → IsPlace inns outs q k → j < k
  places_rise p q j k d before first second = elim before [
    | inl less ↦
        let low = place_less inns inn first.i second.i d first.i_in second.i_in (omega (arith, less, first.from d, second.from d)) in
        omega (arith, first.is, second.is, row-below (length outs) first.i second.i first.j second.j low first.j_in)
    | inr both ↦
        let not-less : first.i < second.i → ⊥ = λ less. omega (arith, inn first.i second.i d less second.i_in, first.from d, second.from d, both.0) in
        let not-more : second.i < first.i → ⊥ = λ more. omega (arith, inn second.i first.i d more first.i_in, first.from d, second.from d, both.0) in
        let same : first.i ≡ second.i = omega (arith, not-less, not-more) in
        let low = place_less outs out first.j second.j d first.j_in second.j_in (omega (arith, both.1, first.to d, second.to d)) in
        omega (arith, first.is, second.is, low, ap (λ i. i * length outs) same)
  ]

  places-short : (ps : List Shortcut) (a n : ℕ) (d : Entry) → a ≤ n → AllPairs ShortcutBefore ps → ((p : Shortcut) → Contains ps p → (k : ℕ) × IsPlace inns outs p k × (a ≤ k) × (k < n)) → length ps + a ≤ n
  places-short [] a n d few sorted each = omega (arith, few)
  places-short (p ∷ ps) a n d few sorted each =
      let first = each p (contains_first p ps) in
      let k = first.0 in
      let rest : (q : Shortcut) → Contains ps q → (j : ℕ) × IsPlace inns outs q j × (k + 1 ≤ j) × (j < n) = λ q among.
      let at = each q (contains_later p ps q among) in
      (at.0, at.1, omega (arith, places_rise p q k at.0 d (pairs_first ShortcutBefore p ps sorted q among) first.1 at.1), at.3) in
      let short = places-short ps (k + 1) n d (omega (arith, first.3)) (pairs_later ShortcutBefore p ps sorted) rest in
      omega (arith, short, first.2)

  place_of : (p : Shortcut) (a b : Cost) → Lists inns p.from a → Lists outs p.to b → (k : ℕ) × IsPlace inns outs p k × (0 ≤ k) × (k < length inns * length outs)
  place_of p a b first second =
      let i = first.among.0 in
      let j = second.among.0 in (
        i * length outs + j,
        record {
          i = i;
          j = j;
          i_in = first.among.1;
          j_in = second.among.1;
          from = λ d. ap (λ (e : Entry). e.other) (get_or_default inns i d first.entry first.among.1 ∙ first.among.2) ∙ first.other;
          to = λ d. ap (λ (e : Entry). e.other) (get_or_default outs j d second.entry second.among.1 ∙ second.among.2) ∙ second.other;
          is = refl;
        },
        omega arith,
        omega (arith, row-below (length outs) i (length inns) j 0 first.among.1 second.among.1),
      )

-- sorted pairs of an entry of each list are no more than there are pairs of entries
pub few_pairs : (row : Row) (ps : List Shortcut) → Rises row.inn → Rises row.out → AllPairs ShortcutBefore ps → ((p : Shortcut) → Contains ps p → (a b : Cost) × Lists row.inn p.from a × Lists row.out p.to b) → length ps ≤ length row.inn * length row.out
few_pairs row ps inn out sorted each =
    let none : Entry = record { other = 0; cost = zero_cost; middle = None } in
    let short = places-short row.inn row.out inn out ps 0 (length row.inn * length row.out) none (omega arith) sorted (λ p among. let has = each p among in place_of row.inn row.out inn out p has.0 has.1 has.2 has.3) in
    omega (arith, short)

-- the shortcuts of a proposal are no more than the pairs of its row
pub few_shortcuts : (p : Proposal) → IsProposal p → (row : Row) → row_of p.rests_on p.node ≡ Some row → Rises row.inn → Rises row.out → length p.shortcuts ≤ length row.inn * length row.out
few_shortcuts p holds row read inn out = few_pairs row p.shortcuts inn out holds.sorted (λ q among.
    let through : ListsThrough row q.from q.to q.cost = subst (λ (r : Row). ListsThrough r q.from q.to q.cost) (same_row p holds row read holds.verdicts.row holds.verdicts.read) ((holds.verdicts.shortcuts q among).through) in
    (through.into, through.out, through.first, through.second))
