-- Labels of what is least: looked at by equal means, and over one arc more.
use Rattle.std.proofs.Common.{ℕ, ◌≡◌, ◌+◌, ◌<◌, ◌≤◌, ◌⊎◌, Option, Some, None, ap, sym, subst, ◌∙◌, inl, inr, arith}
use Rattle.ch_cost.specs.declared.cost.Cost.{Cost}
use Rattle.ch_cost.specs.Cost.{◌⊕◌, ◌≼◌, length_of, IsNoLonger}
use Rattle.ch_cost.specs.Cost.Laws.{at_most_refl, at_most_trans, at_most-from_below, cases_cost, sum_at_most, length_of-sum, length_of-at_most, below-from_lengths}
use Rattle.ch_cost.specs.Cost.Numbers.{no_longer-from_lengths, lengths-from_no_longer}
use Rattle.ch_graph.specs.Walk.{IsLeastOrNone}
use Rattle.ch_table.specs.Labels.{IsLabel, label_of}

-- the same where the one has each cost that the other has
pub label-same : {P Q : Cost → Type 0} {bound : Cost} {n : ℕ} → ((c : Cost) → P c → Q c) → ((c : Cost) → Q c → P c) → IsLabel P bound n → IsLabel Q bound n
label-same {P} {Q} there back label = record { cost = label.cost; least = moved label.cost label.least; is = label.is }
  where
    moved : (v : Option Cost) → IsLeastOrNone P v → IsLeastOrNone Q v
    moved None none = λ c has. none c (back c has)
    moved (Some c) least = (there c least.0, λ d has. least.1 d (back d has))

-- no label is more than far, where all costs are short
pub label-most : {P : Cost → Type 0} {bound : Cost} {n : ℕ} → ((c : Cost) → P c → IsNoLonger c bound) → IsLabel P bound n → n ≤ length_of bound + 1
label-most {P} {bound} {n} short label = most label.cost label.least label.is
  where
    most : (v : Option Cost) → IsLeastOrNone P v → n ≡ label_of bound v → n ≤ length_of bound + 1
    most None none is = omega (arith, is)
    most (Some c) least is = omega (arith, is, lengths-from_no_longer c bound (short c least.0))

-- what has a cost over an arc of cost a: as much as something else with it, and short
pub record IsOver (Has : Cost → Type 0) (bound a c : Cost) : Type 0 where
  pub rest : Cost
  pub has : Has rest
  pub sum : c ≡ rest ⊕ a
  pub short : IsNoLonger c bound

module _ {P Q : Cost → Type 0} (bound a : Cost) (n m : ℕ) (short : (c : Cost) → P c → IsNoLonger c bound) where
  -- the costs over the arc are no less than the least one
  over-least : (d : Cost) → ((c : Cost) → Q c → d ≼ c) → (c : Cost) → IsOver Q bound a c → d ⊕ a ≼ c
  over-least d least c over = subst (λ (e : Cost). d ⊕ a ≼ e) (sym over.sum) (sum_at_most (least over.rest over.has) (at_most_refl a))

  -- the sum is less: it is the label
  pub label-less : IsLabel P bound n → IsLabel Q bound m → m + length_of a < n → IsLabel (λ (c : Cost). P c ⊎ IsOver Q bound a c) bound (m + length_of a)
  label-less here there less = by_costs here.cost here.least here.is there.cost there.least there.is
    where
      by_costs : (v : Option Cost) → IsLeastOrNone P v → n ≡ label_of bound v → (w : Option Cost) → IsLeastOrNone Q w → m ≡ label_of bound w → IsLabel (λ (c : Cost). P c ⊎ IsOver Q bound a c) bound (m + length_of a)
      by_costs v own is_own None none is = absurd (omega (arith, less, label-most short here, is))
      by_costs v own is_own (Some d) least is = record {
        cost = Some (d ⊕ a);
        least = (
          inr (record { rest = d; has = least.0; sum = λ i. d ⊕ a; short = fits }),
          λ c has. elim has [
            | inl old ↦ at_most-from_below (below-from_lengths (d ⊕ a) c (above v own is_own c old))
            | inr over ↦ over-least d least.1 c over
          ],
        );
        is = own_length;
      }
        where
          own_length : m + length_of a ≡ length_of (d ⊕ a)
          own_length = ap (λ x. x + length_of a) is ∙ sym (length_of-sum d a)

          fits : IsNoLonger (d ⊕ a) bound
          fits = no_longer-from_lengths (d ⊕ a) bound (omega (arith, own_length, less, label-most short here))

          above : (v : Option Cost) → IsLeastOrNone P v → n ≡ label_of bound v → (c : Cost) → P c → length_of (d ⊕ a) < length_of c
          above None none is_own c has = absurd (none c has)
          above (Some b) least is_own c has = omega (arith, own_length, less, is_own, length_of-at_most (least.1 c has))

  -- it isn't: the label stays
  pub label-stays : IsLabel P bound n → IsLabel Q bound m → n ≤ m + length_of a → IsLabel (λ (c : Cost). P c ⊎ IsOver Q bound a c) bound n
  label-stays here there more = by_costs here.cost here.least here.is there.cost there.least there.is
    where
      by_costs : (v : Option Cost) → IsLeastOrNone P v → n ≡ label_of bound v → (w : Option Cost) → IsLeastOrNone Q w → m ≡ label_of bound w → IsLabel (λ (c : Cost). P c ⊎ IsOver Q bound a c) bound n
      by_costs None own is_own None none is = record {
        cost = None;
        least = λ c has. elim has [ inl old ↦ own c old | inr over ↦ none over.rest over.has ];
        is = is_own;
      }
      by_costs (Some b) own is_own None none is = record {
        cost = Some b;
        least = (inl own.0, λ c has. elim has [ inl old ↦ own.1 c old | inr over ↦ absurd (none over.rest over.has) ]);
        is = is_own;
      }
      by_costs None own is_own (Some d) least is = record {
        cost = None;
        least = λ c has. elim has [
          | inl old ↦ own c old
          | inr over ↦
              let longer : length_of (d ⊕ a) ≤ length_of c = length_of-at_most (over-least d least.1 c over) in
              omega (arith, longer, length_of-sum d a, is, is_own, more, lengths-from_no_longer c bound over.short)
        ];
        is = is_own;
      }
      by_costs (Some b) own is_own (Some d) least is = elim (cases_cost (d ⊕ a) b) [
        | inl below ↦
            let shorter : length_of (d ⊕ a) ≤ length_of b = length_of-at_most (at_most-from_below below) in
            let as_long : n ≡ length_of (d ⊕ a) = omega (arith, shorter, length_of-sum d a, is, is_own, more) in
            let fits : IsNoLonger (d ⊕ a) bound = no_longer-from_lengths (d ⊕ a) bound (omega (arith, shorter, lengths-from_no_longer b bound (short b own.0))) in
            record {
              cost = Some (d ⊕ a);
              least = (
                inr (record { rest = d; has = least.0; sum = λ i. d ⊕ a; short = fits }),
                λ c has. elim has [
                  | inl old ↦ at_most_trans (at_most-from_below below) (own.1 c old)
                  | inr over ↦ over-least d least.1 c over
                ],
              );
              is = as_long;
            }
        | inr most ↦ record {
          cost = Some b;
          least = (inl own.0, λ c has. elim has [ inl old ↦ own.1 c old | inr over ↦ at_most_trans most (over-least d least.1 c over) ]);
          is = is_own;
        }
      ]
