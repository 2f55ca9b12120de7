-- The queue of a search, as its entries come and go.
use Rattle.std.proofs.Common.{◌≡◌, ℕ, ◌⊎◌, false, List, [], ◌∷◌, zero, suc, refl, sym, subst, ap, ◌∙◌, inl, inr, arith}
use Rattle.std.proofs.lemmas.List.Elements.{All-nil, All-cons, All-head, All-tail, All-weaker, All-contains, All-from_recursion}
use Rattle.std.proofs.lemmas.List.Sorted.{All-permutation, Contains-permutation}
use Rattle.std.specs.List.{All, Contains}
use Rattle.std.specs.List.Sorted.{IsPermutation}
use Rattle.std.specs.Ordering.{is_lt}
use Rattle.std.specs.declared.cmp.Ordering.{Ordering}
use Rattle.std.specs.BinaryHeap.{IsHeap, IsUpperBound}
use Rattle.ch_graph.specs.declared.mark.Mark.{Mark}
use Rattle.ch_graph.specs.declared.mark.Mark.TheVariants.{Unseen, Open, Settled}
use Rattle.ch_graph.specs.Marks.{HasLabel, IsPut}
use Rattle.ch_graph.specs.Queue.{Entry, entry, entry_cmp, IsEntryOf, IsQueue}
use Rattle.ch_graph.specs.Marks.Laws.{cases_put, label_open, label_settled, one_label, unseen-open, open-settled, open-open}

-- Membership

module _ {K : Type 0} where
  contains_head : (x : Entry K) (xs : List (Entry K)) → Contains (x ∷ xs) x
  contains_head x xs = (0, omega arith, refl)

  contains_tail : (x y : Entry K) (xs : List (Entry K)) → Contains xs y → Contains (x ∷ xs) y
  contains_tail x y xs (k, h, e) = (suc k, omega (arith, h), e)

  pub contains_cases : (x y : Entry K) (xs : List (Entry K)) → Contains (x ∷ xs) y → (x ≡ y) ⊎ Contains xs y
  contains_cases x y xs (zero, h, e) = inl e
  contains_cases x y xs (suc k, h, e) = inr (k, omega (arith, h), e)

module _ {K L : Type 0} (AtMost : K → K → Type 0) (key : L → K) (cmp : K → K → Ordering) where
  -- nothing is seen, and nothing waits
  pub queue-new : (marks : ℕ → Mark L) (entries : List (Entry K)) → ((v : ℕ) → marks v ≡ Unseen) → entries ≡ [] → IsHeap (entry_cmp cmp) entries → IsQueue AtMost key cmp marks entries
  queue-new marks entries unseen no_entry heap = record {
    heap = heap;
    waits = λ v e is. absurd (unseen-open (sym (unseen v) ∙ is));
    known = subst (λ (xs : List (Entry K)). All (IsEntryOf AtMost key marks) xs) (sym no_entry) (All-nil (IsEntryOf AtMost key marks));
  }

  module _ (old new : ℕ → Mark L) (entries after : List (Entry K)) (queue : IsQueue AtMost key cmp old entries) where
    -- a node is opened with a label whose key is at most what the ones of older labels are, and put into the queue
    module _ (v : ℕ) (e : L) (put : IsPut old v (Open e) new) where
      open-waits : (u : ℕ) (d : L) → new u ≡ Open d → Contains (entry (key e) v ∷ entries) (entry (key d) u)
      open-waits u d is = elim (cases_put put u) [
        | inl w ↦
            let same : e ≡ d = open-open (sym w.reads ∙ is) in
            subst (λ (l : L). Contains (entry (key e) v ∷ entries) (entry (key l) u)) same (subst (λ n. Contains (entry (key e) v ∷ entries) (entry (key e) n)) (sym w.at) (contains_head (entry (key e) v) entries))
        | inr k ↦ contains_tail (entry (key e) v) (entry (key d) u) entries (queue.waits u d (sym k.reads ∙ is))
      ]

      open-stays : ((d : L) (k : K) → HasLabel (old v) d → AtMost (key d) k → AtMost (key e) k) → (x : Entry K) → IsEntryOf AtMost key old x → IsEntryOf AtMost key new x
      open-stays less x known = elim (cases_put put x.0.1) [
        | inl w ↦ (e, label_open (new x.0.1) e w.reads, less known.0 x.0.0 (subst (λ n. HasLabel (old n) known.0) w.at known.1) known.2)
        | inr k ↦ (known.0, subst (λ (m : Mark L). HasLabel m known.0) (sym k.reads) known.1, known.2)
      ]

      pub queue-open : AtMost (key e) (key e) → ((d : L) (k : K) → HasLabel (old v) d → AtMost (key d) k → AtMost (key e) k) → IsPermutation (entry (key e) v ∷ entries) after → IsHeap (entry_cmp cmp) after → IsQueue AtMost key cmp new after
      queue-open own less moved heap = record {
        heap = heap;
        waits = λ u d is. Contains-permutation (entry (key e) v ∷ entries) after (entry (key d) u) moved (open-waits u d is);
        known = All-permutation (IsEntryOf AtMost key new) (entry (key e) v ∷ entries) after moved
            (All-cons (IsEntryOf AtMost key new) (entry (key e) v) entries (e, label_open (new v) e put.here, own)
            (All-weaker (IsEntryOf AtMost key old) (IsEntryOf AtMost key new) (open-stays less) entries queue.known));
      }

    -- an entry was taken out
    module _ (x : Entry K) (moved : IsPermutation entries (x ∷ after)) where
      pub queue-popped : IsEntryOf AtMost key old x
      queue-popped = All-head (IsEntryOf AtMost key old) x after (All-permutation (IsEntryOf AtMost key old) entries (x ∷ after) moved queue.known)

      left : All (IsEntryOf AtMost key old) after
      left = All-tail (IsEntryOf AtMost key old) x after (All-permutation (IsEntryOf AtMost key old) entries (x ∷ after) moved queue.known)

      pop-waits : (v : ℕ) (e : L) → old v ≡ Open e → (v ≡ x.0.1 → ⊥) → Contains after (entry (key e) v)
      pop-waits v e is other = elim (contains_cases x (entry (key e) v) after (Contains-permutation entries (x ∷ after) (entry (key e) v) moved (queue.waits v e is))) [
        | inl this ↦ absurd (other (ap (λ (y : Entry K). y.0.1) (sym this)))
        | inr there ↦ there
      ]

      -- of a node that isn't open it is passed over
      pub queue-pass : IsHeap (entry_cmp cmp) after → ((e : L) → old x.0.1 ≡ Open e → ⊥) → IsQueue AtMost key cmp old after
      queue-pass heap closed = record {
        heap = heap;
        waits = λ v e is. pop-waits v e is (λ at. closed e (subst (λ n. old n ≡ Open e) at is));
        known = left;
      }

      -- and an open one is settled
      pub queue-settle : (e : L) → old x.0.1 ≡ Open e → IsPut old x.0.1 (Settled e) new → IsHeap (entry_cmp cmp) after → IsQueue AtMost key cmp new after
      queue-settle e opens put heap = record {
        heap = heap;
        waits = λ v d is. elim (cases_put put v) [
          | inl w ↦ absurd (open-settled (sym is ∙ w.reads))
          | inr k ↦ pop-waits v d (sym k.reads ∙ is) k.other
        ];
        known = All-weaker (IsEntryOf AtMost key old) (IsEntryOf AtMost key new) stays after left;
      }
        where
          stays : (y : Entry K) → IsEntryOf AtMost key old y → IsEntryOf AtMost key new y
          stays y known = elim (cases_put put y.0.1) [
            | inl w ↦
                let same : HasLabel (old x.0.1) known.0 = subst (λ n. HasLabel (old n) known.0) w.at known.1 in
                let own : HasLabel (old x.0.1) e = label_open (old x.0.1) e opens in
                let alike : known.0 ≡ e = one_label (old x.0.1) known.0 e same own in
                (e, label_settled (new y.0.1) e w.reads, subst (λ (l : L). AtMost (key l) y.0.0) alike known.2)
            | inr k ↦ (known.0, subst (λ (m : Mark L). HasLabel m known.0) (sym k.reads) known.1, known.2)
          ]

  -- no entry of an open node comes before the greatest of the heap
  pub queue-first : (marks : ℕ → Mark L) (entries : List (Entry K)) (x : Entry K) → IsQueue AtMost key cmp marks entries → IsUpperBound (entry_cmp cmp) x entries → (u : ℕ) (d : L) → marks u ≡ Open d → is_lt (entry_cmp cmp x (entry (key d) u)) ≡ false
  queue-first marks entries x queue top u d is = All-contains (λ (e : Entry K). is_lt (entry_cmp cmp x e) ≡ false) entries (entry (key d) u) (All-from_recursion (λ (e : Entry K). is_lt (entry_cmp cmp x e) ≡ false) entries top) (queue.waits u d is)
