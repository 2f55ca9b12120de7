-- The links of ranks laid down, one rank after the other, and then the places of the ranks that they leave.
use Rattle.std.proofs.Common.{ℕ, ◌≡◌, ◌+◌, ◌-◌, ◌<◌, ◌≤◌, List, [], ◌∷◌, ◌++◌, length, get_or, map, slice_index, All, AllPairs, Contains, ap, sym, subst, ◌∙◌, inl, inr, arith}
use Rattle.std.proofs.lemmas.Bool.{cases_lt}
use Rattle.std.proofs.lemmas.List.{get_or_append_left, get_or-append-add, get_or_push, get_or-map, length-append, length-map}
use Rattle.ch_graph.specs.Hierarchy.{Hierarchy}
use Rattle.ch_query.specs.declared.fall.Fall.{Fall}
use Rattle.ch_query.specs.Ways.{AreFallsTo}
use Rattle.ch_table.specs.Selection.{AreEnds, ArePlaced, IsLaidDown, IsSelection, Selection}
use Rattle.ch_table.specs.Laying.{AreAllDown, AreDown, ArePlacesOf, IsAlong, IsDown, IsLaidMore}
use Rattle.ch_table.proofs.Ordered.{place-later, placed-among}

pub down-none : (h : Hierarchy) (ranks first tails lengths : List ℕ) → ranks ≡ [] → first ≡ 0 ∷ [] → tails ≡ [] → lengths ≡ [] → AreDown h ranks first tails lengths
down-none h ranks first tails lengths empty one none nothing = record {
  count = ap length one ∙ ap (λ (rs : List ℕ). length rs + 1) (sym empty);
  last = ap (λ (rs : List ℕ). slice_index first (length rs)) empty ∙ (ap (λ xs. slice_index xs 0) one ∙ sym (ap length none));
  even = ap length nothing ∙ sym (ap length none);
  down = λ p low. absurd (omega (arith, low, ap length empty));
}

module _ (h : Hierarchy) (ranks first tails lengths : List ℕ) (was : AreDown h ranks first tails lengths) (r : ℕ) (falls : List Fall) (are : AreFallsTo h r falls) where
  abbrev tail_of : Fall → ℕ
  tail_of f = f.tail

  abbrev long_of : Fall → ℕ
  long_of f = f.length

  abbrev new_ranks : List ℕ
  new_ranks = ranks ++ r ∷ []

  abbrev new_tails : List ℕ
  new_tails = tails ++ map (λ (f : Fall). f.tail) falls

  abbrev new_lengths : List ℕ
  new_lengths = lengths ++ map (λ (f : Fall). f.length) falls

  abbrev new_first : List ℕ
  new_first = first ++ length (tails ++ map (λ (f : Fall). f.tail) falls) ∷ []

  more-count : length (ranks ++ r ∷ []) ≡ length ranks + 1
  more-count = length-append ranks (r ∷ [])

  tails-count : length (tails ++ map (λ (f : Fall). f.tail) falls) ≡ length tails + length falls
  tails-count = length-append tails (map tail_of falls) ∙ ap (λ x. length tails + x) (length-map falls tail_of)

  first-old : (p : ℕ) → p ≤ length ranks → slice_index new_first p ≡ slice_index first p
  first-old p low = get_or_append_left first (length new_tails ∷ []) 0 p (omega (arith, low, was.count))

  first-new : slice_index (first ++ length (tails ++ map (λ (f : Fall). f.tail) falls) ∷ []) (length ranks + 1) ≡ length tails + length falls
  first-new = get_or_push first (length new_tails) 0 (length ranks + 1) was.count ∙ tails-count

  older : (p : ℕ) → p < length ranks → IsDown h new_ranks new_first new_tails new_lengths p
  older p low =
      let own : IsDown h ranks first tails lengths p = was.down p low in
      let begin : slice_index new_first p ≡ slice_index first p = first-old p (omega (arith, low)) in
      let end : slice_index new_first (p + 1) ≡ slice_index first (p + 1) = first-old (p + 1) (omega (arith, low)) in
      record {
        falls = own.falls;
        are = subst (λ q. AreFallsTo h q own.falls) (sym (get_or_append_left ranks (r ∷ []) 0 p low)) own.are;
        next = end ∙ (own.next ∙ ap (λ x. x + length own.falls) (sym begin));
        within = omega (arith, end, own.within, tails-count);
        each = λ i d i_in.
            let one : IsAlong tails lengths (slice_index first p + i) (get_or own.falls i d) = own.each i d i_in in
            let at_in : slice_index first p + i < length tails = omega (arith, i_in, own.next, own.within) in
            subst (λ x. IsAlong new_tails new_lengths (x + i) (get_or own.falls i d)) (sym begin) (record {
              tail = get_or_append_left tails (map tail_of falls) 0 (slice_index first p + i) at_in ∙ one.tail;
              long = get_or_append_left lengths (map long_of falls) 0 (slice_index first p + i) (omega (arith, at_in, was.even)) ∙ one.long;
            });
      }

  last : IsDown h new_ranks new_first new_tails new_lengths (length ranks)
  last = record {
    falls = falls;
    are = subst (λ q. AreFallsTo h q falls) (sym (get_or_push ranks r 0 (length ranks) (omega arith))) are;
    next = first-new ∙ ap (λ x. x + length falls) (sym (first-old (length ranks) (omega arith) ∙ was.last));
    within = omega (arith, first-new, tails-count);
    each = λ i d i_in.
        subst (λ x. IsAlong new_tails new_lengths (x + i) (get_or falls i d)) (sym (first-old (length ranks) (omega arith) ∙ was.last)) (record {
          tail = get_or-append-add tails (map tail_of falls) i 0 ∙ get_or-map tail_of falls i d 0 i_in;
          long = ap (λ x. slice_index new_lengths (x + i)) (sym was.even) ∙ (get_or-append-add lengths (map long_of falls) i 0 ∙ get_or-map long_of falls i d 0 i_in);
        });
  }

  down-next : AreDown h new_ranks new_first new_tails new_lengths
  down-next = record {
    count = length-append first (length new_tails ∷ []) ∙ (ap (λ x. x + 1) was.count ∙ ap (λ x. x + 1) (sym more-count));
    last = ap (slice_index new_first) more-count ∙ get_or_push first (length new_tails) 0 (length ranks + 1) was.count;
    even = length-append lengths (map long_of falls) ∙ (ap (λ x. x + length (map long_of falls)) was.even ∙ (ap (λ x. length tails + x) (length-map falls long_of) ∙ sym tails-count));
    down = λ p low. elim (cases_lt p (length ranks)) [
      | inl before ↦ older p before
      | inr here ↦
          let same : p ≡ length ranks = omega (arith, low, here, more-count) in
          subst (λ q. IsDown h new_ranks new_first new_tails new_lengths q) (sym same) last
    ];
  }

  pub down-more : (next_first next_tails next_lengths : List ℕ) → IsLaidMore falls first tails lengths next_first next_tails next_lengths → AreDown h (ranks ++ r ∷ []) next_first next_tails next_lengths
  down-more next_first next_tails next_lengths more =
      let firsts : next_first ≡ new_first = more.more_first ∙ ap (λ (ts : List ℕ). first ++ length ts ∷ []) more.more_tails in
      subst (λ (fs : List ℕ). AreDown h new_ranks fs next_tails next_lengths) (sym firsts)
      (subst (λ (ts : List ℕ). AreDown h new_ranks new_first ts next_lengths) (sym more.more_tails)
      (subst (λ (ls : List ℕ). AreDown h new_ranks new_first new_tails ls) (sym more.more_lengths) down-next))

-- With places for ranks they are the steps of a selection
pub down-placed : (h : Hierarchy) (nodes : ℕ) (ranks places first tails lengths placed : List ℕ) → AllPairs ◌<◌ ranks → ArePlaced nodes ranks places → All (Contains ranks) tails → ArePlacesOf places tails placed → AreDown h ranks first tails lengths
    → (p : ℕ) → p < length ranks → IsLaidDown h ranks first placed lengths p
down-placed h nodes ranks places first tails lengths placed rising at closed found down p p_in = record {
  falls = own.falls;
  are = own.are;
  next = own.next;
  within = omega (arith, own.within, found.count);
  each = λ i d i_in.
      let one : IsAlong tails lengths (slice_index first p + i) (get_or own.falls i d) = own.each i d i_in in
      let at_in : slice_index first p + i < length tails = omega (arith, i_in, own.next, own.within) in
      let place : slice_index placed (slice_index first p + i) ≡ slice_index places (slice_index tails (slice_index first p + i)) - 1 = found.each (slice_index first p + i) at_in in
      let there = placed-among nodes ranks places at (slice_index tails (slice_index first p + i)) (closed (slice_index first p + i) 0 at_in) in
      let rank : slice_index ranks (slice_index placed (slice_index first p + i)) ≡ (get_or own.falls i d).tail = ap (slice_index ranks) place ∙ (there.2 ∙ one.tail) in
      let tail_in : slice_index placed (slice_index first p + i) < length ranks = omega (arith, place, there.1) in
      record {
        later = place-later ranks rising p (slice_index placed (slice_index first p + i)) p_in tail_in (omega (arith, rank, (own.are.above i d i_in).above));
        tail_in = tail_in;
        tail = rank;
        long = one.long;
      };
}
  where
    own : IsDown h ranks first tails lengths p
    own = down.down p p_in

-- and with the places of the targets that selection
pub selection-is : {s : Selection} (h : Hierarchy) (targets first tails lengths : List ℕ) → AreAllDown h targets s.ranks first tails lengths → ArePlaced (length h.ranks) s.ranks s.places → AreEnds h targets s.ranks s.ends → ArePlacesOf s.places tails s.tails
    → s.targets ≡ targets → s.first ≡ first → s.lengths ≡ lengths → IsSelection h s
selection-is {s} h targets first tails lengths all placed ends found same_targets same_first same_lengths = record {
  ranks_in = all.above.in_range;
  ends = subst (λ (ts : List ℕ). AreEnds h ts s.ranks s.ends) (sym same_targets) ends;
  placed = placed;
  count = ap (λ (xs : List ℕ). length xs) same_first ∙ all.down.count;
  lengths = ap (λ (xs : List ℕ). length xs) same_lengths ∙ all.down.even ∙ sym found.count;
  laid = λ p low. subst (λ (fs : List ℕ). IsLaidDown h s.ranks fs s.tails s.lengths p) (sym same_first)
      (subst (λ (ls : List ℕ). IsLaidDown h s.ranks first s.tails ls p) (sym same_lengths)
      (down-placed h (length h.ranks) s.ranks s.places first tails lengths s.tails all.above.rising placed all.closed found all.down p low));
}
