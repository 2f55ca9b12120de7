-- Ranks are marked and listed, from the lowest up.
use Rattle.std.proofs.Common.{ℕ, ◌≡◌, ◌+◌, ◌-◌, ◌<◌, ◌≤◌, List, [], ◌∷◌, ◌++◌, length, get_or, map, take, set, drop, All, Contains, ap, refl, sym, subst, ◌∙◌, inl, inr, arith}
use Rattle.std.proofs.lemmas.Bool.{cases_eq, cases_lt}
use Rattle.std.proofs.lemmas.List.{get_or_past, get_or-drop, get_or_push, get_or_append_left, get_or-set_same, get_or-set_other, length-append, length-drop, length-set, take_all, take_more}
use Rattle.std.proofs.lemmas.List.Elements.{All-append, All-map, All-push, Contains-push, Contains-append_left}
use Rattle.std.proofs.lemmas.List.Quantifiers.{all_pairs_push}
use Rattle.memchr.specs.Find.{Nowhere, Passes, is_byte}
use Rattle.ch_graph.specs.Hierarchy.{Hierarchy, rank_of}
use Rattle.ch_query.specs.declared.fall.Fall.{Fall}
use Rattle.ch_query.specs.Ways.{AreFallsTo}
use Rattle.ch_table.specs.Selection.{AreRanksAbove}
use Rattle.ch_table.specs.Laying.{IsMarked, AreMarkedWith, AreListedTo}

-- a rank that is marked is one of the ranks
marked_in : (marks : List ℕ) (r : ℕ) → IsMarked marks r → r < length marks
marked_in marks r is = elim (cases_lt r (length marks)) [
  | inl low ↦ low
  | inr past ↦ absurd (omega (arith, is 0, get_or_past marks r 0 past))
]

pub listed-none : (h : Hierarchy) (targets marks ranks tails : List ℕ) → ranks ≡ [] → tails ≡ [] → length marks ≡ length h.ranks → All (λ t. IsMarked marks (rank_of h t)) targets → AreListedTo h targets marks ranks tails 0
listed-none h targets marks ranks tails is none nodes ends = record {
  nodes = nodes;
  few = omega (arith, ap length is);
  rising = λ p q d before within. absurd (omega (arith, within, ap length is));
  below = λ k d within. absurd (omega (arith, within, ap length is));
  ends = ends;
  listed = λ r before marked. absurd (omega (arith, before));
  left = λ k d within. absurd (omega (arith, within, ap length none));
}

module _ (h : Hierarchy) (targets ranks tails : List ℕ) (low : ℕ) where
  -- none from here to there is marked
  pub listed-skips : (marks : List ℕ) (there : ℕ) → low ≤ there → ((r : ℕ) → low ≤ r → r < there → IsMarked marks r → ⊥) → AreListedTo h targets marks ranks tails low → AreListedTo h targets marks ranks tails there
  listed-skips marks there on never was = record {
    nodes = was.nodes;
    few = omega (arith, was.few, on);
    rising = was.rising;
    below = λ k d within. omega (arith, was.below k d within, on);
    ends = was.ends;
    listed = λ r before marked. elim (cases_lt r low) [
      | inl earlier ↦ was.listed r earlier marked
      | inr from ↦ absurd (never r (omega (arith, from)) before marked)
    ];
    left = was.left;
  }

  -- the next one is, and the nodes that links to it leave are marked
  pub listed-more : (old new : List ℕ) (falls : List Fall) → low < length h.ranks → AreFallsTo h low falls → AreMarkedWith falls old new → All (λ t. rank_of h t < length h.ranks) targets
      → AreListedTo h targets old ranks tails low → AreListedTo h targets new (ranks ++ low ∷ []) (tails ++ map (λ (f : Fall). f.tail) falls) (low + 1)
  listed-more old new falls low_in are marked ends_in was = record {
    nodes = marked.count ∙ was.nodes;
    few = omega (arith, length-append ranks (low ∷ []), was.few);
    rising = all_pairs_push ◌<◌ ranks low was.rising was.below;
    below = All-push (λ r. r < low + 1) ranks low (λ k d within. omega (arith, was.below k d within)) (omega arith);
    ends = λ k d within. marked.kept (rank_of h (get_or targets k d)) (omega (arith, ends_in k d within, was.nodes)) (was.ends k d within);
    listed = λ r before is. elim (cases_lt r low) [
      | inl earlier ↦ Contains-append_left ranks (low ∷ []) r (was.listed r earlier (marked.below low r above earlier (omega (arith, earlier, low_in, was.nodes)) is))
      | inr last ↦
          let here : r ≡ low = omega (arith, before, last) in
          subst (Contains (ranks ++ low ∷ [])) (sym here) (Contains-push ranks low)
    ];
    left = All-append (IsMarked new) tails (map (λ (f : Fall). f.tail) falls) (λ k d within. marked.kept (get_or tails k d) (marked_in old (get_or tails k d) (was.left k d within)) (was.left k d within))
        (All-map (IsMarked new) (λ (f : Fall). f.tail) falls marked.tails);
  }
    where
      above : All (λ (f : Fall). low ≤ f.tail) falls
      above = λ k d within. omega (arith, (are.above k d within).above)

  -- all are: the links leave none that isn't listed
  module _ (marks : List ℕ) (whole : low ≡ length h.ranks) (is : AreListedTo h targets marks ranks tails low) where
    pub listed-all : All (λ t. rank_of h t < length h.ranks) targets → AreRanksAbove h targets ranks
    listed-all ends_in = record {
      few = omega (arith, is.few, whole);
      rising = is.rising;
      in_range = λ k d within. omega (arith, is.below k d within, whole);
      ends = λ k d within. is.listed (rank_of h (get_or targets k d)) (omega (arith, ends_in k d within, whole)) (is.ends k d within);
    }

    pub listed-closed : All (Contains ranks) tails
    listed-closed k d within = is.listed (get_or tails k d) (omega (arith, marked_in marks (get_or tails k d) (is.left k d within), is.nodes, whole)) (is.left k d within)

-- the marks from a rank on, as a slice has them
rest-drop : (marks : List ℕ) (low : ℕ) → take (length marks - low) (drop low marks) ≡ drop low marks
rest-drop marks low = take_all (length marks - low) (drop low marks) (omega (arith, length-drop low marks))

pub length-rest : (marks : List ℕ) (low : ℕ) → length (take (length marks - low) (drop low marks)) ≡ length marks - low
length-rest marks low = ap (λ (ms : List ℕ). length ms) (rest-drop marks low) ∙ length-drop low marks

-- before the first of them that is set none is
pub unmarked : (marks : List ℕ) (low skipped : ℕ) → Nowhere (Passes (is_byte 1) (take (length marks - low) (drop low marks))) 0 skipped → (r : ℕ) → low ≤ r → r < low + skipped → IsMarked marks r → ⊥
unmarked marks low skipped none r from to marked =
    let here : get_or (take (length marks - low) (drop low marks)) (r - low) 0 ≡ 1 =
    ap (λ (ms : List ℕ). get_or ms (r - low) 0) (rest-drop marks low) ∙ (get_or-drop low marks (r - low) 0 ∙ (ap (λ k. get_or marks k 0) (omega (arith, from)) ∙ marked 0)) in
    none (r - low) (omega arith) (omega (arith, from, to)) (ap (is_byte 1) here)

-- A list of marks, of which some are set
pub marked-none : (marks : List ℕ) (falls : List Fall) → AreMarkedWith (take 0 falls) marks marks
marked-none marks falls = record {
  count = refl;
  kept = λ r r_in is. is;
  below = λ n r all low r_in is. is;
  tails = λ k d within. absurd (omega (arith, within));
}

pub is_marked-set : (marks : List ℕ) (r q : ℕ) → r < length marks → IsMarked marks q → IsMarked (set marks r 1) q
is_marked-set marks r q r_in is d = elim (cases_eq q r) [
  | inl here ↦ ap (λ x. get_or (set marks r 1) x d) here ∙ get_or-set_same marks r 1 d r_in
  | inr other ↦ get_or-set_other marks r q 1 d other ∙ is d
]

pub is_marked-here : (marks : List ℕ) (r : ℕ) → r < length marks → IsMarked (set marks r 1) r
is_marked-here marks r r_in d = get_or-set_same marks r 1 d r_in

pub marked-more : (falls : List Fall) (n : ℕ) (f : Fall) (old new : List ℕ) → n < length falls → ((d : Fall) → get_or falls n d ≡ f) → f.tail < length old → AreMarkedWith (take n falls) old new → AreMarkedWith (take (n + 1) falls) old (set new f.tail 1)
marked-more falls n f old new n_in at tail_in was = record {
  count = length-set new f.tail 1 ∙ was.count;
  kept = λ r r_in is. is_marked-set new f.tail r tail_new (was.kept r r_in is);
  below = λ m r all low r_in is.
      let parts : All (λ (x : Fall). m ≤ x.tail) (take n falls ++ f ∷ []) = subst (All (λ (x : Fall). m ≤ x.tail)) longer all in
      let above : m ≤ f.tail = subst (λ (x : Fall). m ≤ x.tail) (get_or_push (take n falls) f f (length (take n falls)) refl) (parts (length (take n falls)) f (omega (arith, length-append (take n falls) (f ∷ [])))) in
      let other : r ≡ f.tail → ⊥ = λ same. omega (arith, same, above, low) in
      was.below m r (λ k d within. subst (λ (x : Fall). m ≤ x.tail) (get_or_append_left (take n falls) (f ∷ []) d k within) (parts k d (omega (arith, within, length-append (take n falls) (f ∷ []))))) low r_in
      (λ d. sym (get_or-set_other new f.tail r 1 d other) ∙ is d);
  tails = subst (All (λ (x : Fall). IsMarked (set new f.tail 1) x.tail)) (sym longer)
      (All-push (λ (x : Fall). IsMarked (set new f.tail 1) x.tail) (take n falls) f (λ k d within. is_marked-set new f.tail (get_or (take n falls) k d).tail tail_new (was.tails k d within)) (is_marked-here new f.tail tail_new));
}
  where
    tail_new : f.tail < length new
    tail_new = omega (arith, tail_in, was.count)

    longer : take (n + 1) falls ≡ take n falls ++ f ∷ []
    longer = take_more falls n f n_in ∙ ap (λ (x : Fall). take n falls ++ x ∷ []) (at f)
