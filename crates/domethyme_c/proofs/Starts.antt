-- Sums from several starts.
use Rattle.std.proofs.Common.{ℕ, ◌≡◌, ◌≢◌, ◌+◌, ◌^◌, ◌<◌, ◌≤◌, ◌∙◌, ◌⊎◌, Bool, true, false, List, [], ◌∷◌, All, length, replicate, set as put_at, get_or, slice_get, slice_index, Contains, Option, Some, None, map, option_map, ap, refl, sym, subst, inl, inr, arith}
use Rattle.std.specs.List.{range_with_len}
use Rattle.std.proofs.lemmas.Bool.{cases_eq, cases_lt}
use Rattle.std.proofs.lemmas.List.{get_or-replicate, get_or-set_same, get_or-set_other, length-replicate, length-set}
use Rattle.std.proofs.lemmas.List.FromFn.{length-range_with_len, get_or-range_with_len}
use Rattle.std.proofs.lemmas.Option.{slice_get-get_or}
use Rattle.ch_cost.specs.Cost.{length_of}
use Rattle.ch_cost.specs.Cost.Laws.{length_of-zero_cost}
use Rattle.ch_graph.specs.Graph.{Graph, ArcOf, IsLeastLength}
use Rattle.ch_graph.specs.Hierarchy.{Hierarchy}
use Rattle.ch_graph.specs.Walk.{Walk}
use Rattle.ch_laws.specs.ByWeight.{IsRightByWeight}
use Rattle.ch_query.specs.declared.seed.Seed.{Seed}
use Rattle.ch_query.specs.Ways.{free}
use Rattle.ch_route.specs.Between.{HasLengthBetween, IsLeastLengthBetween, IsLeastLengthWithin}
use Rattle.ch_route.specs.Routes.{or_none as or_no_length}
use Rattle.ch_sums.specs.Numbers.{AreGiven, IsSummed}
use Rattle.ch_sums.specs.declared.along.Summed.{Summed}
use Rattle.domethyme_c.specs.Answers.{AreWritten, IsLimit, IsReachAnswer, IsReachAnswer.found as reach_found, IsReachAnswer.bad_limit as reach_limit, IsReachAnswer.no_room as reach_room, IsReachAnswer.no_start as reach_start, IsReachAnswer.no_memory as reach_memory, IsReached, IsSeedFault, IsSeedFault.out_of_range, IsSeedFault.costly, IsSeedRefusal, IsSeedRefusal.fault, IsSeedRefusal.no_memory as seed_memory, seed_of}
use Rattle.domethyme_c.specs.Sets.{IsSet, IsSetOf}
use Rattle.domethyme_c.specs.Summing.{ArePut}
use Rattle.domethyme_c.specs.Starting.{AreSumsOfStarts, AreTaken, Attains, IsSumOfStart, IsSumOfStart.taken, IsSumOfStart.none, IsTaken}
use Rattle.domethyme_c.specs.Sums.{AreCells, HasSumFrom, IsReachSumsAnswer, IsReachSumsAnswer.no_start, IsReachSumsAnswer.no_memory, IsReachedSum, IsSumOrNone, cell_of}
use Rattle.domethyme_c.specs.declared.code.TheConstants.{NO_LENGTH, OK}
use Rattle.domethyme_c.specs.declared.seeds.SeedInfo.{SeedInfo}
use Rattle.domethyme_c.specs.declared.sums.SumInfo.{SumInfo}

-- Of one node

-- whether a start leads to a node in its length
attains : (n start m : ℕ) → n < 2 ^ 64 → Attains n start m ⊎ (Attains n start m → ⊥)
attains n start m within = elim (cases_eq n NO_LENGTH) [
  | inl far ↦ inr (λ is. is.some far)
  | inr some ↦ elim (cases_eq (start + m) n) [
    | inl same ↦ inl (record { some = some; within = within; sum = same })
    | inr other ↦ inr (λ is. other is.sum)
  ]
]

same_start : {s t : Seed} → Some s ≡ Some t → s ≡ t
same_start is = cc

-- one start more
pub start-more : (h : Hierarchy) (set : List ℕ) (starts : List Seed) (added : List ℕ) (count t n old new : ℕ) (start : Seed) (cell : SumInfo) → slice_get starts count ≡ Some start → IsSumOrNone h set start.node t cell
    → IsTaken n (length_of start.cost) cell.length cell.sum (slice_index added count) old new → IsSumOfStart h set starts added count t n old → IsSumOfStart h set starts added (count + 1) t n new
start-more h set starts added count t n old new start cell begins is step was = elim (attains n (length_of start.cost) cell.length step.within) [
  | inl leads ↦ taken count start cell (omega arith) begins is leads (step.attained leads)
  | inr not ↦ stays not was
]
  where
    stays : (Attains n (length_of start.cost) cell.length → ⊥) → IsSumOfStart h set starts added count t n old → IsSumOfStart h set starts added (count + 1) t n new
    stays not (taken k s c low at found leads sum) = taken k s c (omega (arith, low)) at found leads (step.other not ∙ sum)
    stays not (none empty each) = none (step.other not ∙ empty) (λ k s low at. elim (cases_lt k count) [
      | inl before ↦ each k s before at
      | inr last ↦
          let here : k ≡ count = omega (arith, low, last) in
          let same : start ≡ s = same_start (sym begins ∙ (ap (λ j. slice_get starts j) (sym here) ∙ at)) in
          subst (λ (x : Seed). (c : SumInfo) × IsSumOrNone h set x.node t c × (n < 2 ^ 64) × (Attains n (length_of x.cost) c.length → ⊥)) same (cell, is, step.within, not)
    ])

-- no start yet
pub starts-none : (h : Hierarchy) (set : List ℕ) (starts : List Seed) (added targets lengths : List ℕ) → length lengths ≡ length targets → AreSumsOfStarts h set starts added 0 targets lengths (replicate (length lengths) NO_LENGTH)
starts-none h set starts added targets lengths same = record {
  room = length-replicate (length lengths) NO_LENGTH;
  each = λ p low. none (get_or-replicate (length lengths) p NO_LENGTH 0 (omega (arith, low, same))) (λ k s before at. absurd (omega (arith, before)));
}

-- one node alone
pub one-in : (n x : ℕ) → x < n → All (λ s. s < n) (x ∷ [])
one-in n x within k d low = let first : 0 ≡ k = omega (arith, low) in subst (λ j. get_or (x ∷ []) j d < n) first within

-- Of each target

pub starts-more : (h : Hierarchy) (set : List ℕ) (starts : List Seed) (added : List ℕ) (count : ℕ) (targets lengths row others old new : List ℕ) (start : Seed) → length lengths ≡ length targets → slice_get starts count ≡ Some start
    → ((p : ℕ) → p < length targets → IsSumOrNone h set start.node (slice_index targets p) (record { length = slice_index row p; sum = slice_index others p }))
    → AreTaken lengths row others (length_of start.cost) (slice_index added count) (length lengths) old new → AreSumsOfStarts h set starts added count targets lengths old → AreSumsOfStarts h set starts added (count + 1) targets lengths new
starts-more h set starts added count targets lengths row others old new start same begins cells step was = record {
  room = step.room ∙ was.room;
  each = λ p low. start-more h set starts added count (slice_index targets p) (slice_index lengths p) (slice_index old p) (slice_index new p) start (record { length = slice_index row p; sum = slice_index others p }) begins (cells p low) (step.each p (omega (arith, low, same))) (was.each p low);
}

-- One node more has its sum
pub taken-none : (lengths row others : List ℕ) (start added : ℕ) (sums : List ℕ) → AreTaken lengths row others start added 0 sums sums
taken-none lengths row others start added sums = record {
  room = refl;
  each = λ p low. absurd (omega (arith, low));
  rest = λ p high. refl;
}

pub taken-more : (lengths row others : List ℕ) (start added n : ℕ) (old now : List ℕ) (sum : ℕ) → n < length now → IsTaken (slice_index lengths n) start (slice_index row n) (slice_index others n) added (slice_index now n) sum
    → AreTaken lengths row others start added n old now → AreTaken lengths row others start added (n + 1) old (put_at now n sum)
taken-more lengths row others start added n old now sum within is was = record {
  room = length-set now n sum ∙ was.room;
  each = λ p low. elim (cases_eq p n) [
    | inl here ↦
        let as_was : slice_index now n ≡ slice_index old n = was.rest n (omega arith) in
        let own : IsTaken (slice_index lengths n) start (slice_index row n) (slice_index others n) added (slice_index old n) (get_or (put_at now n sum) n 0) =
        subst (λ x. IsTaken (slice_index lengths n) start (slice_index row n) (slice_index others n) added x (get_or (put_at now n sum) n 0)) as_was
        (subst (IsTaken (slice_index lengths n) start (slice_index row n) (slice_index others n) added (slice_index now n)) (sym (get_or-set_same now n sum 0 within)) is) in
        subst (λ j. IsTaken (slice_index lengths j) start (slice_index row j) (slice_index others j) added (slice_index old j) (get_or (put_at now n sum) j 0)) (sym here) own
    | inr other ↦
        subst (IsTaken (slice_index lengths p) start (slice_index row p) (slice_index others p) added (slice_index old p)) (sym (get_or-set_other now n p sum 0 other)) (was.each p (omega (arith, low, other)))
  ];
  rest = λ p high.
      let other : p ≡ n → ⊥ = λ same. omega (arith, same, high) in
      get_or-set_other now n p sum 0 other ∙ was.rest p (omega (arith, high));
}

-- In a graph that the hierarchy is right for

some_length : (n : ℕ) (o : Option ℕ) → n ≡ or_no_length o → n ≢ NO_LENGTH → o ≡ Some n
some_length n None is some = absurd (some is)
some_length n (Some m) is some = ap (λ (x : ℕ). Some x) (sym is)

least_of : (g : Graph) (starts : List Seed) (v limit n : ℕ) → IsLeastLengthWithin g starts (free v ∷ []) limit (Some n) → IsLeastLengthBetween g starts (free v ∷ []) (Some n)
least_of g starts v limit n is = is.0

-- a length that was written is the least from some start
least-length : (h : Hierarchy) (g : Graph) (starts : List Seed) (limit v n : ℕ) → IsLimit limit → IsReached h starts limit v n → IsRightByWeight g h → n ≢ NO_LENGTH → IsLeastLengthBetween g starts (free v ∷ []) (Some n)
least-length h g starts limit v n (inl short) reached right some =
    let row = reached.within short in
    least_of g starts v limit n (subst (λ (o : Option ℕ). IsLeastLengthWithin g starts (free v ∷ []) limit o) (some_length n row.length row.written some) (row.by_weight g right))
least-length h g starts limit v n (inr all) reached right some =
    let row = reached.unlimited all in
    subst (λ (o : Option ℕ). IsLeastLengthBetween g starts (free v ∷ []) o) (some_length n row.length row.written some) (row.by_weight g right)

only_end : (v : ℕ) (stop : Seed) → Contains (free v ∷ []) stop → stop ≡ free v
only_end v stop (k, low, is) = let first : k ≡ 0 = omega (arith, low) in sym (ap (λ j. get_or (free v ∷ []) j stop) (sym first) ∙ is)

-- so some start attains it
module _ (h : Hierarchy) (set given : List ℕ) (g : Graph) (number : ℕ → ℕ → ℕ) (made : IsSetOf h given set) (right : IsRightByWeight g h) (told : AreGiven h given number) (starts : List Seed) (added : List ℕ) (v n m : ℕ) (some : n ≢ NO_LENGTH) where
  from-taken : (k : ℕ) (start : Seed) (cell : SumInfo) → slice_get starts k ≡ Some start → IsSumOrNone h set start.node v cell → Attains n (length_of start.cost) cell.length → m ≡ cell.sum + slice_index added k → HasSumFrom g number starts added v n m
  from-taken k start cell begins is leads sum = by_summed is.summed is.written (is.along given g number made right told)
    where
      by_summed : (f : Option Summed) → cell ≡ cell_of f → IsSummed g number start.node v f → HasSumFrom g number starts added v n m
      by_summed None written path =
          let far : cell.length ≡ NO_LENGTH = ap (λ (c : SumInfo). c.length) written in
          absurd (some (omega (arith, far, leads.sum, leads.within)))
      by_summed (Some f) written along = record {
        k = k;
        start = start;
        begins = begins;
        path = along.path;
        leads = along.leads;
        long = sym leads.sum ∙ ap (λ x. length_of start.cost + x) (ap (λ (c : SumInfo). c.length) written ∙ sym along.long);
        sums = sum ∙ ap (λ x. x + slice_index added k) (ap (λ (c : SumInfo). c.sum) written ∙ along.sums);
      }

  from-none : (has : HasLengthBetween g starts (free v ∷ []) n) → ((l : ℕ) → HasLengthBetween g starts (free v ∷ []) l → n ≤ l)
      → ((k : ℕ) (start : Seed) → k < length starts → slice_get starts k ≡ Some start → (cell : SumInfo) × IsSumOrNone h set start.node v cell × (n < 2 ^ 64) × (Attains n (length_of start.cost) cell.length → ⊥)) → ⊥
  from-none has shortest each =
      let k = has.begins.0 in
      let low = has.begins.1 in
      let begins : slice_get starts has.begins.0 ≡ Some has.start = slice_get-get_or starts has.begins.0 has.start low ∙ ap (λ (s : Seed). Some s) has.begins.2 in
      let none_does = each k has.start low begins in
      let is = none_does.1 in
      by_summed none_does.0 none_does.2 none_does.3 is.summed is.written (is.length.by_weight g right)
    where
      stop_is : has.stop ≡ free v
      stop_is = only_end v has.stop has.stops

      no_more : length_of has.stop.cost ≡ 0
      no_more = ap (λ (s : Seed). length_of s.cost) stop_is ∙ length_of-zero_cost

      walk_to : Walk (ArcOf g) has.start.node v has.way
      walk_to = subst (λ (s : Seed). Walk (ArcOf g) has.start.node s.node has.way) stop_is has.walk

      by_summed : (cell : SumInfo) → n < 2 ^ 64 → (Attains n (length_of has.start.cost) cell.length → ⊥) → (f : Option Summed) → cell ≡ cell_of f → IsLeastLength g has.start.node v (option_map (λ (x : Summed). x.length) f) → ⊥
      by_summed cell within not None written no_walk = no_walk has.way walk_to
      by_summed cell within not (Some f) written (c, walk, long, least) =
          let most : f.length ≤ length_of has.way = least has.way walk_to in
          let other : HasLengthBetween g starts (free v ∷ []) (length_of has.start.cost + length_of c + length_of (free v).cost) =
          record { start = has.start; stop = free v; begins = has.begins; stops = (0, omega arith, refl); way = c; walk = walk; sum = refl } in
          let bound = shortest (length_of has.start.cost + length_of c + length_of (free v).cost) other in
          let long_is : cell.length ≡ f.length = ap (λ (x : SumInfo). x.length) written in
          not (record { some = some; within = within; sum = omega (arith, has.sum, no_more, most, bound, long, long_is, length_of-zero_cost) })

  pub has-sum : IsLeastLengthBetween g starts (free v ∷ []) (Some n) → IsSumOfStart h set starts added (length starts) v n m → HasSumFrom g number starts added v n m
  has-sum least (taken k start cell low begins is leads sum) = from-taken k start cell begins is leads sum
  has-sum least (none empty each) = absurd (from-none least.0 least.1 each)

-- What is written of a node
no-sum : (h : Hierarchy) (set : List ℕ) (starts : List Seed) (added : List ℕ) (count t n m : ℕ) → IsSumOfStart h set starts added count t n m → n ≡ NO_LENGTH → m ≡ NO_LENGTH
no-sum h set starts added count t n m (taken k start cell low begins is leads sum) far = absurd (leads.some far)
no-sum h set starts added count t n m (none empty each) far = empty

pub reached-cells : (h : Hierarchy) (set : List ℕ) (starts : List Seed) (added : List ℕ) (limit : ℕ) (zeros lengths sums : List ℕ) (old new : List SumInfo) → IsLimit limit → AreWritten (length h.ranks) (IsReached h starts limit) zeros lengths
    → AreSumsOfStarts h set starts added (length starts) (range_with_len 0 (length h.ranks)) lengths sums → ArePut lengths sums (length h.ranks) 0 old new → AreCells (length h.ranks) (IsReachedSum h set starts added limit) old new
reached-cells h set starts added limit zeros lengths sums old new allowed written are put = record {
  room = put.room;
  each = λ k d low.
      let here : 0 + k ≡ k = omega arith in
      let is : get_or new k d ≡ record { length = slice_index lengths k; sum = slice_index sums k } = ap (λ j. get_or new j d) (sym here) ∙ put.each k d low in
      let own : slice_index (range_with_len 0 (length h.ranks)) k ≡ k = get_or-range_with_len 0 (length h.ranks) k 0 low ∙ here in
      let sum : IsSumOfStart h set starts added (length starts) k (slice_index lengths k) (slice_index sums k) =
      subst (λ t. IsSumOfStart h set starts added (length starts) t (slice_index lengths k) (slice_index sums k)) own (are.each k (omega (arith, low, length-range_with_len 0 (length h.ranks)))) in
      subst (IsReachedSum h set starts added limit k) (sym is) (record {
        length = written.each k low;
        none = no-sum h set starts added (length starts) k (slice_index lengths k) (slice_index sums k) sum;
        along = λ given g number made right told some. has-sum h set given g number made right told starts added k (slice_index lengths k) (slice_index sums k) some (least-length h g starts limit k (slice_index lengths k) allowed (written.each k low) right some) sum;
      });
  rest = λ k d high. put.after k d (omega (arith, high));
}

-- What is passed on of a reach
abbrev none_given : SeedInfo
none_given = record { length = 0; node = 0; arcs = 0 }

no_fault : (h : Hierarchy) (starts : List SeedInfo) (code : ℕ) → code ≡ OK → IsSeedRefusal h starts code → ⊥
no_fault h starts code ok (fault k low first is) = by_fault (get_or starts k none_given) (is none_given)
  where
    by_fault : (s : SeedInfo) → IsSeedFault h s code → ⊥
    by_fault s (out_of_range range away) = omega (arith, ok, range)
    by_fault s (costly cost within away) = omega (arith, ok, cost)
no_fault h starts code ok (seed_memory memory k low first) = omega (arith, ok, memory)

pub reached-ok : (h : Hierarchy) (starts : List SeedInfo) (limit code : ℕ) (old new : List ℕ) → code ≡ OK → IsReachAnswer h starts limit code old new → AreWritten (length h.ranks) (IsReached h (map seed_of starts) limit) old new
reached-ok h starts limit code old new ok (reach_found is written) = written
reached-ok h starts limit code old new ok (reach_limit is not same) = absurd (omega (arith, ok, is))
reached-ok h starts limit code old new ok (reach_room is allowed few same) = absurd (omega (arith, ok, is))
reached-ok h starts limit code old new ok (reach_start is allowed room same) = absurd (no_fault h starts code ok is)
reached-ok h starts limit code old new ok (reach_memory is allowed room seeds same) = absurd (omega (arith, ok, is))

pub reach-refused : (h : Hierarchy) (set : List ℕ) (starts : List SeedInfo) (added : List ℕ) (limit code : ℕ) (old new : List ℕ) (cells : List SumInfo) → code ≢ OK → length h.ranks ≤ length old → IsLimit limit → length h.ranks ≤ length cells → length added ≡ length starts → IsSet h set
    → IsReachAnswer h starts limit code old new → IsReachSumsAnswer h set starts added limit code cells cells
reach-refused h set starts added limit code old new cells not room allowed fits count is_set (reach_found is written) = absurd (not is)
reach-refused h set starts added limit code old new cells not room allowed fits count is_set (reach_limit is no_limit same) = absurd (no_limit allowed)
reach-refused h set starts added limit code old new cells not room allowed fits count is_set (reach_room is limit_is few same) = absurd (omega (arith, few, room))
reach-refused h set starts added limit code old new cells not room allowed fits count is_set (reach_start is limit_is enough same) = no_start is allowed fits count is_set refl
reach-refused h set starts added limit code old new cells not room allowed fits count is_set (reach_memory is limit_is enough seeds same) = no_memory is allowed fits count refl

pub not_both : (b : Bool) → b ≡ true → b ≡ false → ⊥
not_both b is_true is_false = absurd (cc)
