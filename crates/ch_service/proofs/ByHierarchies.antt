-- Answers by a hierarchy, pair by pair, and over the graph that it was built of.
use Rattle.std.proofs.Common.{ℕ, ◌≡◌, ◌+◌, ◌<◌, List, [], ◌∷◌, ◌++◌, length, take, drop, Bool, true, false, Option, inr, refl, sym, ◌∙◌, ap, subst, append_assoc, append-nil, get_or, rules, suc, inl, arith}
use Rattle.std.specs.Prelude.{⊤, Result, Ok, Err, IfErr, OnOk, ◌↔◌, Some, None, IfSome, All, IsErrAnd, MatchResult}
use Rattle.std.specs.Io.KnownBytes.{Appends, Keeps}
use Rattle.std.specs.declared.io.Error.{Error}
use Rattle.std.proofs.lemmas.List.{take_more, take_all, take-append-drop}
use Rattle.std.proofs.lemmas.List.Elements.{All-take}
use Rattle.counted_io.specs.Sinks.{Gathered, Puts, PutsSome, has_failed}
use Rattle.counted_io.specs.Sinks.Laws.{puts_then}
use Rattle.counted_io.specs.declared.writing.WriteFault.{WriteFault}
use Rattle.grfile.specs.Reading.{IsPair, graph_of, pairs_of, SpelledGraphsAreInRange, SpelledPairsAreInRange}
use Rattle.grfile.specs.Outcome.{FromText, IsReading}
use Rattle.grfile.specs.declared.error.GrError.{GrError}
use Rattle.grfile.specs.Taken.{StopsAtReached}
use Rattle.ch_graph.specs.Hierarchy.{Hierarchy, IsWellMade, IsRight}
use Rattle.ch_graph.specs.Graph.{Graph}
use Rattle.ch_graph.specs.Limits.{IsGraph}
use Rattle.ch_graph.specs.declared.version.Version.{Version}
use Rattle.ch_graph.specs.declared.version.Version.TheVariants.{One, Two}
use Rattle.ch_unpack.specs.declared.error.UnpackError.{UnpackError}
use Rattle.ch_unpack.specs.declared.error.UnpackError.TheVariants as unpacking
use Rattle.ch_unpack.specs.declared.error.UnpackError.TheVariants.{TooLong}
use Rattle.ch_workers.specs.Options.{AreBad, AreGood}
use Rattle.ch_workers.specs.declared.options.Options.{Options}
use Rattle.ch_workers.specs.declared.error.BuildError.{BuildError}
use Rattle.ch_workers.specs.declared.error.BuildError.TheVariants.{BadOptions}
use Rattle.ch_route.specs.Laws.{RoutesAreFewest, RoutesAreLeastByWeight, NoneTooLong, NoneTooLongByWeight}
use Rattle.hierfile.specs.Bytes.{IsFaultOf as IsFileFault, OfBytes, SaysNothing, Took}
use Rattle.hierfile.specs.Fault.{first_fault}
use Rattle.hierfile.specs.declared.error.HierError.{HierError}
use Rattle.hierfile.specs.Laws.{HierarchiesHaveOneSpelling, SpellingsHaveNoFault}
use Rattle.hierfile.specs.declared.error.HierError.TheVariants as files
use Rattle.hierfile.specs.Spelling.{bytes_of}
use Rattle.outcomes.specs.Written.{both_known}
use Rattle.ch_service.specs.Answer.{Route, IsAnswer, AreAnswers, line_of, nothing, one_more, IsRouteBy, Routed, StopsAtTooLong, HasTooLong, IsLeastWalk, AnswersBy, AnswersFirst, Spells, IsRightIn, Routes, RoutesFirst, RoutesToTooLong, PreparesIn, Prepares, RoutesAre, FirstRoutesAreExact}
use Rattle.ch_service.specs.Outcome.{Writes, StopsShort, IsPairFault, AreTexts, IfBothKnown, StopsAnswering, IsGraphText, StopsInMemory, WritesFirst, StopsRouting}
use Rattle.ch_service.specs.Progress.{PutsPairs}
use Rattle.ch_service.specs.declared.error.ServiceError.{ServiceError}
use Rattle.ch_service.specs.declared.error.ServiceError.TheVariants.{Graph as GraphFault, Queries, Hierarchy as HierarchyFault, Build, Unpack, Write, OutOfMemory}
use Rattle.ch_service.specs.Preparation.{StopsPreparing}

-- How far the pairs are answered, while the answers are put into a sink.

-- answers to some pairs and an answer to the next
answered-push : {Is : ℕ → ℕ → Option Route → Type 0} {pairs : List (ℕ × ℕ)} {text : List ℕ} {pair : ℕ × ℕ} {line : List ℕ} → AreAnswers Is pairs text → IsAnswer Is pair line → AreAnswers Is (pairs ++ pair ∷ []) (text ++ line)
answered-push {Is} {pair} {line} nothing a = subst (AreAnswers Is (pair ∷ [])) (append-nil line) (one_more a nothing)
answered-push {Is} {pair} {line} (one_more {pair = p} {pairs = ps} {line = l} {rest = r} first rest) a =
    subst (AreAnswers Is (p ∷ (ps ++ pair ∷ []))) (sym (append_assoc l r line)) (one_more first (answered-push rest a))

-- the same, where they are put, by a router of the same hierarchy
pub answers-next : {W : Type 0} {step : W → W → Result ℕ Error → Type 0} {contents : W → Option (List ℕ)} {h k : Hierarchy} (pairs : List (ℕ × ℕ)) (i : ℕ) (route : Option Route) {x y z : Gathered} {a b c : W} → i < length pairs → k ≡ h
    → PutsSome step contents (Routed h (take i pairs)) x y a b → IsRouteBy k (get_or pairs i (0, 0)).0 (get_or pairs i (0, 0)).1 route → Puts step contents y z b c (line_of (get_or pairs i (0, 0)) route)
    → PutsSome step contents (Routed h (take (i + 1) pairs)) x z a c
answers-next {h = h} pairs i route within same p leads puts =
    let pair = get_or pairs i (0, 0) in
    let here = subst (λ (m : Hierarchy). IsRouteBy m pair.0 pair.1 route) same leads in
    let answers = answered-push {pair = pair} {line = line_of pair route} p.is (record { route = route; leads = here; tells = refl }) in
    record { bytes = p.bytes ++ line_of pair route; is = subst (λ ps. Routed h ps (p.bytes ++ line_of pair route)) (sym (take_more pairs i (0, 0) within)) answers; puts = puts_then p.puts puts }

parted_at : (pairs : List (ℕ × ℕ)) (i : ℕ) → i < length pairs → pairs ≡ take i pairs ++ get_or pairs i (0, 0) ∷ drop (i + 1) pairs
parted_at pairs i within =
    sym (take-append-drop (i + 1) pairs) ∙ ap (λ (l : List (ℕ × ℕ)). l ++ drop (i + 1) pairs) (take_more pairs i (0, 0) within)
    ∙ append_assoc (take i pairs) (get_or pairs i (0, 0) ∷ []) (drop (i + 1) pairs)

pair_fault : {h : Hierarchy} (pair : ℕ × ℕ) (u : UnpackError) → (u ≡ unpacking.TooLong → HasTooLong h pair.0 pair.1) → IsPairFault h pair (Unpack u)
pair_fault pair unpacking.OutOfMemory long = tt
pair_fault pair unpacking.TooLong long = long refl

-- the next of the pairs was refused
pub stops-next : {W : Type 0} {step : W → W → Result ℕ Error → Type 0} {contents : W → Option (List ℕ)} {h k : Hierarchy} (pairs : List (ℕ × ℕ)) (i : ℕ) {T : Type 0} {found : Result T UnpackError} {u : UnpackError} {x y : Gathered} {a b : W}
    → i < length pairs → k ≡ h → PutsSome step contents (Routed h (take i pairs)) x y a b → found ≡ Err u → (found ≡ Err unpacking.TooLong → HasTooLong k (get_or pairs i (0, 0)).0 (get_or pairs i (0, 0)).1)
    → PutsPairs step contents h pairs x y a b (Err (Unpack u))
stops-next {h = h} pairs i {u} within same p was long =
    let pair = get_or pairs i (0, 0) in
    let here = subst (λ (m : Hierarchy). IsPairFault m pair (Unpack u)) same (pair_fault pair u (λ t. long (was ∙ ap Err t))) in
    record { count = i; text = p.bytes; routed = p.is; puts = p.puts; ends = (pair, drop (i + 1) pairs, parted_at pairs i within, here) }

module _ {W : Type 0} {step : W → W → Result ℕ Error → Type 0} {contents : W → Option (List ℕ)} {h : Hierarchy} {pairs : List (ℕ × ℕ)} {was now : Gathered} {old last : W} where
  -- What that means, once the writer has taken all that was put.

  pub all-written : {r : Result ⊤ ServiceError} (from to : Option (List ℕ)) → (p : PutsPairs step contents h pairs was now old last r) → has_failed now ≡ false → Appends from to p.text → OnOk r (Writes (Routed h pairs) from to)
  all-written {r = Err e} from to p well given = tt
  all-written {r = Ok u} from to p well given = (p.text, subst (λ ps. Routed h ps p.text) (take_all p.count pairs (p.ends well)) p.routed, given)

  short-by : (from to : Option (List ℕ)) {e : ServiceError} → (p : PutsPairs step contents h pairs was now old last (Err e)) → Appends from to p.text → StopsShort (λ text. (count : ℕ) × Routed h (take count pairs) text) (StopsAtTooLong h pairs) from to e
  short-by from to {e = Unpack unpacking.OutOfMemory} p given = (p.text, (p.count, p.routed), given)
  short-by from to {e = Unpack unpacking.TooLong} p given = (p.text, record { first = take p.count pairs; pair = p.ends.0; rest = p.ends.1; parts = p.ends.2; routed = p.routed; too_long = p.ends.3 }, given)
  short-by from to {e = OutOfMemory} p given = inr (p.text, (p.count, p.routed), given)
  short-by from to p given = absurd p.ends.3

  pub short-written : {r : Result ⊤ ServiceError} (from to : Option (List ℕ)) → (p : PutsPairs step contents h pairs was now old last r) → Appends from to p.text → IfErr r (StopsShort (λ text. (count : ℕ) × Routed h (take count pairs) text) (StopsAtTooLong h pairs) from to)
  short-written {r = Ok u} from to p given = tt
  short-written {r = Err e} from to p given = short-by from to p given

-- by the hierarchy of the router
pub pairs-by : {W : Type 0} {step : W → W → Result ℕ Error → Type 0} {contents : W → Option (List ℕ)} {k h : Hierarchy} {pairs : List (ℕ × ℕ)} {was now : Gathered} {old last : W} {r : Result ⊤ ServiceError} → k ≡ h → PutsPairs step contents k pairs was now old last r → PutsPairs step contents h pairs was now old last r
pairs-by {step = step} {contents} {pairs = pairs} {was} {now} {old} {last} {r} same p = subst (λ (m : Hierarchy). PutsPairs step contents m pairs was now old last r) same p

-- a pair of a hierarchy is one of a router of the same
pub in_range-by : {k h : Hierarchy} (pair : ℕ × ℕ) → k ≡ h → IsPair (length h.ranks) pair → IsPair (length k.ranks) pair
in_range-by pair same within = subst (λ (m : Hierarchy). IsPair (length m.ranks) pair) (sym same) within

pub not_both : {b : Bool} → b ≡ true → b ≡ false → ⊥
not_both is isnt = cc

-- What a build says of its options.

-- where it succeeds they were good, whatever comes after it
pub built-good : {T : Type 0} {built : Result T BuildError} {b : T} (o : Options) (lists : ℕ) (r : Result ⊤ ServiceError) → built ≡ Ok b → (built ≡ Err BadOptions) ↔ AreBad o lists → OnOk r (AreGood o lists)
built-good {built} o lists (Ok x) was bad =
    let fine : AreBad o lists → ⊥ = λ worse. let refused : built ≡ Err BadOptions = bad.1 worse in absurd (cc) in
    search rules
built-good o lists (Err e) was bad = tt

-- and its refusal says whether they were
pub refused-bad : {T : Type 0} {built : Result T BuildError} {x : BuildError} (o : Options) (lists : ℕ) → built ≡ Err x → (built ≡ Err BadOptions) ↔ AreBad o lists → (x ≡ BadOptions) ↔ AreBad o lists
refused-bad {built} o lists was bad = (λ worst. bad.0 (cc), λ worse. let refused : built ≡ Err BadOptions = bad.1 worse in cc)

-- Answers by a hierarchy, and over the graph that it was built of.

-- Why answers by routes of a right hierarchy are answers by least walks of its graph, in either version.

-- a right hierarchy has the nodes of its graph
pub right-nodes : (v : Version) (g : Graph) (h : Hierarchy) → IsRightIn v g h → length h.ranks ≡ g.nodes
right-nodes One g h right = right.nodes
right-nodes Two g h right = right.nodes

-- a kind of route over a graph that each route of a hierarchy is of which is right for it, in this version
abbrev pub RightRoutesAre : Version → (Graph → ℕ → ℕ → Option Route → Type 0) → Type 0
RightRoutesAre v Is = (g : Graph) (h : Hierarchy) (s t : ℕ) (r : Option Route) → IsGraph g → IsRightIn v g h → s < g.nodes → t < g.nodes → IsRouteBy h s t r → Is g s t r

-- a least walk with the fewest arcs is a least walk
pub walk-right : RoutesAreFewest → RightRoutesAre Two IsLeastWalk
walk-right law g h s t None graph right source target found = law g h s t None graph right source target found
walk-right law g h s t (Some r) graph right source target found = (law g h s t (Some r) graph right source target found).0

-- which it is in version 1 too
pub walk-right_by_weight : RoutesAreLeastByWeight → RightRoutesAre One IsLeastWalk
walk-right_by_weight law g h s t r graph right source target found = law g h s t r right source target found

module _ (v : Version) {Is : Graph → ℕ → ℕ → Option Route → Type 0} (are : RightRoutesAre v Is) where
  answer-right : {g : Graph} (h : Hierarchy) {pair : ℕ × ℕ} {line : List ℕ} → IsGraph g → IsRightIn v g h → IsPair (length h.ranks) pair → IsAnswer (IsRouteBy h) pair line → IsAnswer (Is g) pair line
  answer-right {g} h {pair} graph right within a =
      let source : pair.0 < g.nodes = subst (λ n. pair.0 < n) (right-nodes v g h right) within.0 in
      let target : pair.1 < g.nodes = subst (λ n. pair.1 < n) (right-nodes v g h right) within.1 in
      record {
        route = a.route;
        leads = are g h pair.0 pair.1 a.route graph right source target a.leads;
        tells = a.tells;
      }

  answered-right : {g : Graph} (h : Hierarchy) {pairs : List (ℕ × ℕ)} {text : List ℕ} → IsGraph g → IsRightIn v g h → All (IsPair (length h.ranks)) pairs → AreAnswers (IsRouteBy h) pairs text → AreAnswers (Is g) pairs text
  answered-right h graph right within nothing = nothing
  answered-right {g} h graph right within (one_more {pair = p} {line = l} first rest) =
      one_more (answer-right h graph right (within 0 p (omega arith)) first) (answered-right h graph right (λ k d less. within (suc k) d (omega arith)) rest)

  pub right-routes : (g : Graph) (h : Hierarchy) (pairs : List (ℕ × ℕ)) (text : List ℕ) → IsGraph g → IsRightIn v g h → All (IsPair g.nodes) pairs → Routed h pairs text → AreAnswers (Is g) pairs text
  right-routes g h pairs text graph right within answers = answered-right h graph right (subst (λ n. All (IsPair n) pairs) (sym (right-nodes v g h right)) within) answers

-- no route of a hierarchy is too long that is right for a graph, of this version and well made
abbrev pub RightRoutesAreShort : Version → Type 0
RightRoutesAreShort v = (g : Graph) (h : Hierarchy) (s t : ℕ) → IsGraph g → IsRightIn v g h → h.version ≡ v → IsWellMade h → s < g.nodes → t < g.nodes → HasTooLong h s t → ⊥

pub short-in_two : NoneTooLong → RightRoutesAreShort Two
short-in_two law g h s t graph right version made source target = law g h s t graph right source target

pub short-in_one : NoneTooLongByWeight → RightRoutesAreShort One
short-in_one law g h s t graph right version made source target = law g h s t graph right version made source target

-- so no text stops at one

at_seam : (P : ℕ × ℕ → Type 0) (first rest : List (ℕ × ℕ)) (pair : ℕ × ℕ) → All P (first ++ pair ∷ rest) → P pair
at_seam P [] rest pair all = all 0 pair (omega arith)
at_seam P (p ∷ first) rest pair all = at_seam P first rest pair (λ k d less. all (suc k) d (omega arith))

pub none_too_long : (g : Graph) {h : Hierarchy} {pairs : List (ℕ × ℕ)} {text : List ℕ} → length h.ranks ≡ g.nodes → ((s t : ℕ) → s < g.nodes → t < g.nodes → HasTooLong h s t → ⊥) → All (IsPair (length h.ranks)) pairs
    → StopsAtTooLong h pairs text → ⊥
none_too_long g {h} nodes short within s =
    let ends : IsPair (length h.ranks) s.pair = at_seam (IsPair (length h.ranks)) s.first s.rest s.pair (subst (All (IsPair (length h.ranks))) s.parts within) in
    let source : s.pair.0 < g.nodes = subst (λ n. s.pair.0 < n) nodes ends.0 in
    let target : s.pair.1 < g.nodes = subst (λ n. s.pair.1 < n) nodes ends.1 in
    short s.pair.0 s.pair.1 source target s.too_long

-- the texts of the readers, where they are known

first-spelled : {h : Hierarchy} {pairs : List (ℕ × ℕ)} {bytes : List ℕ} (pairs_text text : List ℕ) → Spells bytes h → pairs_of (length h.ranks) pairs_text ≡ Ok pairs → ((count : ℕ) × Routed h (take count pairs) text) → RoutesFirst bytes pairs_text text
first-spelled {h} {pairs} pairs_text text spells read first = record {
  hierarchy = h;
  pairs = pairs;
  spells = spells;
  pairs_read = read;
  count = first.0;
  routed = first.1;
}

too_long-spelled : {h : Hierarchy} {pairs : List (ℕ × ℕ)} {bytes : List ℕ} (pairs_text : List ℕ) {text : List ℕ} → Spells bytes h → pairs_of (length h.ranks) pairs_text ≡ Ok pairs → StopsAtTooLong h pairs text → RoutesToTooLong bytes pairs_text text
too_long-spelled {h} {pairs} pairs_text spells read stops = record {
  hierarchy = h;
  pairs = pairs;
  spells = spells;
  pairs_read = read;
  stops = stops;
}

-- a refusal while pairs are answered comes only where both texts were read

module _ (h : Hierarchy) (pairs : List (ℕ × ℕ)) (hier queries left old new : Option (List ℕ)) (spells : IfSome hier (λ bytes. Spells bytes h)) (read : IfSome queries (λ text. pairs_of (length h.ranks) text ≡ Ok pairs)) where
  where_read : (R : List ℕ → List ℕ → Type 0) → ((bytes text : List ℕ) → Spells bytes h → pairs_of (length h.ranks) text ≡ Ok pairs → R bytes text) → IfBothKnown hier queries R
  where_read R f = both_known hier queries spells read f

  stopped : (e : ServiceError) → StopsShort (λ text. (count : ℕ) × Routed h (take count pairs) text) (StopsAtTooLong h pairs) old new e → StopsRouting hier queries left old new e
  stopped (Unpack unpacking.OutOfMemory) s = where_read _ (λ bytes text are reads. (s.0, first-spelled text s.0 are reads s.1, s.2))
  stopped (Unpack unpacking.TooLong) s = where_read _ (λ bytes text are reads. (s.0, too_long-spelled text are reads s.1, s.2))
  stopped (Write fault) s = where_read _ (λ bytes text are reads. (s.0, first-spelled text s.0 are reads s.1, s.2, s.3))
  stopped OutOfMemory s = where_read _ (λ bytes text are reads. ((h, are, (pairs, reads)), elim s [ inl kept ↦ inl kept | inr w ↦ inr (w.0, first-spelled text w.0 are reads w.1, w.2) ]))
  stopped e s = absurd s

  pub stops-routing : (r : Result ⊤ ServiceError) → IfErr r (StopsShort (λ text. (count : ℕ) × Routed h (take count pairs) text) (StopsAtTooLong h pairs) old new) → IfErr r (StopsRouting hier queries left old new)
  stops-routing (Ok x) s = tt
  stops-routing (Err e) s = stopped e s

-- routes by a hierarchy whose file is known of the reader
pub routes-told : (h : Hierarchy) (pairs : List (ℕ × ℕ)) (hier queries old new : Option (List ℕ)) (r : Result ⊤ ServiceError) → IfSome hier (λ bytes. Spells bytes h) → IfSome queries (λ text. pairs_of (length h.ranks) text ≡ Ok pairs)
    → OnOk r (Writes (Routed h pairs) old new) → OnOk r (IfBothKnown hier queries (λ bytes pairs_text. Writes (Routes bytes pairs_text) old new))
routes-told h pairs hier queries old new (Err e) spells read w = tt
routes-told h pairs hier queries old new (Ok x) spells read w =
    both_known hier queries spells read (λ bytes pairs_text are reads. (w.0, record { hierarchy = h; pairs = pairs; spells = are; pairs_read = reads; routed = w.1 }, w.2))

-- answers by a hierarchy that is right for the graph whose text is known of the reader
pub answers-told : {Is : Graph → ℕ → ℕ → Option Route → Type 0} → RightRoutesAre Two Is → {g : Graph} {h : Hierarchy} (pairs : List (ℕ × ℕ)) (gr queries old new : Option (List ℕ)) (r : Result ⊤ ServiceError)
    → IfSome gr (λ text. graph_of text ≡ Ok g) → IfSome queries (λ text. pairs_of g.nodes text ≡ Ok pairs)
    → IsGraph g → IsRight g h → All (IsPair g.nodes) pairs → OnOk r (Writes (Routed h pairs) old new) → OnOk r (IfBothKnown gr queries (λ graph_text pairs_text. Writes (AnswersBy Is graph_text pairs_text) old new))
answers-told are pairs gr queries old new (Err e) reads read graph right within w = tt
answers-told are {g} {h} pairs gr queries old new (Ok x) reads read graph right within w =
    let answered = right-routes Two are g h pairs w.0 graph right within w.1 in
    both_known gr queries reads read (λ text pairs_text is are. (w.0, record { graph = g; pairs = pairs; graph_reads = is; pairs_read = are; answered = answered }, w.2))

first-answered : RoutesAreFewest → {g : Graph} {h : Hierarchy} {pairs : List (ℕ × ℕ)} (graph_text pairs_text text : List ℕ) → graph_of graph_text ≡ Ok g → pairs_of g.nodes pairs_text ≡ Ok pairs → IsGraph g → IsRight g h → All (IsPair g.nodes) pairs
    → ((count : ℕ) × Routed h (take count pairs) text) → AnswersFirst graph_text pairs_text text
first-answered law {g} {h} {pairs} graph_text pairs_text text reads read graph right within first = record {
  graph = g;
  pairs = pairs;
  graph_reads = reads;
  pairs_read = read;
  count = first.0;
  answered = right-routes Two (walk-right law) g h (take first.0 pairs) text graph right (All-take (IsPair g.nodes) first.0 pairs within) first.1;
}

-- What is said of the texts of a graph and of pairs, where the first was read
module _ (g : Graph) (gr queries : Option (List ℕ)) (reads : IfSome gr (λ text. graph_of text ≡ Ok g)) where
  -- and the second refused
  pub pairs_refused : (fault : GrError) → IfSome queries (λ text. FromText fault.kind (pairs_of g.nodes text ≡ Err fault))
      → IfBothKnown gr queries (λ graph_text text. (k : Graph) × (graph_of graph_text ≡ Ok k) × FromText fault.kind (pairs_of k.nodes text ≡ Err fault))
  pairs_refused fault wrong = both_known gr queries reads wrong (λ graph_text text is not. (g, is, not))

  -- or read too
  module _ (pairs : List (ℕ × ℕ)) (read : IfSome queries (λ text. pairs_of g.nodes text ≡ Ok pairs)) where
    known : (R : List ℕ → List ℕ → Type 0) → ((graph_text text : List ℕ) → graph_of graph_text ≡ Ok g → pairs_of g.nodes text ≡ Ok pairs → R graph_text text) → IfBothKnown gr queries R
    known R f = both_known gr queries reads read f

    pub both_read : IfBothKnown gr queries AreTexts
    both_read = known AreTexts (λ graph_text text is are. (g, is, (pairs, are)))

    -- and a refusal came behind the build
    module _ (o : Options) (lists : ℕ) (graph_left pairs_left old new : Option (List ℕ)) (law : RoutesAreFewest) (never : NoneTooLong) (good : AreGood o lists) (h : Hierarchy) (graph : IsGraph g) (right : IsRight g h) (within : All (IsPair g.nodes) pairs) where
      first : {graph_text text : List ℕ} (written : List ℕ) → graph_of graph_text ≡ Ok g → pairs_of g.nodes text ≡ Ok pairs → ((count : ℕ) × Routed h (take count pairs) written) → AnswersFirst graph_text text written
      first {graph_text} {text} written is are = first-answered law graph_text text written is are graph right within

      answering : (e : ServiceError) → StopsShort (λ text. (count : ℕ) × Routed h (take count pairs) text) (StopsAtTooLong h pairs) old new e → StopsAnswering o lists gr graph_left queries pairs_left old new e
      answering (Unpack unpacking.OutOfMemory) s = (good, known _ (λ a b is are. (s.0, first s.0 is are s.1, s.2)))
      answering (Unpack unpacking.TooLong) s =
          absurd (none_too_long g right.nodes (λ s t. never g h s t graph right) (subst (λ n. All (IsPair n) pairs) (sym right.nodes) within) s.1)
      answering (Write fault) s = (good, known _ (λ a b is are. (s.0, first s.0 is are s.1, s.2, s.3)))
      answering OutOfMemory s = (good, known _ (λ a b is are. ((g, is, (pairs, are)), elim s [ inl kept ↦ inl kept | inr w ↦ inr (w.0, first w.0 is are w.1, w.2) ])))
      answering e s = absurd s

      pub stops-answering : (r : Result ⊤ ServiceError) → IfErr r (StopsShort (λ text. (count : ℕ) × Routed h (take count pairs) text) (StopsAtTooLong h pairs) old new) → IfErr r (StopsAnswering o lists gr graph_left queries pairs_left old new)
      stops-answering (Ok x) s = tt
      stops-answering (Err e) s = answering e s

-- And where they are answered by the file of a hierarchy

pub pairs-fault : {V : Type 0} (view : V → List (ℕ × ℕ)) {n m : ℕ} (known : Option (List ℕ)) (r : Result V GrError) → n ≡ m → IfSome known (λ text. IsReading view r (pairs_of n text))
    → IfErr r (λ fault. IfSome known (λ text. FromText fault.kind (pairs_of m text ≡ Err fault)))
pairs-fault view known (Ok x) same h = tt
pairs-fault view known (Err e) same h = subst (λ k. IfSome known (λ text. FromText e.kind (pairs_of k text ≡ Err e))) same h

pub queries-refused : {V : Type 0} (h : Hierarchy) (hier queries left old new : Option (List ℕ)) (read : Result V GrError) {told : Result V ServiceError} {e : ServiceError} (r : Result ⊤ ServiceError) → IfSome hier (λ bytes. Spells bytes h)
    → IfErr read (λ fault. IfSome queries (λ text. FromText fault.kind (pairs_of (length h.ranks) text ≡ Err fault))) → IfErr read (StopsAtReached queries left) → Keeps old new
    → MatchResult read (λ x. told ≡ Ok x) (λ fault. IsErrAnd told (λ x. x ≡ Queries fault)) → told ≡ Err e → IsErrAnd r (λ x. x ≡ e) → IfErr r (StopsRouting hier queries left old new)
queries-refused h hier queries left old new (Ok v) r spells reads reached keeps cases was is = absurd (cc)
queries-refused h hier queries left old new (Err fault) {told = Ok v} r spells reads reached keeps cases was is = absurd cases
queries-refused h hier queries left old new (Err fault) {told = Err t} (Ok x) spells reads reached keeps cases was is = tt
queries-refused h hier queries left old new (Err fault) {told = Err t} (Err x) spells reads reached keeps cases was is =
    let same : Queries fault ≡ x = cc in
    let texts : IfBothKnown hier queries (λ bytes text. (k : Hierarchy) × Spells bytes k × FromText fault.kind (pairs_of (length k.ranks) text ≡ Err fault)) =
    both_known hier queries spells reads (λ bytes text are wrong. (h, are, wrong)) in
    subst (StopsRouting hier queries left old new) same (texts, reached, keeps)

-- or the file was refused
pub file-refused : {V : Type 0} (hier queries left old new : Option (List ℕ)) (read : Result V HierError) {told : Result V ServiceError} {e : ServiceError} (r : Result ⊤ ServiceError) → IfErr read (IsFileFault first_fault hier) → Keeps old new
    → MatchResult read (λ x. told ≡ Ok x) (λ fault. IsErrAnd told (λ x. x ≡ HierarchyFault fault)) → told ≡ Err e → IsErrAnd r (λ x. x ≡ e) → IfErr r (StopsRouting hier queries left old new)
file-refused hier queries left old new (Ok v) r fault keeps cases was is = absurd (cc)
file-refused hier queries left old new (Err x) {told = Ok v} r fault keeps cases was is = absurd cases
file-refused hier queries left old new (Err x) {told = Err t} (Ok v) fault keeps cases was is = tt
file-refused hier queries left old new (Err x) {told = Err t} (Err y) fault keeps cases was is = let same : HierarchyFault x ≡ y = cc in subst (StopsRouting hier queries left old new) same (fault, keeps)

-- Why routes by prepared bytes are answers over the graph: the bytes are the file of one hierarchy alone.

module _ (v : Version) where
  -- what was prepared, where the bytes are the file of this hierarchy
  pub record IsPrepared (graph_text bytes : List ℕ) (h : Hierarchy) : Type 0 where
    pub graph : Graph
    pub reads : graph_of graph_text ≡ Ok graph
    pub within : IsGraph graph
    pub right : IsRightIn v graph h
    pub version : h.version ≡ v

  pub is_prepared : HierarchiesHaveOneSpelling → SpelledGraphsAreInRange → {graph_text bytes : List ℕ} {h : Hierarchy} → PreparesIn v graph_text bytes → Spells bytes h → IsPrepared graph_text bytes h
  is_prepared one graphs {graph_text} {h} p spells =
      let same : p.hierarchy ≡ h = one p.hierarchy h p.spells.made spells.made (sym p.spells.spelled ∙ spells.spelled) in
      record {
        graph = p.graph;
        reads = p.graph_reads;
        within = graphs graph_text p.graph p.graph_reads;
        right = subst (λ (k : Hierarchy). IsRightIn v p.graph k) same p.right;
        version = subst (λ (k : Hierarchy). k.version ≡ v) same p.version;
      }

  -- routes by prepared bytes, all of them
  pub prepared-routes : {Is : Graph → ℕ → ℕ → Option Route → Type 0} → HierarchiesHaveOneSpelling → SpelledGraphsAreInRange → SpelledPairsAreInRange → RightRoutesAre v Is → RoutesAre Is v
  prepared-routes one graphs pairs_fit are graph_text bytes pairs_text text p r =
      let q = is_prepared one graphs p r.spells in
      let read : pairs_of q.graph.nodes pairs_text ≡ Ok r.pairs = subst (λ (n : ℕ). pairs_of n pairs_text ≡ Ok r.pairs) (right-nodes v q.graph r.hierarchy q.right) r.pairs_read in
      record {
        graph = q.graph;
        pairs = r.pairs;
        graph_reads = q.reads;
        pairs_read = read;
        answered = right-routes v are q.graph r.hierarchy r.pairs text q.within q.right (pairs_fit q.graph.nodes pairs_text r.pairs read) r.routed;
      }

  -- and the first of them
  pub first-routes : HierarchiesHaveOneSpelling → SpelledGraphsAreInRange → SpelledPairsAreInRange → RightRoutesAre v IsLeastWalk → FirstRoutesAreExact v
  first-routes one graphs pairs_fit are graph_text bytes pairs_text text p r =
      let q = is_prepared one graphs p r.spells in
      let read : pairs_of q.graph.nodes pairs_text ≡ Ok r.pairs = subst (λ (n : ℕ). pairs_of n pairs_text ≡ Ok r.pairs) (right-nodes v q.graph r.hierarchy q.right) r.pairs_read in
      record {
        graph = q.graph;
        pairs = r.pairs;
        graph_reads = q.reads;
        pairs_read = read;
        count = r.count;
        answered = right-routes v are q.graph r.hierarchy (take r.count r.pairs) text q.within q.right (All-take (IsPair q.graph.nodes) r.count r.pairs (pairs_fit q.graph.nodes pairs_text r.pairs read)) r.routed;
      }

  -- what a call wrote by bytes that were prepared
  pub prepared-told : {Is : Graph → ℕ → ℕ → Option Route → Type 0} → RoutesAre Is v → (h : Hierarchy) (pairs : List (ℕ × ℕ)) (hier queries old new : Option (List ℕ)) (r : Result ⊤ ServiceError)
      → IfSome hier (λ bytes. Spells bytes h) → IfSome queries (λ text. pairs_of (length h.ranks) text ≡ Ok pairs)
      → OnOk r (Writes (Routed h pairs) old new) → OnOk r (IfBothKnown hier queries (λ bytes pairs_text. (graph_text : List ℕ) → PreparesIn v graph_text bytes → Writes (AnswersBy Is graph_text pairs_text) old new))
  prepared-told are h pairs hier queries old new (Err e) spells read w = tt
  prepared-told are h pairs hier queries old new (Ok x) spells read w = both_known hier queries spells read (λ bytes pairs_text is reads graph_text p.
      (w.0, are graph_text bytes pairs_text w.0 p (record { hierarchy = h; pairs = pairs; spells = is; pairs_read = reads; routed = w.1 }), w.2))

  -- no route by them is too long
  never_long : HierarchiesHaveOneSpelling → SpelledGraphsAreInRange → RightRoutesAreShort v → {h : Hierarchy} {pairs : List (ℕ × ℕ)} (hier : Option (List ℕ)) {text : List ℕ}
      → IfSome hier (λ bytes. Spells bytes h) → All (IsPair (length h.ranks)) pairs → StopsAtTooLong h pairs text
      → IfSome hier (λ bytes. (graph_text : List ℕ) → PreparesIn v graph_text bytes → ⊥)
  never_long one graphs short None spells within s = tt
  never_long one graphs short {h} {pairs} (Some bytes) {text} spells within s = λ graph_text p.
      let q = is_prepared one graphs p spells in
      none_too_long q.graph (right-nodes v q.graph h q.right) (λ s t. short q.graph h s t q.within q.right q.version spells.made) within s

  pub never_long-told : HierarchiesHaveOneSpelling → SpelledGraphsAreInRange → RightRoutesAreShort v → (h : Hierarchy) (pairs : List (ℕ × ℕ)) (hier old new : Option (List ℕ)) (P : List ℕ → Type 0) (r : Result ⊤ ServiceError)
      → IfSome hier (λ bytes. Spells bytes h) → All (IsPair (length h.ranks)) pairs
      → IfErr r (StopsShort P (StopsAtTooLong h pairs) old new) → r ≡ Err (Unpack TooLong) → IfSome hier (λ bytes. (graph_text : List ℕ) → PreparesIn v graph_text bytes → ⊥)
  never_long-told one graphs short h pairs hier old new P r spells within stops is =
      let written : Writes (StopsAtTooLong h pairs) old new = subst (λ (q : Result ⊤ ServiceError). IfErr q (StopsShort P (StopsAtTooLong h pairs) old new)) is stops in
      never_long one graphs short hier spells within written.1

-- in memory

pub all_of : (P : List ℕ → Type 0) {old : List ℕ} (new : List ℕ) → old ≡ [] → Writes P (Some old) (Some new) → P new
all_of P new none w = subst P (sym (w.2 ∙ ap (λ (l : List ℕ). l ++ w.0) none)) w.1

pub prepared-in_memory : (Is : Graph → ℕ → ℕ → Option Route → Type 0) (graph_text pairs_text : List ℕ) {none bytes slice empty : List ℕ} (text : List ℕ) → none ≡ [] → empty ≡ [] → slice ≡ bytes → Writes (Prepares graph_text) (Some none) (Some bytes)
    → ((graph : List ℕ) → Prepares graph slice → Writes (AnswersBy Is graph pairs_text) (Some empty) (Some text)) → AnswersBy Is graph_text pairs_text text
prepared-in_memory Is graph_text pairs_text {none} {bytes} {slice} {empty} text no_byte no_text same prepared routed =
    let file : Prepares graph_text slice = subst (Prepares graph_text) (sym same) (all_of (Prepares graph_text) bytes no_byte prepared) in
    all_of (AnswersBy Is graph_text pairs_text) text no_text (routed graph_text file)

-- What is refused where a hierarchy is prepared and pairs are answered by its file, both in memory.

-- what the first call refuses
pub refused-preparing : (o : Options) (lists : ℕ) (graph_text pairs_text : List ℕ) (left old new : Option (List ℕ)) (e : ServiceError) → StopsPreparing o lists (Some graph_text) left old new e → StopsInMemory o lists graph_text pairs_text e
refused-preparing o lists graph_text pairs_text left old new (GraphFault fault) s = s.0
refused-preparing o lists graph_text pairs_text left old new (Build e) s = (s.0, s.1)
refused-preparing o lists graph_text pairs_text left old new (Write fault) s = let file : Prepares graph_text s.1.0 = s.1.1 in (file.graph, file.graph_reads)
refused-preparing o lists graph_text pairs_text left old new e s = absurd s

-- bytes without a fault are refused for none
faultless : (e : HierError) {P : Type 0} → (P → ⊥) → OfBytes e P → SaysNothing e
faultless files.OutOfMemory none h = tt
faultless files.Read none h = tt
faultless e none h = none h

module _ (o : Options) (lists : ℕ) (one : HierarchiesHaveOneSpelling) (clean : SpellingsHaveNoFault) (graphs : SpelledGraphsAreInRange) (graph_text pairs_text bytes : List ℕ) (p : Prepares graph_text bytes) where
  prepared : IsGraphText graph_text
  prepared = (p.graph, p.graph_reads)

  no_fault : (e : HierError) → first_fault bytes ≡ Some e → ⊥
  no_fault e is =
      let none : first_fault bytes ≡ None = ap first_fault p.spells.spelled ∙ clean p.hierarchy p.spells.made in
      let some : Some e ≡ None = sym is ∙ none in
      absurd (cc)

  -- and the second
  pub refused-routing : (left old new : Option (List ℕ)) (e : ServiceError) → StopsRouting (Some bytes) (Some pairs_text) left old new e → (e ≡ Unpack TooLong → ⊥) → StopsInMemory o lists graph_text pairs_text e
  refused-routing left old new (GraphFault fault) h short = absurd h
  refused-routing left old new (Queries fault) h short =
      let texts = h.0 in
      let q = is_prepared Two one graphs p texts.1 in
      (q.graph, q.reads, subst (λ (n : ℕ). FromText fault.kind (pairs_of n pairs_text ≡ Err fault)) (right-nodes Two q.graph texts.0 q.right) texts.2)
  refused-routing left old new (HierarchyFault e) h short = (prepared, faultless e (no_fault e) h.0)
  refused-routing left old new (Build e) h short = absurd h
  refused-routing left old new (Unpack unpacking.OutOfMemory) h short =
      let first : RoutesFirst bytes pairs_text h.0 = h.1 in
      let q = is_prepared Two one graphs p first.spells in
      (q.graph, q.reads, (first.pairs, subst (λ (n : ℕ). pairs_of n pairs_text ≡ Ok first.pairs) (right-nodes Two q.graph first.hierarchy q.right) first.pairs_read))
  refused-routing left old new (Unpack unpacking.TooLong) h short = absurd (short refl)
  refused-routing left old new (Write fault) h short = prepared
  refused-routing left old new OutOfMemory h short =
      let texts = h.0 in
      let q = is_prepared Two one graphs p texts.1 in
      (q.graph, q.reads, (texts.2.0, subst (λ (n : ℕ). pairs_of n pairs_text ≡ Ok texts.2.0) (right-nodes Two q.graph texts.0 q.right) texts.2.1))

-- What a preparation says of the text of the graph.

prepares : (text : List ℕ) {g : Graph} {h : Hierarchy} → graph_of text ≡ Ok g → IsRight g h → IsWellMade h → h.version ≡ Two → Prepares text (bytes_of h)
prepares text {g} {h} reads right made two = record { graph = g; hierarchy = h; graph_reads = reads; version = two; right = right; spells = record { made = made; spelled = refl } }

-- the text was read
pub is_text : (g : Graph) (graph : Option (List ℕ)) → IfSome graph (λ text. graph_of text ≡ Ok g) → IfSome graph IsGraphText
is_text g None reads = tt
is_text g (Some text) reads = (g, reads)

-- the file was written
pub writes : {g : Graph} {h : Hierarchy} (graph old new : Option (List ℕ)) → IfSome graph (λ text. graph_of text ≡ Ok g) → IsRight g h → IsWellMade h → h.version ≡ Two → Appends old new (bytes_of h)
    → IfSome graph (λ text. Writes (Prepares text) old new)
writes None old new reads right made two given = tt
writes {g} {h} (Some text) old new reads right made two given = (bytes_of h, prepares text reads right made two, given)

-- this many of its bytes were
pub breaks : {g : Graph} {h : Hierarchy} (graph old new : Option (List ℕ)) (fault : WriteFault) → IfSome graph (λ text. graph_of text ≡ Ok g) → IsRight g h → IsWellMade h → h.version ≡ Two → Took old new fault.written (bytes_of h)
    → IfSome graph (λ text. WritesFirst (Prepares text) old new fault.written)
breaks None old new fault reads right made two took = tt
breaks {g} {h} (Some text) old new fault reads right made two took = (bytes_of h, prepares text reads right made two, took.0, took.1)
