use Rattle.std.proofs.Common.{[], ◌∷◌, refl, ℕ, zero, suc, ◌≡◌, List, ◌++◌, set, All, Option, Some, None, ap, sym, subst, ◌∙◌, ⊎_elim, arith, MatchOption}
use Rattle.domethyme_c.proofs.Steps.{RattleType, layout, arg, arg_laws, bare, no, impl, tnil, tcons, dnil}
use mir.Syntax.{Dict}
use denote.Param.Laws.{Laws}
use Rattle.std_heap.specs.contracts.GlobalAllocator.TheImpl.{ghosts}
use Rattle.std.proofs.lemmas.List.Elements.{All-push}
use mathlib.Core.Option.{some, some-ne-none, some-injective}
use lib.ListN.{get_elem?}
use Rattle.crossbeam_queue.specs.Fifo.{Pushes, Pops, Forks}
use Rattle.crossbeam_queue.proofs.Lists.{at_set, at_snoc}
use Rattle.ch_graph.specs.Hierarchy.{Hierarchy, IsRight}
use Rattle.domethyme_c.specs.Engines.{AreOfOne, AreOfOne.blank, AreOfOne.named}
use Rattle.ch_graph.specs.declared.version.Version.{Version}
use Rattle.ch_graph.specs.declared.version.Version.TheVariants.{One, Two}
use Rattle.ch_graph.specs.Graph.{Graph}
use Rattle.ch_graph.specs.Limits.{IsGraph}
use Rattle.ch_laws.specs.ByWeight.{IsRightByWeight}
use Rattle.hierfile.specs.Laws.{HierarchiesHaveOneSpelling}
use Rattle.domethyme_c.specs.Answers.{IsWrong, AnswersOver, OpenedFilesAnswerExactly}
use Rattle.domethyme_c.specs.Answers.IsOpened.{opened, refused}
-- The box of an engine that an open handle has the pointer of.
use Rattle.core.specs.contracts.mem.manually_drop.ManuallyDrop as Kept
use Rattle.core.proofs.mem.manually_drop.ManuallyDrop.TheLaws as kept
use Rattle.std_alloc.specs.contracts.boxed.Box as Box
use Rattle.std_heap.specs.contracts.Global as Heap
use Rattle.std_heap.proofs.Global.TheLaws as heap
use Rattle.domethyme_c.specs.contracts.engine.Engine as Engine
use Rattle.domethyme_c.proofs.engine.Engine.TheLaws as engine

abbrev pub R : RattleType
R = Kept.the_row Engine.the_row

abbrev pub R-laws : Laws R
R-laws = kept.the_row_laws Engine.the_row engine.the_row_laws

abbrev pub T : RattleType
T = arg (bare (layout R)) no R

abbrev pub A : RattleType
A = arg (bare (layout Heap.the_row)) no Heap.the_row

abbrev pub T-laws : Laws T
T-laws = arg_laws (bare (layout R)) no R R-laws refl

abbrev pub A-laws : Laws A
A-laws = arg_laws (bare (layout Heap.the_row)) no Heap.the_row heap.the_row_laws refl

abbrev pub none_of : RattleType → Dict
none_of X = impl ("domethyme_c::Destruct++none::drop" ∷ []) (tcons (layout X) tnil) dnil

abbrev pub Boxed : RattleType
Boxed = Box.the_row R Heap.the_row ghosts

-- Each step keeps the rule of what handles share.
abbrev Known : Type 0
Known = Option Hierarchy

-- a list of one has nothing but that
alone : (x k : Known) (p : ℕ) → get_elem? (x ∷ []) p ≡ some k → (x ≡ k) × (p ≡ 0)
alone x k zero at = (some-injective x k at, refl)
alone x k (suc p) at = absurd (some-ne-none k (sym at))

-- how many are known, and which one where one is
abbrev count : Known → ℕ
count None = 0
count (Some k) = 1

abbrev known_or : Hierarchy → Known → Hierarchy
known_or h None = h
known_or h (Some k) = k

unknown : (h : Hierarchy) → None ≡ Some h → ⊥
unknown h is = let none : 0 ≡ 1 = ap count is in omega (arith, none)

pub same : (h k : Hierarchy) → Some h ≡ Some k → h ≡ k
same h k is = ap (known_or h) is

module _ (views : List Known) (pass : ℕ) (h : Hierarchy) where
  -- who knows a hierarchy isn't the only handle that knows none
  not_alone : (v : Known) → v ≡ Some h → views ≡ None ∷ [] → get_elem? views pass ≡ some v → ⊥
  not_alone v is one at = unknown h ((alone None v pass (subst (λ (vs : List Known). get_elem? vs pass ≡ some v) one at)).0 ∙ is)

  known_set : ((p : ℕ) (k : Known) → get_elem? views p ≡ some k → k ≡ Some h) → (p : ℕ) (k : Known) → get_elem? (set views pass (Some h)) p ≡ some k → k ≡ Some h
  known_set known p k at = ⊎_elim (λ here. sym here.1) (λ other. known p k other.1) (at_set views pass p (Some h) k at)

-- the first handle gets to know the hierarchy
pub names : (n pass : ℕ) (s : Hierarchy) → Pushes AreOfOne n pass None s (λ (w : Known). w ≡ Some s)
names n pass s items views room (blank empty one) at = (
  Some s,
  named s (subst (λ (xs : List Hierarchy). All (λ (t : Hierarchy). t ≡ s) (xs ++ s ∷ [])) (sym empty) (All-push (λ (t : Hierarchy). t ≡ s) [] s (λ k d low. absurd (omega (arith, low))) refl)) known,
  refl,
)
  where
    known : (p : ℕ) (k : Known) → get_elem? (set views pass (Some s)) p ≡ some k → k ≡ Some s
    known p k at' = ⊎_elim (λ here. sym here.1)
        (λ other. absurd (other.0 ((alone None k p (subst (λ (vs : List Known). get_elem? vs p ≡ some k) one other.1)).1 ∙ sym (alone None None pass (subst (λ (vs : List Known). get_elem? vs pass ≡ some None) one at)).1)))
        (at_set views pass p (Some s) k at')
names n pass s items views room (named h all known) at = absurd (unknown h (known pass None at))

module _ (pass : ℕ) (h : Hierarchy) where
  -- what a handle puts in is of its hierarchy
  pub puts : (n : ℕ) (s : Hierarchy) → s ≡ h → Pushes AreOfOne n pass (Some h) s (λ (w : Known). w ≡ Some h)
  puts n s is items views room (blank empty one) at = absurd (not_alone views pass h (Some h) refl one at)
  puts n s is items views room (named k all known) at =
      let own : k ≡ h = same k h (sym (known pass (Some h) at)) in (
        Some h,
        named h (All-push (λ (t : Hierarchy). t ≡ h) items s (subst (λ (j : Hierarchy). All (λ (t : Hierarchy). t ≡ j) items) own all) is) (known_set views pass h (subst (λ (j : Hierarchy). (p : ℕ) (v : Known) → get_elem? views p ≡ some v → v ≡ Some j) own known)),
        refl,
      )

  -- and what it takes out
  pub takes : Pops AreOfOne pass (Some h) (λ (x : Hierarchy) (w : Known). (w ≡ Some h) × (Some h ≡ Some x))
  takes x items views (blank empty one) at = absurd (not_alone views pass h (Some h) refl one at)
  takes x items views (named k all known) at =
      let own : k ≡ h = same k h (sym (known pass (Some h) at)) in
      let are : All (λ (t : Hierarchy). t ≡ h) (x ∷ items) = subst (λ (j : Hierarchy). All (λ (t : Hierarchy). t ≡ j) (x ∷ items)) own all in (
        Some h,
        named h (λ i d low. are (suc i) d (omega (arith, low))) (known_set views pass h (subst (λ (j : Hierarchy). (p : ℕ) (v : Known) → get_elem? views p ≡ some v → v ≡ Some j) own known)),
        (refl, ap (λ (j : Hierarchy). Some j) (sym (are 0 x (omega arith)))),
      )

  -- another handle knows the same
  pub forks : Forks AreOfOne pass (Some h) (Some h) (Some h)
  forks items views (blank empty one) at = absurd (not_alone views pass h (Some h) refl one at)
  forks items views (named k all known) at =
      let own : k ≡ h = same k h (sym (known pass (Some h) at)) in
      let were = known_set views pass h (subst (λ (j : Hierarchy). (p : ℕ) (v : Known) → get_elem? views p ≡ some v → v ≡ Some j) own known) in
      named h (subst (λ (j : Hierarchy). All (λ (t : Hierarchy). t ≡ j) items) own all)
      (λ p v at'. ⊎_elim (λ old. were p v old) (λ new. sym new) (at_snoc (set views pass (Some h)) (Some h) v p at'))

-- whether something was taken out or not, a handle knows what it knew
pub stays : {new old : Known} (Is : Hierarchy → Type 0) (taken : Option Hierarchy) → MatchOption taken (new ≡ old) (λ x. (new ≡ old) × Is x) → new ≡ old
stays Is None told = told
stays Is (Some x) told = told.0

-- The hierarchy of a handle is the one that was written, since its bytes spell no other.
not_wrong : (v : Version) (g : Graph) (h : Hierarchy) → IsGraph g → h.version ≡ v → IsRightByWeight g h → (h.version ≡ Two → IsRight g h) → IsWrong h → ⊥
not_wrong One g h graph version weight right wrong = wrong.never_by_weight version g graph weight
not_wrong Two g h graph version weight right wrong = wrong.never g graph (right version)

pub answers_over : (g : Graph) (h : Hierarchy) → IsGraph g → IsRightByWeight g h → (h.version ≡ Two → IsRight g h) → AnswersOver g h
answers_over g h graph weight right = record {
  nodes = weight.nodes;
  lengths = λ from to n is. is.by_weight g weight;
  routes = λ from to r is. is.by_weight g weight;
  fewest = λ two from to r is. is.exact g graph (right two);
  between = λ starts ends r is. is.by_weight g weight;
  within = λ starts limit node n most is. let row = is.within most in (row.length, row.by_weight g weight, row.written);
  unlimited = λ starts node n is. let row = is.unlimited refl in (row.length, row.by_weight g weight, row.written);
  never_long = not_wrong h.version g h graph refl weight right;
}

same_held : (h k : Hierarchy) → Some h ≡ Some k → k ≡ h
same_held h k is = cc

some_none : (h : Hierarchy) → Some h ≡ None → ⊥
some_none h is = absurd (cc)

pub opened-exactly : HierarchiesHaveOneSpelling → OpenedFilesAnswerExactly
opened-exactly one g bytes code h graph file (opened ok k held made spelled) =
    let same : file.hierarchy ≡ h = one file.hierarchy k file.made made (sym file.spelled ∙ spelled) ∙ same_held h k held in
    answers_over g h graph (subst (IsRightByWeight g) same file.by_weight) (subst (λ (i : Hierarchy). i.version ≡ Two → IsRight g i) same file.right)
opened-exactly one g bytes code h graph file (refused e told fault none) = absurd (some_none h none)
