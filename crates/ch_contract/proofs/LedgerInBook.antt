-- A ledger whose rows are in a book.
use Rattle.std.proofs.Common.{ℕ, ◌≡◌, ◌+◌, ◌<◌, ◌≤◌, List, [], ◌∷◌, All, AllPairs, length, map, get_or, arith, ap, sym, subst, refl, ◌∙◌, inl, inr}
use Rattle.std.specs.List.{zip}
use Rattle.std.specs.Prelude.{slice_index}
use Rattle.std.proofs.lemmas.Bool.{cases_eq}
use Rattle.std.proofs.lemmas.List.{get_or-map, length-map}
use Rattle.std.proofs.lemmas.List.Kept.{AllPairs-cons}
use Rattle.std.proofs.lemmas.List.Elements.{All-cons}
use Rattle.ch_graph.specs.Graph.{Graph}
use Rattle.ch_graph.specs.Limits.{bound_of}
use Rattle.ch_laws.specs.Members.{map-map}
use Rattle.ch_laws.specs.Rows.{Row, row_at}
use Rattle.ch_overlay.specs.declared.source.Seen.{Seen}
use Rattle.ch_overlay.specs.Source.{row_in}
use Rattle.ch_rowbook.specs.Books.{BookName, PenView, IsOfBook}
use Rattle.ch_rowbook.specs.Showing.{IsRising, IsShowable}
use Rattle.ch_contract.specs.Ledger.{Ledger, IsLedger, versions_now}
use Rattle.ch_contract.specs.Commit.{IsOld, IsRowOf}
use Rattle.ch_contract.specs.Board.{IsInBook}

-- other versions alone leave a ledger one
pub renumbered : (l : Ledger) (versions : List ℕ) → length versions ≡ length l.overlay.rows → IsLedger l → IsLedger (record l { overlay = record l.overlay { versions = versions } })
renumbered l versions count is =
    let o = is.overlay in
    record {
      graph = is.graph;
      overlay = record { few_nodes = o.few_nodes; versions = count; once = o.once; plain = o.plain; rows = o.rows; entries = o.entries };
      bound = is.bound;
      reached = is.reached;
    }

-- versions that rise
pub rising_from : (low : ℕ) (vs : List ℕ) (high : ℕ) → IsRising low vs high → All (λ v. low ≤ v) vs
rising_from low [] high is = λ k d h. absurd (omega (arith, h))
rising_from low (v ∷ vs) high is =
    All-cons (λ w. low ≤ w) v vs is.0 (λ k d h. let next = rising_from (v + 1) vs high is.1 k d h in let first = is.0 in omega (arith, next, first))

pub rising_pairs : (low : ℕ) (vs : List ℕ) (high : ℕ) → IsRising low vs high → AllPairs (λ a b. a < b) vs
rising_pairs low [] high is = λ i j d lt h. absurd (omega (arith, h))
rising_pairs low (v ∷ vs) high is =
    AllPairs-cons (λ a b. a < b) v vs (λ k d h. let next = rising_from (v + 1) vs high is.1 k d h in omega (arith, next)) (rising_pairs (v + 1) vs high is.1)

-- and that may be shown are above all earlier ones
pub showable_above : (current : List ℕ) (next : ℕ) (vs : List ℕ) → IsShowable current next vs → All (λ a. All (λ b. a < b) vs) current
showable_above current next vs is k d h j e g =
    let below : get_or current k d < is.low = is.below k d h in
    let above : is.low ≤ get_or vs j e = rising_from is.low vs next is.rising j e g in
    omega (arith, below, above)

-- pairs of what two functions return
pub zip_map : {A : Type 0} (f g : A → ℕ) (xs : List A) → map (λ x. (f x, g x)) xs ≡ zip (map f xs) (map g xs)
zip_map f g [] = refl
zip_map f g (x ∷ xs) = ap (λ (l : List (ℕ × ℕ)). (f x, g x) ∷ l) (zip_map f g xs)

-- what holds of all that a function returns
pub from_map : {X Y : Type 0} (P : Y → Type 0) (f : X → Y) (xs : List X) (ys : List Y) → map f xs ≡ ys → All P ys → All (λ x. P (f x)) xs
from_map P f xs ys is all k d h =
    subst P (get_or-map f xs k d (f d) h) (subst (λ (l : List _). All P l) (sym is) all k (f d) (subst (λ n. k < n) (sym (length-map xs f)) h))

module _ {X : Type 0} (node version : X → ℕ) (row : X → Row) (xs : List X) (changed : List (ℕ × Row)) (are : map (λ x. (node x, row x)) xs ≡ changed) where
  -- what was laid, each with its version
  pub laid_versions : map (λ x. (node x, version x)) xs ≡ zip (map (λ (a : ℕ × Row). a.0) changed) (map version xs)
  laid_versions =
      zip_map node version xs ∙ ap (λ (ns : List ℕ). zip ns (map version xs)) (sym (map-map (λ x. (node x, row x)) (λ (a : ℕ × Row). a.0) xs) ∙ ap (λ (l : List (ℕ × Row)). map (λ (a : ℕ × Row). a.0) l) are)

  pub laid_count : length (map version xs) ≡ length changed
  laid_count = length-map xs version ∙ sym (length-map xs (λ x. (node x, row x))) ∙ ap length are

module _ (graph : Graph) (book : BookName) (l : Ledger) (pen : PenView) (in_book : IsInBook graph book l pen) where
  -- an answer of the book that isn't old is the ledger's row
  pub row_from_book : (s : Seen) → IsOfBook book s → row_in s ≡ row_at pen.rows s.node → IsRowOf l s
  row_from_book s of is =
      let within = of.within in
      let nodes = in_book.nodes in
      record { in_range = omega (arith, within, nodes); same = is ∙ ap (λ (rs : List Row). row_at rs s.node) in_book.rows }

  pub version_from_book : (s : Seen) → IsOfBook book s → (IsOld l s → ⊥) → s.version ≡ slice_index pen.versions s.node
  version_from_book s of current = elim (cases_eq s.version (slice_index (versions_now l) s.node)) [
    | inl same ↦ same ∙ sym (ap (λ (vs : List ℕ). slice_index vs s.node) in_book.versions)
    | inr other ↦ absurd (let within = of.within in let nodes = in_book.nodes in current record { in_range = omega (arith, within, nodes); changed = other })
  ]

  -- what a commit leaves
  pub still_in_book : (new : Ledger) (after : PenView) → IsLedger l → IsLedger new → new.graph ≡ l.graph → length new.overlay.rows ≡ length l.overlay.rows → after.rows ≡ new.overlay.rows → after.versions ≡ versions_now new → IsInBook graph book new after
  still_in_book new after old is graph_same count rows versions = record {
    graph_is = graph_same ∙ in_book.graph_is;
    nodes = in_book.nodes ∙ sym count;
    bound = in_book.bound ∙ old.bound ∙ ap bound_of (sym graph_same) ∙ sym is.bound;
    rows = rows;
    versions = versions;
  }
