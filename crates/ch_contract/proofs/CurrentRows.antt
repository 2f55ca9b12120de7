-- Which rows of a proposal are current, and the results that follow from this.
use Rattle.std.proofs.Common.{ℕ, ◌≡◌, ◌≢◌, ◌<◌, ◌↔◌, Bool, true, false, not, List, [], ◌∷◌, ◌++◌, Option, Some, None, Result, Ok, Err, is_some, is_none, IfNone, IfSome, IsTrue, length, Contains, get_or, drop, ap, sym, subst, refl, ◌∙◌, inl, inr}
use Rattle.std.proofs.lemmas.Bool.{cases_Bool, false≢true}
use Rattle.std.proofs.lemmas.List.Elements.{All-contains, All-head, All-tail, Contains-append_right}
use Rattle.ch_laws.specs.Contraction.{IsAlive}
use Rattle.ch_laws.specs.Rows.{Row}
use Rattle.ch_laws.specs.Members.{contains_first}
use Rattle.ch_overlay.specs.declared.source.Seen.{Seen}
use Rattle.ch_overlay.specs.Overlay.{Overlay, IsOverlay, row_at, state_of}
use Rattle.ch_overlay.specs.Source.{row_in}
use Rattle.ch_contract.specs.declared.error.CommitError.{CommitError}
use Rattle.ch_contract.specs.declared.error.CommitError.TheVariants as commits
use Rattle.ch_contract.specs.Ledger.{Ledger, version_now, row_now}
use Rattle.ch_contract.specs.Proposal.{Proposal}
use Rattle.ch_contract.specs.Commit.{IsContractedYet, IsOld, NoneIsOld, IsFirstOld, IsRefusal, IsStale, IsShown}
use Rattle.ch_contract.proofs.SweptNodes.{waits-from_none, gone-from_some, none-from_alive}

some-none : (q : Option ℕ) → is_some q ≡ true → is_none q ≡ false
some-none None e = absurd (false≢true e)
some-none (Some x) e = refl

none-some : (q : Option ℕ) → is_none q ≡ false → is_some q ≡ true
none-some None e = absurd (false≢true (sym e))
none-some (Some x) e = refl

-- a node is contracted where its row has a rank
pub contracted_by_rank : (o : Overlay) → IsOverlay o → (x : ℕ) → x < length o.rows → (r : Row) → r ≡ row_at o.rows x → (b : Bool) → b ≡ is_some r.rank → IsTrue b ↔ Contains o.order x
contracted_by_rank o is x in_range r row_is b test =
    let same : is_some r.rank ≡ is_some (row_at o.rows x).rank = ap (λ (q : Row). is_some q.rank) row_is in (
      λ yes. gone-from_some (is.rows x in_range) (some-none (row_at o.rows x).rank (sym same ∙ sym test ∙ yes)),
      λ among. elim (cases_Bool (is_none (row_at o.rows x).rank)) [
        | inl none ↦ absurd (waits-from_none (is.rows x in_range) none among)
        | inr some ↦ test ∙ same ∙ none-some (row_at o.rows x).rank some
      ],
    )

module _ (l : Ledger) where
  -- two first old rows of one list are the same
  same_first : (before : List Seen) (s : Seen) (after : List Seen) (other : List Seen) (t : Seen) (rest : List Seen) → before ++ s ∷ after ≡ other ++ t ∷ rest → NoneIsOld l before → IsOld l s → NoneIsOld l other → IsOld l t → s ≡ t
  same_first [] s after [] t rest e early old also_early also_old = ap (λ rs. get_or rs 0 s) e
  same_first [] s after (u ∷ other) t rest e early old also_early also_old =
      let here : s ≡ u = ap (λ rs. get_or rs 0 s) e in
      absurd (All-head (λ (r : Seen). IsOld l r → ⊥) u other also_early (subst (λ (r : Seen). IsOld l r) here old))
  same_first (u ∷ before) s after [] t rest e early old also_early also_old =
      let here : u ≡ t = ap (λ rs. get_or rs 0 s) e in
      absurd (All-head (λ (r : Seen). IsOld l r → ⊥) u before early (subst (λ (r : Seen). IsOld l r) (sym here) also_old))
  same_first (u ∷ before) s after (v ∷ other) t rest e early old also_early also_old =
      same_first before s after other t rest (ap (drop 1) e) (All-tail (λ (r : Seen). IsOld l r → ⊥) u before early) old (All-tail (λ (r : Seen). IsOld l r → ⊥) v other also_early) also_old

  -- where none is old none is the first
  none_first : (rows : List Seen) (node seen now : ℕ) → NoneIsOld l rows → IsFirstOld l rows node seen now → ⊥
  none_first rows node seen now current first =
      let among : Contains rows first.row = subst (λ (rs : List Seen). Contains rs first.row) (sym first.among) (Contains-append_right first.before (first.row ∷ first.after) first.row (contains_first first.row first.after)) in
      All-contains (λ (r : Seen). IsOld l r → ⊥) rows first.row current among first.old

  -- a search for the first shows which it is
  pub current_by : {A : Type 0} (o : Option A) (node seen now : A → ℕ) (b : Bool) (rows : List Seen) → is_some o ≡ not b → IfNone o (NoneIsOld l rows)
      → IfSome o (λ a. IsFirstOld l rows (node a) (seen a) (now a)) → IsTrue b ↔ NoneIsOld l rows
  current_by None node seen now true rows is none some = (λ _. none, λ _. refl)
  current_by None node seen now false rows is none some = absurd (false≢true is)
  current_by (Some a) node seen now true rows is none some = absurd (false≢true (sym is))
  current_by (Some a) node seen now false rows is none some = (λ yes. absurd (false≢true yes), λ current. absurd (none_first rows (node a) (seen a) (now a) current some))

  module _ (p : Proposal) where
    -- what is up to date isn't refused
    pub current-not_stale : (node seen now front : ℕ) → NoneIsOld l p.rests_on → IsStale l p node seen now front → ⊥
    current-not_stale node seen now front current stale = none_first p.rests_on node seen now current stale.first

  -- what is refused is distinguished
  module _ (A : Type 0) (p : Proposal) where
    abbrev refused_by : CommitError → Result A CommitError
    refused_by e = Err e

    pub contracted_told : (e : CommitError) → IsRefusal l p e → refused_by e ≡ refused_by commits.Contracted ↔ IsContractedYet l p
    contracted_told commits.Contracted is = (λ _. is, λ _. refl)
    contracted_told (commits.Stale node seen now front) is = (λ e. absurd (cc), λ gone. absurd (is.waits gone))
    contracted_told commits.OutOfMemory is = absurd is
    contracted_told commits.Slot is = absurd is

    abbrev answer : ℕ → ℕ → ℕ → ℕ → Result A CommitError
    answer node seen now front = refused_by (commits.Stale node seen now front)

    stale_there : (n s w f : ℕ) → IsStale l p n s w f → (node seen now front : ℕ) → answer n s w f ≡ answer node seen now front → IsStale l p node seen now front
    stale_there n s w f is node seen now front e =
        let nodes : n ≡ node = cc in
        let versions : s ≡ seen = cc in
        let current : w ≡ now = cc in
        let fronts : f ≡ front = cc in
        subst (λ x. IsStale l p x seen now front) nodes
        (subst (λ x. IsStale l p n x now front) versions
        (subst (λ x. IsStale l p n s x front) current
        (subst (λ x. IsStale l p n s w x) fronts is)))

    stale_back : (n s w f : ℕ) → IsStale l p n s w f → (node seen now front : ℕ) → IsStale l p node seen now front → answer n s w f ≡ answer node seen now front
    stale_back n s w f is node seen now front stale =
        let one = is.first in
        let two = stale.first in
        let same : one.row ≡ two.row = same_first one.before one.row one.after two.before two.row two.after (sym one.among ∙ two.among) one.earlier one.old two.earlier two.old in
        let nodes : n ≡ node = one.of_node ∙ ap (λ (r : Seen). r.node) same ∙ sym two.of_node in
        let versions : s ≡ seen = one.of_version ∙ ap (λ (r : Seen). r.version) same ∙ sym two.of_version in
        let current : w ≡ now = one.current ∙ ap (λ (r : Seen). version_now l r.node) same ∙ sym two.current in
        let fronts : f ≡ front = is.of_log ∙ sym stale.of_log in
        ap (λ x. answer x s w f) nodes ∙ ap (λ x. answer node x w f) versions ∙ ap (λ x. answer node seen x f) current ∙ ap (λ x. answer node seen now x) fronts

    pub stale_told : (e : CommitError) → IsRefusal l p e → (node seen now front : ℕ) → refused_by e ≡ refused_by (commits.Stale node seen now front) ↔ IsStale l p node seen now front
    stale_told commits.Contracted is node seen now front = (λ e. absurd (cc), λ stale. absurd (stale.waits is))
    stale_told (commits.Stale n s w f) is node seen now front = (stale_there n s w f is node seen now front, stale_back n s w f is node seen now front)
    stale_told commits.OutOfMemory is node seen now front = absurd is
    stale_told commits.Slot is node seen now front = absurd is

-- what was done wasn't refused, and another call returns the same refusal
module _ (A : Type 0) where
  abbrev pub done_by : A → Result A CommitError
  done_by a = Ok a

  abbrev pub told_by : CommitError → Result A CommitError
  told_by e = Err e

  pub done-apart : (a : A) (e : CommitError) → done_by a ≡ told_by e → ⊥
  done-apart a e h = absurd (cc)

  pub told-same : (e f : CommitError) → told_by e ≡ told_by f → e ≡ f
  told-same e f h = cc

pub same_refusal : (A B : Type 0) (e f : CommitError) → (told_by A e ≡ told_by A f → told_by B e ≡ told_by B f) × (told_by B e ≡ told_by B f → told_by A e ≡ told_by A f)
same_refusal A B e f = (λ h. ap (told_by B) (told-same A e f h), λ h. ap (told_by A) (told-same B e f h))

unranked : (q : Option ℕ) → is_none q ≡ true → q ≡ None
unranked None e = refl
unranked (Some x) e = absurd (false≢true e)

-- a node that isn't contracted isn't shown with a rank
pub alive-unranked : (l : Ledger) → IsOverlay l.overlay → (node : ℕ) → IsAlive (state_of l.overlay) node → (s : Seen) → s.node ≡ node → IsShown l s → (row_in s).rank ≢ None → ⊥
alive-unranked l is node alive s node_is shown ranked =
    let none = unranked (row_now l node).rank (none-from_alive l.overlay is node alive.in_range alive) in
    ranked (ap (λ (r : Row). r.rank) shown.row.same ∙ ap (λ x. (row_now l x).rank) node_is ∙ none)
