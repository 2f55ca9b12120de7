use Rattle.std.proofs.Common.{ℕ, ◌≡◌, ◌+◌, ◌++◌, ◌<◌, List, [], Bool, Vec, Global, IsTrue, false, map, take, length, All, get_or, sym, subst, ap, ◌∙◌, arith}
use Rattle.std.proofs.lemmas.List.{get_or-map, length-map, take_all}
use Rattle.std.proofs.lemmas.List.Elements.{All-more}
use Rattle.ch_contract.specs.declared.contraction.Receipt.{Receipt}
use Rattle.ch_workers.specs.Account.{all_of, Rises, AreApart, AreMarked}
use Rattle.ch_workers.proofs.ReceiptMarks.{false_is_true, all_more, apart_lists, account_from_marks, marks_from_account, written}
use Rattle.ch_workers.proofs.account.is_account.Goals as goal

-- the receipts of the vectors
abbrev lists_of : List (Vec Receipt Global) → List (List Receipt)
lists_of vectors = map (λ (v : Vec Receipt Global). v.items) vectors

within : (vectors : List (Vec Receipt Global)) (n : ℕ) → n < length vectors → n < length (lists_of vectors)
within vectors n inside = omega (arith, inside, length-map vectors (λ (v : Vec Receipt Global). v.items))

-- the list at a place
list_at : (vectors : List (Vec Receipt Global)) (n : ℕ) (v : Vec Receipt Global) → n < length vectors → v ≡ get_or vectors n v → v.items ≡ get_or (lists_of vectors) n []
list_at vectors n v inside is = ap (λ (w : Vec Receipt Global). w.items) is ∙ sym (get_or-map (λ (w : Vec Receipt Global). w.items) vectors n v [] inside)

pub returns-then-not-rises : goal.returns-then-not-rises
returns-then-not-rises c =
    let vectors = c.args.receipts.now in
    let n = c.lists.list-index in
    let inside : n < length vectors = omega (arith, c.lists-test.true) in
    let here = c.deref.ensures.value ∙ list_at vectors n c.list-item.result inside c.list-item.is in (
      λ t. absurd (false_is_true t),
      λ h. sym c.if-not-rises.true ∙ c.rises.ensures.1 (subst Rises (sym here) (h.rising n [] (within vectors n inside))),
    )

pub returns-then-not-take_list : goal.returns-then-not-take_list
returns-then-not-take_list c =
    let log = c.args.log.now in
    let vectors = c.args.receipts.now in
    let n = c.lists.list-index in
    let inside : n < length vectors = omega (arith, c.lists-test.true) in
    let here = c.deref-in-lists.ensures.value ∙ list_at vectors n c.list-item.result inside c.list-item.is in
    let done = all_of (take n (lists_of vectors)) in (
      λ t. absurd (false_is_true t),
      λ h. absurd (c.take_list.ensures.refused c.if-not-take_list.true done
          (subst (AreMarked log done) (sym c.deref_mut.ensures.value) c.lists.invariant.marked)
          (subst (λ l. AreApart log (done ++ l)) (sym here) (apart_lists (lists_of vectors) n [] (within vectors n inside) h))),
    )

pub lists-preserved : goal.lists-preserved
lists-preserved c =
    let log = c.args.log.now in
    let vectors = c.args.receipts.now in
    let n = c.lists.list-index in
    let inside : n < length vectors = omega (arith, c.lists-test.true) in
    let there = within vectors n inside in
    let here = c.deref.ensures.value ∙ list_at vectors n c.list-item.result inside c.list-item.is in
    let again = c.deref-in-lists.ensures.value ∙ list_at vectors n c.list-item.result inside c.list-item.is in
    let done = all_of (take n (lists_of vectors)) in
    let new = c.take_list.new.marks in
    let old = c.lists.marks.items in
    let value : c.deref_mut.result.now ≡ old = c.deref_mut.ensures.value in
    let count : c.lists.marks.len ≡ length old = omega (arith, ap length value, c.deref_mut.ensures.len) in
    let same : length new ≡ length old = omega (arith, ap length value, c.take_list.auto.marks) in
    let is = written c.lists.marks.len new old count same in
    let taken = c.take_list.ensures.taken c.if-not-take_list.false done (subst (AreMarked log done) (sym value) c.lists.invariant.marked) in
    record {
      size = ap length is ∙ same ∙ c.lists.invariant.size;
      rising = All-more Rises (lists_of vectors) n [] there c.lists.invariant.rising (subst Rises here (c.rises.ensures.0 c.if-not-rises.false));
      marked = subst (AreMarked log (all_of (take (n + 1) (lists_of vectors)))) (sym is)
          (subst (λ l. AreMarked log l new) (all_more (lists_of vectors) n [] there) (subst (λ l. AreMarked log (done ++ l) new) again taken));
    }

pub returns : goal.returns
returns c =
    let log = c.args.log.now in
    let vectors = c.args.receipts.now in
    let lists = lists_of vectors in
    let n = c.lists.list-index in
    let marks = c.lists.marks.items in
    let whole : take n lists ≡ lists = take_all n lists (omega (arith, c.lists-test.false, length-map vectors (λ (v : Vec Receipt Global). v.items))) in
    let marked = subst (λ l. AreMarked log (all_of l) marks) whole c.lists.invariant.marked in
    let rising = subst (All Rises) whole c.lists.invariant.rising in
    let value = c.deref-2.ensures.value in
    let size = c.lists.invariant.size in (
      λ t. account_from_marks c.requires.log lists marks size marked rising
          (subst (λ (ms : List Bool). (k : ℕ) → k < length ms → IsTrue (get_or ms k false)) value (c.are_set.ensures.0 t)),
      λ h. c.are_set.ensures.1
          (subst (λ (ms : List Bool). (k : ℕ) → k < length ms → IsTrue (get_or ms k false)) (sym value) (marks_from_account c.requires.log lists marks size marked h)),
    )
