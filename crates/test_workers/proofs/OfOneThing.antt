-- Lists of lists, all of whose elements are of one kind.
use Rattle.std.proofs.Common.{◌≡◌, ◌∷◌, ◌++◌, List, [], All, Vec, Global, sym, subst}
use Rattle.std.proofs.lemmas.List.Elements.{All-push, All-nil}

-- one more list, of one thing of the kind
pub and_list_of : {T : Type 0} (lists : List (Vec T Global)) (list : Vec T Global) (thing : T) (P : T → Type 0) → All (λ (v : Vec T Global). All P v.items) lists
    → list.items ≡ thing ∷ [] → P thing → All (λ (v : Vec T Global). All P v.items) (lists ++ list ∷ [])
and_list_of {T = T} lists list thing P all is p =
    let one : All P list.items = subst (All P) (sym is) (All-push P [] thing (All-nil P) p) in
    All-push (λ (v : Vec T Global). All P v.items) lists list all one
