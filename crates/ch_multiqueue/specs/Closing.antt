-- Queues that were closed, and when one isn't.
use Rattle.std.specs.Prelude.{ℕ, ◌≡◌, ◌<◌, ◌↔◌, List, codes, AllPairs, Any, Result, IfErr, IfOk, IsErrAnd}
use Rattle.std.specs.Global.{Vec}
use Rattle.ch_multiqueue.specs.Accounts.{AreBalanced}
use Rattle.ch_multiqueue.specs.Items.{IsNotAfter}
use Rattle.ch_multiqueue.specs.declared.error.CloseError.{CloseError}
use Rattle.ch_multiqueue.specs.declared.error.CloseError.TheVariants.{OutOfMemory, PassMissing, Mixed}
use Rattle.ch_multiqueue.specs.declared.item.Item.{Item}
use Rattle.ch_multiqueue.specs.Passes.{Pass, Queue}

-- the queue that was closed, as it was then, and what was left in it
pub record Closed : Type 0 where
  pub queue : Queue
  pub left : List Item

-- the pass of this number is among those
abbrev pub IsAmong : ℕ → List Pass → Type 0
IsAmong number passes = Any (λ (p : Pass). p.number ≡ number) passes

-- of this many passes that were made, numbered from 0, one isn't among those that were given
abbrev pub IsLacking : ℕ → List Pass → Type 0
IsLacking made passes = (number : ℕ) × (number < made) × (IsAmong number passes → ⊥)

-- what is left in a queue: it is in order, and the accounts of the passes agree with it
pub record IsLeft (passes : List Pass) (left : List Item) : Type 0 where
  pub sorted : AllPairs IsNotAfter left
  pub balanced : AreBalanced passes left

-- How a queue ends by these passes, where `left_of` says what is left. `PassMissing` is reported exactly where a pass is
-- missing, and at each refusal queue and passes are returned as they were.
pub record IsEnd {T : Type 0} (r : Result T (CloseError × Queue × Vec Pass)) (q : Queue) (p : Vec Pass) (left_of : T → List Item) : Type 0 where
  pub left : IfOk r (λ t. IsLeft p.items (left_of t))
  pub missing : IsErrAnd r (λ refused. refused.0 ≡ PassMissing) ↔ IsLacking q.passes p.items
  pub queue : IfErr r (λ refused. refused.1 ≡ q)
  pub passes : IfErr r (λ refused. refused.2 ≡ p)

-- an error's name, as it is printed
abbrev pub error_name : CloseError → List ℕ
error_name OutOfMemory = codes "OutOfMemory"
error_name PassMissing = codes "PassMissing"
error_name Mixed = codes "Mixed"
