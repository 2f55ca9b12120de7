-- A ledger that one thread contracts alone, and numbers the versions of its rows.
use Rattle.std.specs.Prelude.{ℕ, ◌+◌, ◌*◌, ◌^◌, ◌<◌, ◌≤◌, length, All}
use Rattle.ch_contract.specs.Ledger.{Ledger, IsGone, versions_now}

-- Versions from `next` on may be given, and there are enough for all contractions that are left.
pub record HasVersions (l : Ledger) (next : ℕ) : Type 0 where
  pub above : All (λ v. v < next) (versions_now l)
  pub few : next ≤ 2 ^ 26 * (1 + length l.log)

-- the nodes below this one are contracted
abbrev pub AreGoneBelow : ℕ → Ledger → Type 0
AreGoneBelow n l = (x : ℕ) → x < n → IsGone l x
