-- New versions, numbered one by one: they are above all earlier ones, and there are numbers for all.
use Rattle.std.proofs.Common.{ℕ, ◌≡◌, ◌<◌, List, AllPairs, All, length, ap, sym, subst, ◌∙◌}
use Rattle.std.specs.List.{range_with_len}
use Rattle.std.proofs.lemmas.List.FromFn.{length-range_with_len}
use Rattle.ch_overlay.specs.Ranges.{range_with_len-rises}
use Rattle.ch_overlay.specs.Versions.{versions-above}
use Rattle.ch_contract.specs.Ledger.{Ledger}
use Rattle.ch_contract.specs.Planned.{Planned, AreNewVersions}

-- so they may be given
pub new_versions : (l : Ledger) (p : Planned) (vs : List ℕ) (first : ℕ) → vs ≡ range_with_len first (length p.change.rows) → All (λ v. v < first) l.overlay.versions → AreNewVersions l p vs
new_versions l p vs first is below = record {
  count = ap length is ∙ length-range_with_len first (length p.change.rows);
  rising = subst (λ (ws : List ℕ). AllPairs (λ a b. a < b) ws) (sym is) (range_with_len-rises first (length p.change.rows));
  above = versions-above vs first (length p.change.rows) is l.overlay.versions below;
}
