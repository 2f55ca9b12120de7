-- How the logic distinguishes the entries of a log.
use Rattle.std.specs.Prelude.{ℕ, List, refl}
use Rattle.std.specs.Coded.{Coded, code_by, coded×, coded_list, coded_ℕ}
use Rattle.ch_laws.specs.Contraction.{Contraction}

-- an entry is its node, its rank, its neighbours and its number of shortcuts
abbrev pub coded_entry : Coded Contraction
coded_entry =
    code_by (ℕ × (ℕ × (List ℕ × ℕ))) (coded× coded_ℕ (coded× coded_ℕ (coded× (coded_list coded_ℕ) coded_ℕ)))
    (λ e. (e.node, (e.rank, (e.neighbours, e.shortcuts))))
    (λ p. record { node = p.0; rank = p.1.0; neighbours = p.1.1.0; shortcuts = p.1.1.1 })
    (λ _. refl)
