use Rattle.std.proofs.Common.{arith, ℕ, ◌≡◌, All, map, refl, subst, sym, ap, ◌∙◌, Result, Ok, Err, IfErr, IsErrAnd}
use Rattle.std.proofs.lemmas.Grind.{common_steps}
use Rattle.std.proofs.lemmas.List.{get_or_default, take_all}
use Rattle.std.proofs.lemmas.List.Elements.{All-map, All-more}
use Rattle.ch_query.specs.Seeds.{IsSeed}
use Rattle.domethyme_c.specs.Answers.{IsSeedFault, IsSeedRefusal, seed_of}
use Rattle.domethyme_c.specs.Answers.IsSeedRefusal.{fault, no_memory}
use Rattle.domethyme_c.specs.declared.seeds.SeedInfo.{SeedInfo}
use Rattle.domethyme_c.proofs.seeds.seeds_of.Goals as goal

pub infos-preserved : goal.infos-preserved
infos-preserved c = (
  grind (arith, common_steps) steps 200000,
  All-more (λ (s : SeedInfo). IsSeed c.args.engine.now (seed_of s)) c.args.infos.now c.infos.info-index (record { length = 0; node = 0; arcs = 0 }) c.infos-test.true c.infos.invariant.1
      (subst (IsSeed c.args.engine.now) c.in_ok-seed.ensures.ok.0 c.in_ok-seed.ensures.ok.1),
)

pub returns-clause-ok : goal.returns-clause-ok
returns-clause-ok c =
    let whole = take_all c.infos.info-index c.args.infos.now c.infos-test.false in
    let made : c.infos.seeds.items ≡ map seed_of c.args.infos.now = c.infos.invariant.0 ∙ ap (map seed_of) whole in
    (made, subst (All (IsSeed c.args.engine.now)) (sym made) (All-map (IsSeed c.args.engine.now) seed_of c.args.infos.now (subst (All (λ (s : SeedInfo). IsSeed c.args.engine.now (seed_of s))) whole c.infos.invariant.1)))

-- a refusal is what the call passes on
err_as : {T : Type 0} (P : ℕ → Type 0) (r : Result T ℕ) (code : ℕ) → IsErrAnd r (λ x. x ≡ code) → P code → IfErr r P
err_as P (Ok x) code is p = tt
err_as P (Err x) code is p = subst P (sym is) p

pub returns-in_err-seed-clause-err : goal.returns-in_err-seed-clause-err
returns-in_err-seed-clause-err c =
    let none : SeedInfo = record { length = 0; node = 0; arcs = 0 } in
    err_as (IsSeedRefusal c.args.engine.now c.args.infos.now) c.from_residual.result c.in_err-seed.field-0.0 c.from_residual.ensures.1
    (fault c.infos.info-index c.infos-test.true c.infos.invariant.1
    (λ d. subst (λ (s : SeedInfo). IsSeedFault c.args.engine.now s c.in_err-seed.field-0.0) (get_or_default c.args.infos.now c.infos.info-index none d c.infos-test.true) c.in_err-seed.ensures.err))

pub returns-then-is_err-clause-err : goal.returns-then-is_err-clause-err
returns-then-is_err-clause-err c =
    no_memory refl c.infos.info-index c.infos-test.true
    (All-more (λ (s : SeedInfo). IsSeed c.args.engine.now (seed_of s)) c.args.infos.now c.infos.info-index (record { length = 0; node = 0; arcs = 0 }) c.infos-test.true c.infos.invariant.1
    (subst (IsSeed c.args.engine.now) c.in_ok-seed.ensures.ok.0 c.in_ok-seed.ensures.ok.1))
