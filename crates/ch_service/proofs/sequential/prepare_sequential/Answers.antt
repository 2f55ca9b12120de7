use Rattle.std.proofs.Common.{rules, ap, arith, Ok}
use Rattle.std.proofs.lemmas.Grind.{common_steps}
use Rattle.std.proofs.lemmas.Result.{err_from_is_err_and}
use Rattle.ch_graph.specs.Hierarchy.{version_number}
use Rattle.ch_service.proofs.ByHierarchies.{built-good, refused-bad, breaks, is_text, writes}
use Rattle.ch_service.proofs.sequential.prepare_sequential.Goals as goal

pub write-requires : goal.write-requires
write-requires g c = ap version_number c.in_ok-built.ensures.built.ok.made.made.version

pub returns-clause-prepared : goal.returns-clause-prepared
returns-clause-prepared g c =
    let good = built-good _ _ (Ok tt) c.in_ok-built.was c.build_sequential.ensures.built.bad in
    let built = c.in_ok-built.ensures.built.ok in
    record {
      prepares = writes _ _ _ c.in-Ok.ensures.reads.reading built.right (search rules) built.made.made.version c.in_ok-write.ensures.writes.ok;
      good = good;
      refused = tt;
    }

pub returns-clause-leases : goal.returns-clause-leases
returns-clause-leases c = grind (arith, common_steps) steps 600000

pub returns-in-Err-clause-prepared : goal.returns-in-Err-clause-prepared
returns-in-Err-clause-prepared g c = rw c.refuse.ensures.refused (record { prepares = tt; good = tt; refused = (c.in-Err.ensures.reads.reading, c.in-Err.ensures.reads.reached, search rules) })

pub returns-in_err-built-clause-prepared : goal.returns-in_err-built-clause-prepared
returns-in_err-built-clause-prepared g c =
    let exit = err_from_is_err_and c.from_residual.result c.from_residual.ensures.1 in
    let fault = c.in_err-built.field-0.0 in
    let bad = refused-bad _ _ c.in_err-built.was c.build_sequential.ensures.built.bad in
    rw (exit.1, exit.2) (record { prepares = tt; good = tt; refused = (bad, is_text c.in-Ok.graph _ c.in-Ok.ensures.reads.reading, search rules) })

pub returns-in_err-write-clause-prepared : goal.returns-in_err-write-clause-prepared
returns-in_err-write-clause-prepared g c =
    let exit = err_from_is_err_and c.from_residual-in_err-write.result c.from_residual-in_err-write.ensures.1 in
    let good = built-good _ _ (Ok tt) c.in_ok-built.was c.build_sequential.ensures.built.bad in
    let built = c.in_ok-built.ensures.built.ok in
    rw (exit.1, exit.2)
    (record {
      prepares = tt;
      good = tt;
      refused = (good, breaks _ _ _ c.in_err-write.field-0.0 c.in-Ok.ensures.reads.reading built.right (search rules) built.made.made.version c.in_err-write.ensures.writes.err);
    })
