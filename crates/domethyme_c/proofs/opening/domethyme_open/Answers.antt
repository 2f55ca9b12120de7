use Rattle.std.proofs.Common.{refl, ap, ◌∙◌, Some}
use Rattle.hierfile.specs.declared.error.HierError.TheVariants.{OutOfMemory}
use Rattle.domethyme_c.specs.Answers.IsOpened.{opened, refused}
use Rattle.domethyme_c.proofs.opening.domethyme_open.Goals as goal

pub returns-in-Err : goal.returns-in-Err
returns-in-Err c = record { answer = refused c.in-Err.error c.code_of.ensures c.in-Err.ensures.err c.close.ensures }

pub returns-in-Ok-boxed : goal.returns-in-Ok-boxed
returns-in-Ok-boxed c = record { answer = opened refl c.in-Ok.engine (c.put.ensures ∙ ap Some c.in-Ok-boxed.ensures) c.in-Ok.ensures.made c.in-Ok.ensures.ok }

pub returns-in-Err-boxed : goal.returns-in-Err-boxed
returns-in-Err-boxed c = record { answer = refused OutOfMemory refl tt c.close.ensures }
