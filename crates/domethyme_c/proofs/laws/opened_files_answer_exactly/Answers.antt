use Rattle.domethyme_c.proofs.Handles.{opened-exactly}
use Rattle.domethyme_c.proofs.laws.opened_files_answer_exactly.Goals as goal

pub returns : goal.returns
returns c = opened-exactly c.hierarchies_have_one_spelling.ensures
