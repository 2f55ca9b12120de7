use Rattle.text_lines.proofs.PiecesOfPieces.{fields_cut}
use Rattle.text_lines.proofs.fields.fields_of.Goals as goal

pub returns : goal.returns
returns c = fields_cut _ _ _ c.split_str.ensures.value c.split_str-2.ensures.value
