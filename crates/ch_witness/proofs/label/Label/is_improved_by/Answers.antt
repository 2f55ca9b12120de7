use Rattle.ch_witness.proofs.label.Label.is_improved_by.Goals as goal

pub returns : goal.returns
returns c = (λ t. (c.if-self.false, c.is_below.ensures.0 t), λ h. c.is_below.ensures.1 h.1)
