use Rattle.ch_sequential.proofs.building.build_sequential.Given as goal

abbrev pub ghosts-build_named-S-Site : goal.ghosts-build_named-S-Site
ghosts-build_named-S-Site g a = record { graph = a.graph }
