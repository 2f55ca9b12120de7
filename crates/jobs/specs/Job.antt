-- What the program is asked for.
use Rattle.std.specs.Prelude.{Bool, false, ◌&&◌, not, is_some, ⊤, codes}
use Rattle.std.specs.Str.{bytes_eq}
use Rattle.jobs.specs.Orders.{takes_turns}
use Rattle.jobs.specs.declared.job.Job.{Job}
use Rattle.jobs.specs.declared.job.Job.TheVariants.{Answer, Prepare, Route, Info, Check, Renew}

-- both texts are in one input
abbrev pub is_joined : Job → Bool
is_joined (Answer graph queries) = bytes_eq graph.now (codes "-") && bytes_eq queries.now (codes "-")
is_joined (Prepare preparation) = false
is_joined (Route hierarchy queries) = false
is_joined (Info hierarchy) = false
is_joined (Check check) = false
is_joined (Renew renewal) = false

-- the file of a hierarchy is to be made under the name of the graph
abbrev pub names_one_file : Job → Bool
names_one_file (Answer graph queries) = false
names_one_file (Prepare preparation) = bytes_eq preparation.graph.now preparation.out.now
names_one_file (Route hierarchy queries) = false
names_one_file (Info hierarchy) = false
names_one_file (Check check) = false
names_one_file (Renew renewal) = bytes_eq renewal.graph.now renewal.out.now

-- with stints workers are to change from an order that takes no turns
abbrev pub is_out_of_turn : Job → Bool
is_out_of_turn (Prepare preparation) = is_some preparation.stint && not (takes_turns preparation.order)
is_out_of_turn job = false

-- a hierarchy is to be prepared
abbrev pub IsPreparing : Job → Type 0
IsPreparing (Prepare preparation) = ⊤
IsPreparing job = ⊥

-- what the file of a hierarchy has is to be printed
abbrev pub IsInforming : Job → Type 0
IsInforming (Info hierarchy) = ⊤
IsInforming job = ⊥
