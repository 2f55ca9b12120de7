-- What a contract sees of a pass and of a queue.
use Rattle.std.specs.Prelude.{ℕ, List, [], ◌∷◌, ◌++◌}
use Rattle.std.specs.declared.option.Option.{Option}
use Rattle.std.specs.declared.option.Option.TheVariants.{Some, None}
use Rattle.rand_pcg.specs.Lcg.{Lcg, started, increment_of}
use Rattle.rand_pcg.specs.Pcg.{multiplier_64, pcg32}
use Rattle.ch_multiqueue.specs.declared.item.Item.{Item}

-- which pass it is, the generator of its words, and its account: the items that were put through it and those that were
-- taken, in the order of the calls
pub record Pass : Type 0 where
  pub number : ℕ
  pub generator : Lcg
  pub put : List Item
  pub taken : List Item

-- how many heaps there are, how many passes were made, and the seed of their generators
pub record Queue : Type 0 where
  pub heaps : ℕ
  pub passes : ℕ
  pub seed : ℕ

-- the pass of this number before any word is drawn: its generator is the Pcg32 of the seed and the number, and its
-- account is empty
abbrev pub pass_of : ℕ → ℕ → Pass
pass_of seed number = record {
  number = number;
  generator = started 64 multiplier_64 seed (increment_of 64 number);
  put = [];
  taken = [];
}

-- the next word of a pass
abbrev pub word : Pass → ℕ
word pass = (pcg32 pass.generator).0

-- the pass after that word is drawn
abbrev pub moved_on : Pass → Pass
moved_on pass = record pass { generator = (pcg32 pass.generator).1 }

-- the pass after an item is put through it
abbrev pub having_put : Item → Pass → Pass
having_put item pass = record pass { put = pass.put ++ item ∷ [] }

-- the pass after an item is taken through it, or after none was found
abbrev pub having_taken : Option Item → Pass → Pass
having_taken None pass = pass
having_taken (Some item) pass = record pass { taken = pass.taken ++ item ∷ [] }
