-- What is promised of the executor: the coordinator's three demands, and 01's starred cases. All is said over
-- the definitions that the contracts of the four calls cite: a contract equates each answer, and every byte
-- that its call was lent to write, with them. `proofs/Promises` proves it.
--
-- Each clause has a mark, or its file says that all of its clauses are theorems. (theorem): it says more than
-- the definitions that it names do at sight. (by definition): it is what a call's definition says in one
-- case, put here to be read.
use Rattle.std.specs.Prelude.{ℕ, List}
use Rattle.promises.specs.Demand1.{Demand1}
use Rattle.promises.specs.Demand2.{Demand2}
use Rattle.promises.specs.Demand3.{Demand3}
use Rattle.promises.specs.Starred as cases

pub record Promises : Type 0 where
  -- whatever a call refuses, it gives 01's number for it and changes nothing
  pub refusals : (im : List ℕ) → Demand1 im
  -- an image is accepted exactly when it is well formed, and then the calls go by 01's rules
  pub rules : (im : List ℕ) → Demand2 im
  -- after any list of events each field's bytes are those of its own finished visits
  pub sittings : (im : List ℕ) → Demand3 im
  -- 01's starred cases come out as they are listed
  pub starred : cases.AsListed cases.starred
