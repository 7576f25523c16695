-- Refusals and their numbers. Assumes nothing.
use Rattle.std.specs.Prelude.{ℕ, Bool, cond, List, [], ◌∷◌, Some, None, Ok, Err, Option, Result}
use Rattle.cluster.specs.declared.refusal.Refusal.{Refusal}
use Rattle.cluster.specs.declared.refusal.Refusal.TheVariants.{ReaderCount, TableSize, NoFaultSet, BookInUse, Shut, NoClient, OperationOpen, OperationsUsed, InFlightFull, JournalFull, SigningRefused, NoMessage, WrongWay, NoReplica, ReplicaCorrect, NothingCompleted}

-- the number of each refusal
abbrev pub number : Refusal → ℕ
number ReaderCount = 4
number TableSize = 5
number NoFaultSet = 6
number BookInUse = 7
number Shut = 8
number NoClient = 9
number OperationOpen = 10
number OperationsUsed = 11
number InFlightFull = 12
number JournalFull = 13
number SigningRefused = 14
number NoMessage = 15
number WrongWay = 16
number NoReplica = 17
number ReplicaCorrect = 18
number NothingCompleted = 19

-- an answer, with a refusal by its number
abbrev pub numbered : {A : Type 0} → Result A Refusal → Result A ℕ
numbered (Ok a) = Ok a
numbered (Err e) = Err (number e)

-- the number of what a test tells: none where it accepts
abbrev pub told : Result (Unit {0}) Refusal → Option ℕ
told (Ok a) = None
told (Err e) = Some (number e)

-- a check: whether it refuses, and the number by which it does
abbrev pub Check : Type 0
Check = Bool × ℕ

-- the number of the first check that refuses, if one does
abbrev pub first_refusal : List Check → Option ℕ
first_refusal [] = None
first_refusal (c ∷ cs) = cond c.0 (Some c.1) (first_refusal cs)
