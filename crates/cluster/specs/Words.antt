-- The words by which answers and refusals are printed. Assumes nothing.
use Rattle.std.specs.Prelude.{ℕ, List, codes}
use Rattle.cluster.specs.declared.delivery.Delivery.{Delivery}
use Rattle.cluster.specs.declared.delivery.Delivery.TheVariants.{Answered, Unanswered}
use Rattle.cluster.specs.declared.refusal.Refusal.{Refusal}
use Rattle.cluster.specs.declared.refusal.Refusal.TheVariants.{ReaderCount, TableSize, NoFaultSet, BookInUse, Shut, NoClient, OperationOpen, OperationsUsed, InFlightFull, JournalFull, SigningRefused, NoMessage, WrongWay, NoReplica, ReplicaCorrect, NothingCompleted}

-- the word for what a delivery came to
abbrev pub delivery_word : Delivery → List ℕ
delivery_word Answered = codes "answered"
delivery_word Unanswered = codes "unanswered"

-- what a refusal says
abbrev pub refusal_words : Refusal → List ℕ
refusal_words ReaderCount = codes "there are no readers, or more than 8"
refusal_words TableSize = codes "a table hasn't the size that it has to have"
refusal_words NoFaultSet = codes "the faulty replicas are no fault set"
refusal_words BookInUse = codes "the scheme's book isn't empty"
refusal_words Shut = codes "the cluster is shut"
refusal_words NoClient = codes "there is no such client"
refusal_words OperationOpen = codes "the client's operation is open"
refusal_words OperationsUsed = codes "the client's operation numbers are used up"
refusal_words InFlightFull = codes "as many messages are in flight as there are places"
refusal_words JournalFull = codes "too few journal lines are free"
refusal_words SigningRefused = codes "the scheme refuses to sign"
refusal_words NoMessage = codes "there is no such message in flight"
refusal_words WrongWay = codes "a request goes to replicas, and a reply to its client"
refusal_words NoReplica = codes "there is no such replica"
refusal_words ReplicaCorrect = codes "a correct replica's replies can't be forged"
refusal_words NothingCompleted = codes "the reader has no completed read"
