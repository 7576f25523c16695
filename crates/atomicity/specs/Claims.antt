-- What is claimed of a run. An operation is named by the place in the run at which it began. Assumes nothing.
use Rattle.std.specs.Prelude.{◌≡◌, ℕ, suc, ◌<◌, true, false, cond, ◌⊎◌, List, [], ◌∷◌, ◌++◌, take, Some, None, Option, ◌≢◌}
use Rattle.std.specs.List.{remove}
use Rattle.std.specs.Option.{option_map, unwrap_or}
use Rattle.replica_sets.specs.Sets.{has}
use Rattle.cluster.specs.declared.completed_read.CompletedRead.{CompletedRead}
use Rattle.atomicity.specs.Marks.{Mark, Traffic, Summary, look, begins, writes, reads, turns, finishes, gives, collects, collector, requests, replies, at, at_traffic}
use Rattle.atomicity.specs.Marks.Traffic.{Still, Sends, ToReplica, ToClient, Drops}

-- ---- linearizability

module _ {S : Type 0} (run : List (Summary S)) where
  -- the operation that began at i ends at j: there its client's next finish after i stands
  pub record Ends (i j : ℕ) : Type 0 where
    pub who : ℕ
    pub begun : at begins run i ≡ Some who
    pub later : i < j
    pub ended : at finishes run j ≡ Some who
    pub first : (l : ℕ) → i < l → l < j → at finishes run l ≢ Some who

  -- a write begins at i
  abbrev pub WriteBegun : ℕ → Type 0
  WriteBegun i = (v : S) × (at writes run i ≡ Some v)

  -- a read begins at i, and ends
  abbrev pub ReadFinished : ℕ → Type 0
  ReadFinished i = (c : ℕ) × (at reads run i ≡ Some c) × (j : ℕ) × Ends i j

  -- along the order, from the setting v on, each read gives the setting that was written last
  abbrev pub Legal : S → List ℕ → Type 0
  Legal v [] = Unit {0}
  Legal v (x ∷ xs) =
      ((c j : ℕ) → at reads run x ≡ Some c → Ends x j → option_map (λ z. z.setting) (at gives run j) ≡ Some v)
      × Legal (unwrap_or (at writes run x) v) xs

-- x is in the list
abbrev pub In : ℕ → List ℕ → Type 0
In x [] = ⊥
In x (y ∷ ys) = (x ≡ y) ⊎ In x ys

-- nothing is in the list twice
abbrev pub Once : List ℕ → Type 0
Once [] = Unit {0}
Once (x ∷ xs) = (In x xs → ⊥) × Once xs

-- x stands somewhere before y
abbrev pub Before : List ℕ → ℕ → ℕ → Type 0
Before [] x y = ⊥
Before (z ∷ zs) x y = ((x ≡ z) × In y zs) ⊎ Before zs x y

-- the order holds every write begun and every read finished once and nothing else; what ended before another began
-- stands before it; and the reads give what the order says
pub record Linearizes {S : Type 0} (initial : S) (run : List (Summary S)) (order : List ℕ) : Type 0 where
  pub once : Once order
  pub each_write : (i : ℕ) → WriteBegun run i → In i order
  pub each_read : (i : ℕ) → ReadFinished run i → In i order
  pub no_other : (i : ℕ) → In i order → WriteBegun run i ⊎ ReadFinished run i
  pub in_time : (x y j : ℕ) → In x order → In y order → Ends run x j → j < y → Before order x y
  pub legal : Legal run initial order

-- ---- progress

-- where a message in flight comes from: the call at a place of the run sent it, or a replica answered another with it
pub data Origin : Type 0 where
  SentAt : ℕ → Origin
  AnswerBy : ℕ → Origin → Origin

-- the origins with one more, if there is one
abbrev pub and_also : List Origin → Option Origin → List Origin
and_also os None = os
and_also os (Some o) = os ++ (o ∷ [])

-- the origins of the messages in flight after an event at the place i, before which they were os
abbrev pub moved : ℕ → Traffic → List Origin → List Origin
moved i Still os = os
moved i Sends os = os ++ (SentAt i ∷ [])
moved i (ToReplica n r answered) os = cond answered (and_also os (option_map (AnswerBy r) (look (λ o. Some o) os n))) os
moved i (ToClient n sent) os = cond sent (os ++ (SentAt i ∷ [])) os
moved i (Drops n) os = remove os n

module _ {S : Type 0} where
  -- the origins of what is in flight after the events, of which the first stands at place i and finds os in flight
  abbrev pub walk : ℕ → List Origin → List (Summary S) → List Origin
  walk i os [] = os
  walk i os (e ∷ es) = walk (suc i) (moved i e.traffic os) es

  module _ (run : List (Summary S)) where
    -- the origin of the message n in flight as the call at place j is made
    abbrev pub origin : ℕ → ℕ → Option Origin
    origin j n = look (λ o. Some o) (walk 0 [] (take j run)) n

    -- the message sent at i was delivered to the replica r
    abbrev pub Reached : ℕ → ℕ → Type 0
    Reached i r = (j n : ℕ) × (at_traffic requests run j ≡ Some (n, r)) × (origin j n ≡ Some (SentAt i))

    -- an answer of the replica r to the message sent at i was delivered
    abbrev pub Returned : ℕ → ℕ → Type 0
    Returned i r = (j n : ℕ) × (at_traffic replies run j ≡ Some n) × (origin j n ≡ Some (AnswerBy r (SentAt i)))

    -- after i, an event of the client c is at some place
    abbrev pub Later : (Mark S → Option ℕ) → ℕ → ℕ → Type 0
    Later f i c = (j : ℕ) × (i < j) × (at f run j ≡ Some c)

    module _ (size faulty : ℕ) where
      -- every correct replica was reached by the message sent at i, and its answer too
      abbrev pub Served : ℕ → Type 0
      Served i = (r : ℕ) → r < size → has faulty r ≡ false → Reached i r × Returned i r

      -- each phase that was served is over, and correct replicas answer
      pub record Progresses : Type 0 where
        -- the query of a read ends
        pub query_ends : (i c : ℕ) → at reads run i ≡ Some c → Served i → Later turns i c
        -- the storing of a read ends
        pub store_ends : (i c : ℕ) → at turns run i ≡ Some c → Served i → Later finishes i c
        -- the storing of a write ends
        pub write_ends : (i : ℕ) → WriteBegun run i → Served i → Later finishes i 0
        -- a correct replica that a phase's message is delivered to answers it
        pub answers : (i j n r : ℕ) → at_traffic requests run j ≡ Some (n, r) → origin j n ≡ Some (SentAt i) → has faulty r ≡ false
            → look (λ e. Some e.traffic) run j ≡ Some (ToReplica n r true)

-- ---- what a reader is handed

-- a reader is next handed what its read gave, unless another of its reads has ended before
abbrev pub HandsOut : {S : Type 0} → List (Summary S) → Type 0
HandsOut run = (j l c : ℕ) (z : CompletedRead _) → at finishes run j ≡ Some c → at gives run j ≡ Some z → j < l → at collector run l ≡ Some c
    → ((i : ℕ) → j < i → i < l → at finishes run i ≢ Some c) → ((i : ℕ) → j < i → i < l → at collector run i ≢ Some c)
    → at collects run l ≡ Some (c, z)

-- ---- the whole

-- all three claims
pub record Sound {S : Type 0} (initial : S) (size faulty : ℕ) (run : List (Summary S)) : Type 0 where
  pub linearizable : (order : List ℕ) × Linearizes initial run order
  pub progress : Progresses run size faulty
  pub hands_out : HandsOut run
