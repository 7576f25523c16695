-- What the claims see of a run's events, and the questions that they ask. Assumes nothing.
use Rattle.std.specs.Prelude.{ℕ, zero, suc, Bool, List, [], ◌∷◌, Some, None, Option}
use Rattle.std.specs.Option.{option_map}
use Rattle.cluster.specs.declared.completed_read.CompletedRead.{CompletedRead}

-- what an event is to the clients
pub data Mark (S : Type 0) : Type 0 where
  -- nothing of what follows, or the call is refused
  Nothing : Mark S
  -- the client begins an operation: a write of the setting, or a read
  Begins : ℕ → Option S → Mark S
  -- the reader's query has ended
  Turns : ℕ → Mark S
  -- the client's operation has ended; a reader holds the completed read then
  Finishes : ℕ → Option (CompletedRead S) → Mark S
  -- the reader is handed the completed read
  Collects : ℕ → CompletedRead S → Mark S

-- what an event is to the messages in flight, which are known by their places
pub data Traffic : Type 0 where
  -- nothing of what follows, or the call is refused
  Still : Traffic
  -- a client sends a message
  Sends : Traffic
  -- the message is delivered to the replica, which answers or doesn't
  ToReplica : ℕ → ℕ → Bool → Traffic
  -- the message is delivered to its client, which sends one or doesn't
  ToClient : ℕ → Bool → Traffic
  -- the message is lost
  Drops : ℕ → Traffic

-- what the claims see of an event
pub record Summary (S : Type 0) : Type 0 where
  pub mark : Mark S
  pub traffic : Traffic

-- ---- questions about the event at a place

-- what a question gives at a place of a list; nothing past its end
abbrev pub look : {E A : Type 0} → (E → Option A) → List E → ℕ → Option A
look f [] i = None
look f (e ∷ es) zero = f e
look f (e ∷ es) (suc i) = look f es i

-- which message is delivered to which replica
abbrev pub requests : Traffic → Option (ℕ × ℕ)
requests Still = None
requests Sends = None
requests (ToReplica n r answered) = Some (n, r)
requests (ToClient n sent) = None
requests (Drops n) = None

-- which message is delivered to its client
abbrev pub replies : Traffic → Option ℕ
replies Still = None
replies Sends = None
replies (ToReplica n r answered) = None
replies (ToClient n sent) = Some n
replies (Drops n) = None

module _ {S : Type 0} where
  -- who begins an operation
  abbrev pub begins : Mark S → Option ℕ
  begins Nothing = None
  begins (Begins c v) = Some c
  begins (Turns c) = None
  begins (Finishes c z) = None
  begins (Collects c z) = None

  -- which setting a write that begins brings
  abbrev pub writes : Mark S → Option S
  writes Nothing = None
  writes (Begins c v) = v
  writes (Turns c) = None
  writes (Finishes c z) = None
  writes (Collects c z) = None

  -- who begins to read
  abbrev pub reads : Mark S → Option ℕ
  reads Nothing = None
  reads (Begins c None) = Some c
  reads (Begins c (Some v)) = None
  reads (Turns c) = None
  reads (Finishes c z) = None
  reads (Collects c z) = None

  -- whose query ends
  abbrev pub turns : Mark S → Option ℕ
  turns Nothing = None
  turns (Begins c v) = None
  turns (Turns c) = Some c
  turns (Finishes c z) = None
  turns (Collects c z) = None

  -- whose operation ends
  abbrev pub finishes : Mark S → Option ℕ
  finishes Nothing = None
  finishes (Begins c v) = None
  finishes (Turns c) = None
  finishes (Finishes c z) = Some c
  finishes (Collects c z) = None

  -- what a read that ends gives
  abbrev pub gives : Mark S → Option (CompletedRead S)
  gives Nothing = None
  gives (Begins c v) = None
  gives (Turns c) = None
  gives (Finishes c z) = z
  gives (Collects c z) = None

  -- who is handed a completed read, and which
  abbrev pub collects : Mark S → Option (ℕ × CompletedRead S)
  collects Nothing = None
  collects (Begins c v) = None
  collects (Turns c) = None
  collects (Finishes c z) = None
  collects (Collects c z) = Some (c, z)

  -- whose completed read is handed out
  abbrev pub collector : Mark S → Option ℕ
  collector m = option_map (λ p. p.0) (collects m)

  -- a question about the mark at a place of a run
  abbrev pub at : {A : Type 0} → (Mark S → Option A) → List (Summary S) → ℕ → Option A
  at f run i = look (λ e. f e.mark) run i

  -- a question about the traffic at a place of a run
  abbrev pub at_traffic : {A : Type 0} → (Traffic → Option A) → List (Summary S) → ℕ → Option A
  at_traffic f run i = look (λ e. f e.traffic) run i
