-- Runs of a cluster: lists of calls, what each came to, and the states between. Assumes nothing.
use Rattle.std.specs.Prelude.{ℕ, List, [], ◌∷◌, Ok, Err, Result}
use Rattle.settings.specs.Kinds.{Kind}
use Rattle.cluster.specs.State.{State}
use Rattle.cluster.specs.Steps.{Outcome, write_step, read_step, request_step, reply_step, forge_step, drop_step, collect_step}
use Rattle.atomicity.specs.declared.call.Call.{Call}
use Rattle.atomicity.specs.declared.call.Call.TheVariants.{Write, Read, DeliverRequest, DeliverReply, ForgeReply, DropMessage, Collect}
use Rattle.atomicity.specs.declared.answer.Answer.{Answer}
use Rattle.atomicity.specs.declared.answer.Answer.TheVariants.{Written, ReadBegun, Delivered, Replied, Dropped, Collected}

-- an answer under another name; a refusal stays
abbrev pub renamed : {A B : Type 0} → (A → B) → Result A ℕ → Result B ℕ
renamed f (Ok a) = Ok (f a)
renamed f (Err n) = Err n

-- what comes of a call, with its answer under another name
abbrev pub named : {A B : Type 0} → (A → B) → Outcome A → Outcome B
named f o = (renamed f o.0, o.1)

-- what was called in which state, and what came of it
pub record Event (S : Type 0) : Type 0 where
  pub before : State
  pub call : Call S
  pub answer : Result (Answer S) ℕ
  pub after : State

module _ {S : Type 0} (k : Kind S) where
  -- what comes of a call; g is the tag that the scheme chooses where it signs
  abbrev pub step : State → Call S → ℕ → Outcome (Answer S)
  step s (Write v) g = named Written (write_step k s v g)
  step s (Read c) g = named ReadBegun (read_step k s c)
  step s (DeliverRequest i r) g = named Delivered (request_step k s i r)
  step s (DeliverReply i) g = named Replied (reply_step k s i)
  step s (ForgeReply m) g = named Replied (forge_step k s m)
  step s (DropMessage i) g = named (λ _. Dropped) (drop_step s i)
  step s (Collect c) g = named Collected (collect_step k s c)

  -- a call in the state s, as an event
  abbrev pub event : State → Call S → ℕ → Event S
  event s c g = let o = step s c g in record { before = s; call = c; answer = o.0; after = o.1 }

  -- the events of a list of calls from the state s on, each call with its tag
  abbrev pub trace : State → List (Call S × ℕ) → List (Event S)
  trace s [] = []
  trace s (c ∷ cs) = event s c.0 c.1 ∷ trace (step s c.0 c.1).1 cs
