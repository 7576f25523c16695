-- Runs of small clusters, call by call. Assumes nothing.
use Rattle.std.specs.Prelude.{ℕ, List, [], ◌∷◌, map, Result, refl}
use Rattle.settings.specs.Marks.{pad}
use Rattle.settings.specs.MarkKind.{mark_kind}
use Rattle.settings.specs.declared.shelf_mark.ShelfMark.{ShelfMark}
use Rattle.quorums.specs.Thresholds.{threshold}
use Rattle.protocol.specs.Versions.{version, initial_version}
use Rattle.protocol.specs.declared.message.Message.TheVariants.{Value, Ack}
use Rattle.cluster.specs.State.{State}
use Rattle.cluster.specs.Making.{made_state}
use Rattle.atomicity.specs.declared.call.Call.{Call}
use Rattle.atomicity.specs.declared.call.Call.TheVariants.{Write, Read, DeliverRequest, DeliverReply, ForgeReply, Collect}
use Rattle.atomicity.specs.declared.answer.Answer.{Answer}
use Rattle.atomicity.specs.Runs.{step, trace}

-- four replicas of which one may be faulty, and replica 3 is; two readers, places for 20 messages, and so many journal lines
abbrev pub made : ℕ → State
made lines = made_state mark_kind (threshold 4 1) [] 64 8 2 [] [] (record { replicas = 4; readers = 2; messages = 20; lines = lines })

-- the mark "P1"
abbrev pub mark : ShelfMark
mark = record { bytes = pad (0x50 ∷ 0x31 ∷ []); marked = refl }

-- what the calls answer, each made with the tag 7
abbrev pub answers : State → List (Call ShelfMark) → List (Result (Answer ShelfMark) ℕ)
answers s calls = map (λ e. e.answer) (trace mark_kind s (map (λ c. (c, 7)) calls))

-- the state after the calls
abbrev pub after : State → List (Call ShelfMark) → State
after s [] = s
after s (c ∷ cs) = after (step mark_kind s c 7).1 cs

-- the timestamps that the replicas keep
abbrev pub timestamps : State → List ℕ
timestamps s = map (λ v. v.timestamp) s.replicas

-- two operations begin: a write, and a read beside it
abbrev pub two_begin : List (Call ShelfMark)
two_begin = Write mark ∷ Read 1 ∷ []

-- timestamp 1 is stored at the replicas 0 and 1, and reader 1 asks the replicas 2, 1 and 0
abbrev pub stored_at_two : List (Call ShelfMark)
stored_at_two =
    Write mark ∷ DeliverRequest 0 0 ∷ DeliverRequest 0 1
    ∷ Read 1 ∷ DeliverRequest 3 2 ∷ DeliverRequest 3 1 ∷ DeliverRequest 3 0 ∷ []

-- the values of 2 and 1 come, then one of timestamp 9 that replica 3 makes up and no one signed, then that of 0
abbrev pub values_and_a_forgery : List (Call ShelfMark)
values_and_a_forgery = DeliverReply 4 ∷ DeliverReply 5 ∷ ForgeReply (Value 3 1 1 (version 9 mark 0)) ∷ DeliverReply 6 ∷ []

-- timestamp 1 is stored at replica 0 alone, and reader 1 asks the replicas 0, 1 and 2
abbrev pub stored_at_one : List (Call ShelfMark)
stored_at_one = Write mark ∷ DeliverRequest 0 0 ∷ Read 1 ∷ DeliverRequest 2 0 ∷ DeliverRequest 2 1 ∷ DeliverRequest 2 2 ∷ []

-- their values come; what the reader stores goes to the same three, and their acknowledgements come
abbrev pub first_reader : List (Call ShelfMark)
first_reader =
    DeliverReply 3 ∷ DeliverReply 4 ∷ DeliverReply 5 ∷ DeliverRequest 6 0 ∷ DeliverRequest 6 1 ∷ DeliverRequest 6 2
    ∷ DeliverReply 7 ∷ DeliverReply 8 ∷ DeliverReply 9 ∷ Collect 1 ∷ []

-- then reader 2 asks the replicas 1 and 2, and replica 3 says that nothing was ever written; all three acknowledge
abbrev pub second_reader : List (Call ShelfMark)
second_reader =
    Read 2 ∷ DeliverRequest 10 1 ∷ DeliverRequest 10 2 ∷ DeliverReply 11 ∷ DeliverReply 12 ∷ ForgeReply (Value 3 2 1 (initial_version mark_kind))
    ∷ DeliverRequest 13 1 ∷ DeliverRequest 13 2 ∷ DeliverReply 14 ∷ DeliverReply 15 ∷ ForgeReply (Ack 3 2 1) ∷ Collect 2 ∷ []
