-- Histories that the claims refuse, and a run that they accept. Assumes nothing.
use Rattle.std.specs.Prelude.{ℕ, true, false, cond, List, [], ◌∷◌, map, replicate, Some, None, ◌==◌, slice_index}
use Rattle.encodings.specs.Encodings.{same_bytes, octets, pack}
use Rattle.settings.specs.Kinds.{Kind}
use Rattle.quorums.specs.Systems.{Quorums}
use Rattle.cluster.specs.Making.{made_state}
use Rattle.cluster.specs.declared.completed_read.CompletedRead.{CompletedRead}
use Rattle.atomicity.specs.declared.call.Call.{Call}
use Rattle.atomicity.specs.declared.call.Call.TheVariants.{Write, Read, DeliverRequest, DeliverReply, Collect}
use Rattle.atomicity.specs.Runs.{trace}
use Rattle.atomicity.specs.Marks.{Summary}
use Rattle.atomicity.specs.Marks.Mark.{Nothing, Begins, Finishes, Collects}
use Rattle.atomicity.specs.Marks.Traffic.{Still, Sends, ToReplica, ToClient}
use Rattle.atomicity.specs.Claims.{Linearizes, Progresses, HandsOut}
use Rattle.atomicity.specs.Summaries.{summed, summary}

-- a read of the reader c that gives the setting v; settings are numbers here, and 7 is the initial one
abbrev pub gave : ℕ → ℕ → CompletedRead ℕ
gave c v = record { reader = c; op = 1; timestamp = 0; setting = v }

-- a write of 5 has ended before a read begins, which gives 7
abbrev pub stale : List (Summary ℕ)
stale =
    summed (Begins 0 (Some 5)) Still ∷ summed (Finishes 0 None) Still
    ∷ summed (Begins 1 None) Still ∷ summed (Finishes 1 (Some (gave 1 7))) Still ∷ []

-- beside a write of 5, a read gives 5, and a read that begins after it has ended gives 7
abbrev pub new_then_old : List (Summary ℕ)
new_then_old =
    summed (Begins 0 (Some 5)) Still
    ∷ summed (Begins 1 None) Still ∷ summed (Finishes 1 (Some (gave 1 5))) Still
    ∷ summed (Begins 2 None) Still ∷ summed (Finishes 2 (Some (gave 2 7))) Still ∷ []

-- the only replica is asked and answers, its answer is delivered, and the query has not ended
abbrev pub stuck : List (Summary ℕ)
stuck = summed (Begins 1 None) Sends ∷ summed Nothing (ToReplica 0 0 true) ∷ summed Nothing (ToClient 1 false) ∷ []

-- the only replica is asked and doesn't answer
abbrev pub mute : List (Summary ℕ)
mute = summed (Begins 1 None) Sends ∷ summed Nothing (ToReplica 0 0 false) ∷ []

-- a read gives 5, and the reader is handed 7
abbrev pub swapped : List (Summary ℕ)
swapped = summed (Finishes 1 (Some (gave 1 5))) Still ∷ summed (Collects 1 (gave 1 7)) Still ∷ []

-- settings that are numbers: the first byte is the number, and the others are 0
abbrev pub numbers : Kind ℕ
numbers = record {
  initial = 7;
  encode = λ v. pack (v ∷ replicate 31 0);
  is_encoding = λ b. same_bytes b (pack (slice_index (octets b) 0 ∷ replicate 31 0));
  decode = λ b. cond (same_bytes b (pack (slice_index (octets b) 0 ∷ replicate 31 0))) (slice_index (octets b) 0) 7;
}

-- one replica, which is correct
abbrev pub single : Quorums
single = record { size = 1; quorum = λ a. (a == 1); fault = λ a. (a == 0) }

-- a read begins, then a write; the read ends first, and gives what is written
abbrev pub overlapping : List (Call ℕ × ℕ)
overlapping =
    (Read 1, 0) ∷ (Write 5, 99) ∷ (DeliverRequest 1 0, 0) ∷ (DeliverRequest 0 0, 0) ∷ (DeliverReply 3, 0) ∷ (DeliverRequest 4 0, 0)
    ∷ (DeliverReply 5, 0) ∷ (DeliverReply 2, 0) ∷ (Collect 1, 0) ∷ []

-- its summaries, on a cluster of one reader with places for 10 messages and 10 lines
abbrev pub overlap : List (Summary ℕ)
overlap = map (summary numbers) (trace numbers (made_state numbers single [] 3 0 1 [] [] (record { replicas = 1; readers = 1; messages = 10; lines = 10 })) overlapping)

-- what the claims say of these
pub record Telling : Type 0 where
  pub no_stale_read : (order : List ℕ) → Linearizes 7 stale order → ⊥
  pub no_new_then_old : (order : List ℕ) → Linearizes 7 new_then_old order → ⊥
  pub no_stuck_phase : Progresses stuck 1 0 → ⊥
  pub no_mute_replica : Progresses mute 1 0 → ⊥
  pub no_swapped_read : HandsOut swapped → ⊥
  -- the write stands before the read, though it began later
  pub an_overlap : Linearizes 7 overlap (1 ∷ 0 ∷ [])
