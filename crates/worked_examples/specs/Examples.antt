-- Worked examples, each drawn from the definitions that the contracts cite. Assumes nothing.
use Rattle.std.specs.Prelude.{◌≡◌, ℕ, true, false, List, [], ◌∷◌, pos, Some, None, Ok, Err, Result}
use Rattle.encodings.specs.Encodings.{pack}
use Rattle.settings.specs.Lens.{fields_bytes}
use Rattle.settings.specs.LensKind.{lens_kind}
use Rattle.settings.specs.MarkKind.{mark_kind}
use Rattle.settings.specs.declared.lens_correction.fields.LensFields.{LensFields}
use Rattle.settings.specs.declared.shelf_mark.ShelfMark.{ShelfMark}
use Rattle.replica_sets.specs.Sets.{below, size_of, with_member}
use Rattle.replica_sets.specs.declared.replica_set.ReplicaSet.{ReplicaSet}
use Rattle.quorums.specs.Thresholds.{threshold, threshold_check}
use Rattle.fail_prone.specs.Listed.{listed_system, listed_check}
use Rattle.nested.specs.Nesting.{nested}
use Rattle.protocol.specs.Versions.{version}
use Rattle.protocol.specs.declared.message.Message.TheVariants.{Store}
use Rattle.protocol.specs.declared.client.Reply.TheVariants.{Heard, Ignored, Turned, Finished}
use Rattle.cluster.specs.Steps.{message_at}
use Rattle.cluster.specs.declared.delivery.Delivery.TheVariants.{Answered}
use Rattle.cluster.specs.declared.completed_read.CompletedRead.{CompletedRead}
use Rattle.atomicity.specs.declared.answer.Answer.{Answer}
use Rattle.atomicity.specs.declared.answer.Answer.TheVariants.{Written, ReadBegun, Delivered, Replied, Collected}
use Rattle.worked_examples.specs.Runs.{made, mark, answers, after, timestamps, two_begin, stored_at_two, values_and_a_forgery, stored_at_one, first_reader, second_reader}

-- the set of these replicas, as a number
abbrev pub set_of : List ℕ → ℕ
set_of [] = 0
set_of (r ∷ rs) = with_member (set_of rs) r

-- the same, as a listed set
abbrev pub listed_set : List ℕ → ReplicaSet
listed_set rs = record { members = set_of rs }

-- the lists {0, 1}, {2}
abbrev pub two_sets : List ReplicaSet
two_sets = listed_set (0 ∷ 1 ∷ []) ∷ listed_set (2 ∷ []) ∷ []

-- the lists {0, 1}, {2}, {3}
abbrev pub three_sets : List ReplicaSet
three_sets = listed_set (0 ∷ 1 ∷ []) ∷ listed_set (2 ∷ []) ∷ listed_set (3 ∷ []) ∷ []

-- of four groups of four: the whole group 0, and one replica of each other group
abbrev pub group_and_one_of_each : ℕ
group_and_one_of_each = set_of (0 ∷ 1 ∷ 2 ∷ 3 ∷ 4 ∷ 9 ∷ 14 ∷ [])

-- the fields of the initial lens correction, for the band b
abbrev pub only_band : ℕ → LensFields
only_band b = record { band = b; k1 = pos 0; k2 = pos 0; k3 = pos 0; p1 = pos 0; p2 = pos 0; centre_x = pos 0; centre_y = pos 0 }

-- a completed read of the reader c, its first, that gives the mark "P1" with timestamp 1
abbrev pub gives_timestamp_1 : ℕ → CompletedRead ShelfMark
gives_timestamp_1 c = record { reader = c; op = 1; timestamp = 1; setting = mark }

-- what the first reader is answered, from the first value on
abbrev pub first_answers : List (Result (Answer ShelfMark) ℕ)
first_answers =
    Ok (Replied Heard) ∷ Ok (Replied Heard) ∷ Ok (Replied Turned) ∷ Ok (Delivered Answered) ∷ Ok (Delivered Answered) ∷ Ok (Delivered Answered)
    ∷ Ok (Replied Heard) ∷ Ok (Replied Heard) ∷ Ok (Replied Finished) ∷ Ok (Collected (gives_timestamp_1 1)) ∷ []

-- what the second reader is answered
abbrev pub second_answers : List (Result (Answer ShelfMark) ℕ)
second_answers =
    Ok (ReadBegun 1) ∷ Ok (Delivered Answered) ∷ Ok (Delivered Answered) ∷ Ok (Replied Heard) ∷ Ok (Replied Heard) ∷ Ok (Replied Turned)
    ∷ Ok (Delivered Answered) ∷ Ok (Delivered Answered) ∷ Ok (Replied Heard) ∷ Ok (Replied Heard) ∷ Ok (Replied Finished) ∷ Ok (Collected (gives_timestamp_1 2)) ∷ []

-- the examples
pub record Shown : Type 0 where
  -- Threshold 4, 1: any three replicas are a quorum
  pub three_of_four_are_a_quorum : (a : ℕ) → below 4 a ≡ true → size_of a ≡ 3 → (threshold 4 1).quorum a ≡ true
  -- and no two are
  pub two_of_four_are_no_quorum : (a : ℕ) → below 4 a ≡ true → size_of a ≡ 2 → (threshold 4 1).quorum a ≡ false
  -- Threshold 3, 1 is refused with 3
  pub one_of_three_is_refused : threshold_check 3 1 ≡ Some 3
  -- the lists {0, 1}, {2}, {3} over 4 replicas are refused with 3
  pub three_lists_are_refused : listed_check 4 three_sets ≡ Some 3
  -- the lists {0, 1}, {2} over 4 replicas stand
  pub two_lists_stand : listed_check 4 two_sets ≡ None
  -- and {2, 3} is a quorum there
  pub what_no_list_holds_is_a_quorum : (listed_system 4 two_sets).quorum (set_of (2 ∷ 3 ∷ [])) ≡ true
  -- Nested 4, 1 over 4, 1: a whole group and one replica of each other group are a fault set
  pub a_group_and_one_of_each_may_fail : (nested (threshold 4 1) (threshold 4 1)).fault group_and_one_of_each ≡ true
  -- and these are seven replicas
  pub these_are_seven : size_of group_and_one_of_each ≡ 7
  -- band 63 has an encoding
  pub band_63_has_an_encoding : lens_kind.is_encoding (pack (fields_bytes (only_band 63))) ≡ true
  -- band 64 has none
  pub band_64_has_none : lens_kind.is_encoding (pack (fields_bytes (only_band 64))) ≡ false
  -- a journal of 2 lines refuses a second open operation with 13
  pub two_lines_refuse_a_second_operation : answers (made 2) two_begin ≡ (Ok (Written 1) ∷ Err 13 ∷ [])
  -- one of 4 lines doesn't
  pub four_lines_take_a_second_operation : answers (made 4) two_begin ≡ (Ok (Written 1) ∷ Ok (ReadBegun 1) ∷ [])
  -- after these calls, timestamp 1 is stored at the replicas 0 and 1
  pub timestamp_1_is_stored_at_two : timestamps (after (made 8) stored_at_two) ≡ (1 ∷ 1 ∷ 0 ∷ 0 ∷ [])
  -- then values of 2 and 1 are heard, an unsigned timestamp 9 is ignored, and replica 0's value turns the read
  pub an_unsigned_timestamp_is_ignored : answers (after (made 8) stored_at_two) values_and_a_forgery
      ≡ (Ok (Replied Heard) ∷ Ok (Replied Heard) ∷ Ok (Replied Ignored) ∷ Ok (Replied Turned) ∷ [])
  -- and the reader stores timestamp 1 then
  pub the_read_stores_timestamp_1 : message_at (after (after (made 8) stored_at_two) values_and_a_forgery) 7 ≡ Store 1 1 (version 1 (mark_kind.encode mark) 7)
  -- after these calls, timestamp 1 is stored at replica 0 alone
  pub timestamp_1_is_stored_at_one : timestamps (after (made 8) stored_at_one) ≡ (1 ∷ 0 ∷ 0 ∷ 0 ∷ [])
  -- then reader 1 completes with it from 0, 1 and 2, acknowledged by those
  pub a_read_from_three_completes : answers (after (made 8) stored_at_one) first_reader ≡ first_answers
  -- and reader 2 later gets timestamp 1 from 1, 2 and 3, though replica 3 denies it
  pub a_later_read_gets_it_too : answers (after (after (made 8) stored_at_one) first_reader) second_reader ≡ second_answers
