-- The examples, computed. Assumes nothing.
use Rattle.std.proofs.Common.{◌*◌, ◌&&◌, ltb, refl, ap₂}
use Rattle.replica_sets.specs.Sets.{has, those, weigh}
use Rattle.fail_prone.specs.Listed.{hold}
use Rattle.signatures.specs.Books.{can_sign}
use Rattle.cluster.specs.Steps.{unless, hear, write_step, read_step, request_step, reply_step, forge_step, collect_step}
use Rattle.worked_examples.specs.Examples.{Shown}

pub shown : Shown
unfolding has those weigh hold can_sign unless hear write_step read_step request_step reply_step forge_step collect_step
shown = record {
  three_of_four_are_a_quorum = λ a b s. ap₂ (λ x n. x && ltb 5 (2 * n)) b s;
  two_of_four_are_no_quorum = λ a b s. ap₂ (λ x n. x && ltb 5 (2 * n)) b s;
  one_of_three_is_refused = refl;
  three_lists_are_refused = refl;
  two_lists_stand = refl;
  what_no_list_holds_is_a_quorum = refl;
  a_group_and_one_of_each_may_fail = refl;
  these_are_seven = refl;
  band_63_has_an_encoding = refl;
  band_64_has_none = refl;
  two_lines_refuse_a_second_operation = refl;
  four_lines_take_a_second_operation = refl;
  timestamp_1_is_stored_at_two = refl;
  an_unsigned_timestamp_is_ignored = refl;
  the_read_stores_timestamp_1 = refl;
  timestamp_1_is_stored_at_one = refl;
  a_read_from_three_completes = refl;
  a_later_read_gets_it_too = refl;
}
