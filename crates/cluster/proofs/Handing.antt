-- How finished reads are handed out. Assumes nothing.
use Rattle.std.proofs.Common.{◌≡◌, ℕ, ◌-◌, List, [], ◌∷◌, set, Some, None, Ok, Err, Option, sym, refl, ap, ◌∙◌}
use Rattle.settings.specs.Kinds.{Kind}
use Rattle.cluster.specs.Refusals.{Check, first_refusal}
use Rattle.cluster.specs.State.{State, Fixed}
use Rattle.cluster.specs.Steps.{Outcome, closed, no_reader_at, reader_at, handed_out, without_completed, collecting, collect_step}
use Rattle.cluster.specs.declared.completed_read.CompletedRead.{CompletedRead}
use Rattle.cluster.specs.declared.reader.Reader.{Reader}
use Rattle.cluster.specs.declared.reader.Completed.{Completed}
use Rattle.cluster.proofs.Outcomes.{shut_out, turned_away, let_in, outcome}

module _ {S : Type 0} (k : Kind S) (s : State) (c : ℕ) where
  abbrev asked : Outcome (CompletedRead S)
  asked = collecting k s c (reader_at s.readers c).completed

  abbrev known : List Check
  known = (no_reader_at s.readers c, 9) ∷ []

  pub collect_shut : (n : ℕ) → first_refusal (closed s) ≡ Some n → collect_step k s c ≡ (Err n, s)
  unfolding collect_step
  collect_shut n e = shut_out s asked known n e

  module _ (p : first_refusal (closed s) ≡ None) where
    pub collect_refused : (n : ℕ) → first_refusal known ≡ Some n → collect_step k s c ≡ (Err n, s)
    unfolding collect_step
    collect_refused n e = turned_away s asked known n p e

    module _ (e : first_refusal known ≡ None) (d : Reader) (ed : d ≡ reader_at s.readers c) where
      let_through : (z : Option Completed) → d.completed ≡ z → collect_step k s c ≡ collecting k s c z
      unfolding collect_step
      let_through z ez = let_in s asked known p e ∙ ap (collecting k s c) (ap (λ (x : Reader). x.completed) (sym ed) ∙ ez)

      pub collect_none : d.completed ≡ None → collect_step k s c ≡ (Err 19, s)
      collect_none ez = let_through None ez

      pub collect_so : (z : Completed) (r : CompletedRead S) (F : Fixed) (y : Reader) → d.completed ≡ Some z → r ≡ handed_out k c z → s.fixed ≡ F → y ≡ without_completed d →
          collect_step k s c ≡ (
            Ok r,
            record {
              fixed = F;
              book = s.book;
              free = s.free;
              writer = s.writer;
              replicas = s.replicas;
              readers = set s.readers (c - 1) y;
              messages = s.messages;
              lines = s.lines;
            },
          )
      collect_so z r F y ez er eF ey =
          let_through (Some z) ez
          ∙ outcome (sym er) eF refl refl refl refl (ap (λ (x : Reader). set s.readers (c - 1) x) (ap without_completed (sym ed) ∙ sym ey)) refl refl
