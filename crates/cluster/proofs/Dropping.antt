-- Messages that are lost. Assumes nothing.
use Rattle.std.proofs.Common.{◌≡◌, ℕ, leb, List, [], ◌∷◌, length, Some, None, Ok, Err, sym, refl, ap, ◌∙◌}
use Rattle.std.specs.List.{remove}
use Rattle.encodings.specs.Encodings.{Bytes}
use Rattle.protocol.specs.declared.message.Message.{Message}
use Rattle.cluster.specs.Refusals.{Check, first_refusal}
use Rattle.cluster.specs.State.{State, Fixed}
use Rattle.cluster.specs.Steps.{Outcome, closed, drop_step}
use Rattle.cluster.proofs.Outcomes.{shut_out, turned_away, let_in, outcome}

module _ (s : State) (i : ℕ) where
  abbrev gone : Outcome (Unit {0})
  gone = (
    Ok tt,
    record {
      fixed = s.fixed;
      book = s.book;
      free = s.free;
      writer = s.writer;
      replicas = s.replicas;
      readers = s.readers;
      messages = remove s.messages i;
      lines = s.lines;
    },
  )

  abbrev present : ℕ → List Check
  present n = (leb n i, 15) ∷ []

  pub drop_shut : (n : ℕ) → first_refusal (closed s) ≡ Some n → drop_step s i ≡ (Err n, s)
  unfolding drop_step
  drop_shut n e = shut_out s gone (present (length s.messages)) n e

  module _ (n : ℕ) (en : length s.messages ≡ n) (p : first_refusal (closed s) ≡ None) where
    pub drop_refused : (q : ℕ) → first_refusal (present n) ≡ Some q → drop_step s i ≡ (Err q, s)
    unfolding drop_step
    drop_refused q e = turned_away s gone (present (length s.messages)) q p (ap (λ x. first_refusal (present x)) en ∙ e)

    pub drop_so : (F : Fixed) (ms : List (Message Bytes)) → first_refusal (present n) ≡ None → s.fixed ≡ F → ms ≡ remove s.messages i →
        drop_step s i ≡ (Ok tt, record { fixed = F; book = s.book; free = s.free; writer = s.writer; replicas = s.replicas; readers = s.readers; messages = ms; lines = s.lines })
    unfolding drop_step
    drop_so F ms e eF em =
        let_in s gone (present (length s.messages)) p (ap (λ x. first_refusal (present x)) en ∙ e) ∙ outcome refl eF refl refl refl refl refl (sym em) refl
