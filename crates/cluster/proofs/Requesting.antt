-- The delivery of a request to a replica. Assumes nothing.
use Rattle.std.proofs.Common.{◌≡◌, ℕ, true, false, cond, leb, List, [], ◌∷◌, ◌++◌, length, get_or, set, Some, None, Ok, Err, sym, refl, ap, ◌∙◌, ap₂}
use Rattle.encodings.specs.Encodings.{Bytes}
use Rattle.settings.specs.Kinds.{Kind}
use Rattle.replica_sets.specs.Sets.{has}
use Rattle.protocol.specs.Messages.{is_reply, each_value}
use Rattle.protocol.specs.Replicas.{answer, keep}
use Rattle.protocol.specs.declared.version.Version.{Version}
use Rattle.protocol.specs.declared.message.Message.{Message}
use Rattle.cluster.specs.Refusals.{Check, first_refusal}
use Rattle.cluster.specs.State.{State, Fixed}
use Rattle.cluster.specs.Steps.{Outcome, closed, message_at, no_version, answered, answering, request_step}
use Rattle.cluster.specs.declared.delivery.Delivery.{Delivery}
use Rattle.cluster.specs.declared.delivery.Delivery.TheVariants.{Answered, Unanswered}
use Rattle.cluster.proofs.Outcomes.{shut_out, turned_away, let_in, refused, accepted, outcome}

module _ {S : Type 0} (k : Kind S) (s : State) (i r : ℕ) where
  -- what a correct replica that keeps the row v does with the row m
  abbrev asks : Message Bytes → Version Bytes → Outcome Delivery
  asks m v = answering k s r (keep k s.book v (each_value k.decode m)) (answer k s.book r v (each_value k.decode m))

  abbrev delivered : Outcome Delivery
  delivered = cond (has s.fixed.faulty r) (Ok Unanswered, s) (asks (message_at s i) (get_or s.replicas r no_version))

  abbrev checks : ℕ → Message Bytes → ℕ → List Check
  checks n m z = (leb n i, 15) ∷ (is_reply m, 16) ∷ (leb z r, 17) ∷ []

  abbrev all_checks : List Check
  all_checks = checks (length s.messages) (message_at s i) s.fixed.quorums.size

  pub request_shut : (n : ℕ) → first_refusal (closed s) ≡ Some n → request_step k s i r ≡ (Err n, s)
  unfolding request_step
  request_shut n e = shut_out s delivered all_checks n e

  module _ (n z : ℕ) (row : Message Bytes) (en : length s.messages ≡ n) (ez : z ≡ s.fixed.quorums.size) (er : row ≡ message_at s i) (p : first_refusal (closed s) ≡ None) where
    same_checks : first_refusal all_checks ≡ first_refusal (checks n row z)
    same_checks =
        ap₂ (λ a b. first_refusal (checks a b s.fixed.quorums.size)) en (sym er) ∙ ap (λ a. first_refusal (checks n row a)) (sym ez)

    pub request_refused : (q : ℕ) → first_refusal (checks n row z) ≡ Some q → request_step k s i r ≡ (Err q, s)
    unfolding request_step
    request_refused q e = turned_away s delivered all_checks q p (same_checks ∙ e)

    module _ (none : first_refusal (checks n row z) ≡ None) where
      let_through : request_step k s i r ≡ delivered
      unfolding request_step
      let_through = let_in s delivered all_checks p (same_checks ∙ none)

      pub request_faulty : has s.fixed.faulty r ≡ true → request_step k s i r ≡ (Ok Unanswered, s)
      request_faulty f = let_through ∙ ap (λ b. cond b (Ok Unanswered, s) (asks (message_at s i) (get_or s.replicas r no_version))) f

      module _ (old : Version Bytes) (m : Message S) (eo : old ≡ get_or s.replicas r no_version) (em : m ≡ each_value k.decode row) (correct : has s.fixed.faulty r ≡ false) where
        abbrev answers : Version Bytes → Message S → Outcome Delivery
        answers v a = answering k s r (keep k s.book v a) (answer k s.book r v a)

        asked : request_step k s i r ≡ answers old m
        asked =
            let_through ∙ ap (λ b. cond b (Ok Unanswered, s) (asks (message_at s i) (get_or s.replicas r no_version))) correct
            ∙ ap₂ answers (sym eo) (ap (each_value k.decode) (sym er) ∙ sym em)

        pub request_silent : None ≡ answer k s.book r old m → request_step k s i r ≡ (Ok Unanswered, s)
        request_silent e = asked ∙ ap (answering k s r (keep k s.book old m)) (sym e)

        module _ (a : Message S) (ea : Some a ≡ answer k s.book r old m) where
          abbrev place : ℕ → List Check
          place x = (leb s.fixed.message_places x, 12) ∷ []

          telling : request_step k s i r ≡ answering k s r (keep k s.book old m) (Some a)
          telling = asked ∙ ap (answering k s r (keep k s.book old m)) (sym ea)

          abbrev told : Outcome Delivery
          told = (Ok Answered, answered k s r (keep k s.book old m) a)

          pub request_full : (q : ℕ) → first_refusal (place n) ≡ Some q → request_step k s i r ≡ (Err q, s)
          request_full q e = telling ∙ refused s told (place (length s.messages)) q (ap (λ x. first_refusal (place x)) en ∙ e)

          pub request_so : (v : Version Bytes) (b : Message Bytes) (F : Fixed) (ms : List (Message Bytes)) →
              first_refusal (place n) ≡ None → v ≡ keep k s.book old m → b ≡ each_value k.encode a → s.fixed ≡ F → ms ≡ s.messages ++ (b ∷ []) →
              request_step k s i r ≡ (Ok Answered, record { fixed = F; book = s.book; free = s.free; writer = s.writer; replicas = set s.replicas r v; readers = s.readers; messages = ms; lines = s.lines })
          request_so v b F ms e ev eb eF ems =
              telling ∙ accepted s told (place (length s.messages)) (ap (λ x. first_refusal (place x)) en ∙ e)
              ∙ outcome refl eF refl refl refl (ap (set s.replicas r) (sym ev)) refl (ap (λ x. s.messages ++ (x ∷ [])) (sym eb) ∙ sym ems) refl
