-- A reply that reaches a client. Assumes nothing.
use Rattle.std.proofs.Common.{◌≡◌, ℕ, not, ltb, leb, List, [], ◌∷◌, ◌++◌, length, Some, None, Ok, Err, sym, refl, ap, ◌∙◌, ap₂}
use Rattle.encodings.specs.Encodings.{Bytes}
use Rattle.settings.specs.Kinds.{Kind}
use Rattle.replica_sets.specs.Sets.{has}
use Rattle.protocol.specs.Messages.{is_reply, replica_of, client_of, each_value}
use Rattle.protocol.specs.Clients.{react}
use Rattle.protocol.specs.declared.message.Message.{Message}
use Rattle.protocol.specs.declared.message.Message.TheVariants.{Store}
use Rattle.protocol.specs.declared.client.Client.{Client}
use Rattle.protocol.specs.declared.client.Reply.{Reply}
use Rattle.protocol.specs.declared.client.Reply.TheVariants.{Heard, Ignored, Turned, Finished}
use Rattle.cluster.specs.Refusals.{Check, first_refusal}
use Rattle.cluster.specs.State.{State, Fixed}
use Rattle.cluster.specs.Steps.{Outcome, closed, message_at, client_at, writer_with, readers_with, readers_done, end_line, with_client, settled, hear, reply_step, forge_step}
use Rattle.cluster.specs.declared.reader.Reader.{Reader}
use Rattle.cluster.specs.declared.journal.Line.{Line}
use Rattle.cluster.proofs.Outcomes.{shut_out, turned_away, let_in, refused, accepted, outcome}

-- ---- a client hears a message

-- the check that a place is free
abbrev room : ℕ → ℕ → ℕ → List Check
room places used n = (leb places used, n) ∷ []

module _ {S : Type 0} (k : Kind S) (s : State) (c : ℕ) (m : Message S) (x y : Client) (ex : x ≡ client_at s.writer s.readers c) where
  -- what the client c, which is x, Makes of the message
  abbrev Makes : Reply → Type 0
  Makes r = react k s.fixed.quorums.quorum s.book x m ≡ (r, y)

  hears : (r : Reply) → Makes r → hear k s c m ≡ settled s c r y
  unfolding hear
  hears r e =
      ap (λ z. let o = react k s.fixed.quorums.quorum s.book z m in settled s c o.0 o.1) (sym ex) ∙ ap (λ (o : Reply × Client). settled s c o.0 o.1) e

  abbrev turning : Outcome Reply
  turning = (Ok Turned, with_client s c y (readers_with s.readers c y) (s.messages ++ (Store c y.op y.best ∷ [])) s.lines)

  abbrev finishing : Outcome Reply
  finishing =
      (Ok Finished, with_client s c y (readers_done s.readers c (client_at s.writer s.readers c) y) s.messages (s.lines ++ (end_line c (client_at s.writer s.readers c) ∷ [])))

  pub ignored : Makes Ignored → hear k s c m ≡ (Ok Ignored, s)
  ignored e = hears Ignored e

  pub turn_refused : (l n : ℕ) → Makes Turned → length s.messages ≡ l → first_refusal (room s.fixed.message_places l 12) ≡ Some n → hear k s c m ≡ (Err n, s)
  turn_refused l n e el q =
      hears Turned e
      ∙ refused s turning (room s.fixed.message_places (length s.messages) 12) n (ap (λ z. first_refusal (room s.fixed.message_places z 12)) el ∙ q)

  pub finish_refused : (l n : ℕ) → Makes Finished → length s.lines ≡ l → first_refusal (room s.fixed.line_places l 13) ≡ Some n → hear k s c m ≡ (Err n, s)
  finish_refused l n e el q =
      hears Finished e
      ∙ refused s finishing (room s.fixed.line_places (length s.lines) 13) n (ap (λ z. first_refusal (room s.fixed.line_places z 13)) el ∙ q)

  module _ (F : Fixed) (w : Client) (ds : List Reader) (eF : s.fixed ≡ F) (ew : w ≡ writer_with s.writer c y) where
    pub heard_so : Makes Heard → ds ≡ readers_with s.readers c y →
        hear k s c m ≡ (Ok Heard, record { fixed = F; book = s.book; free = s.free; writer = w; replicas = s.replicas; readers = ds; messages = s.messages; lines = s.lines })
    heard_so e ed = hears Heard e ∙ outcome refl eF refl refl (sym ew) refl (sym ed) refl refl

    pub turned_so : (l : ℕ) (t : Message Bytes) (ms : List (Message Bytes)) → Makes Turned → length s.messages ≡ l → first_refusal (room s.fixed.message_places l 12) ≡ None →
        ds ≡ readers_with s.readers c y → t ≡ Store c y.op y.best → ms ≡ s.messages ++ (t ∷ []) →
        hear k s c m ≡ (Ok Turned, record { fixed = F; book = s.book; free = s.free; writer = w; replicas = s.replicas; readers = ds; messages = ms; lines = s.lines })
    turned_so l t ms e el q ed et ems =
        hears Turned e
        ∙ accepted s turning (room s.fixed.message_places (length s.messages) 12) (ap (λ z. first_refusal (room s.fixed.message_places z 12)) el ∙ q)
        ∙ outcome refl eF refl refl (sym ew) refl (sym ed) (ap (λ z. s.messages ++ (z ∷ [])) (sym et) ∙ sym ems) refl

    pub finished_so : (l : ℕ) (t : Line) (ls : List Line) → Makes Finished → length s.lines ≡ l → first_refusal (room s.fixed.line_places l 13) ≡ None →
        ds ≡ readers_done s.readers c x y → t ≡ end_line c x → ls ≡ s.lines ++ (t ∷ []) →
        hear k s c m ≡ (Ok Finished, record { fixed = F; book = s.book; free = s.free; writer = w; replicas = s.replicas; readers = ds; messages = s.messages; lines = ls })
    finished_so l t ls e el q ed et els =
        hears Finished e
        ∙ accepted s finishing (room s.fixed.line_places (length s.lines) 13) (ap (λ z. first_refusal (room s.fixed.line_places z 13)) el ∙ q)
        ∙ outcome refl eF refl refl (sym ew) refl
        (ap (λ z. readers_done s.readers c z y) (sym ex) ∙ sym ed) refl
        (ap (λ z. s.lines ++ (end_line c z ∷ [])) (sym ex) ∙ ap (λ z. s.lines ++ (z ∷ [])) (sym et) ∙ sym els)

-- ---- the two ways by which a reply comes

module _ {S : Type 0} (k : Kind S) (s : State) (i : ℕ) where
  abbrev reaching : Outcome Reply
  reaching = hear k s (client_of (message_at s i)) (each_value k.decode (message_at s i))

  abbrev reply_checks : ℕ → Message Bytes → ℕ → List Check
  reply_checks n m z = (leb n i, 15) ∷ (not (is_reply m), 16) ∷ (leb z (replica_of m), 17) ∷ (ltb (length s.readers) (client_of m), 9) ∷ []

  abbrev all_reply_checks : List Check
  all_reply_checks = reply_checks (length s.messages) (message_at s i) s.fixed.quorums.size

  pub reply_shut : (n : ℕ) → first_refusal (closed s) ≡ Some n → reply_step k s i ≡ (Err n, s)
  unfolding reply_step
  reply_shut n e = shut_out s reaching all_reply_checks n e

  module _ (n z : ℕ) (row : Message Bytes) (en : length s.messages ≡ n) (ez : z ≡ s.fixed.quorums.size) (er : row ≡ message_at s i) (p : first_refusal (closed s) ≡ None) where
    same_reply_checks : first_refusal all_reply_checks ≡ first_refusal (reply_checks n row z)
    same_reply_checks =
        ap₂ (λ a b. first_refusal (reply_checks a b s.fixed.quorums.size)) en (sym er) ∙ ap (λ a. first_refusal (reply_checks n row a)) (sym ez)

    pub reply_refused : (q : ℕ) → first_refusal (reply_checks n row z) ≡ Some q → reply_step k s i ≡ (Err q, s)
    unfolding reply_step
    reply_refused q e = turned_away s reaching all_reply_checks q p (same_reply_checks ∙ e)

    pub reply_so : (c : ℕ) (m : Message S) → first_refusal (reply_checks n row z) ≡ None → c ≡ client_of row → m ≡ each_value k.decode row → reply_step k s i ≡ hear k s c m
    unfolding reply_step
    reply_so c m e ec em =
        let_in s reaching all_reply_checks p (same_reply_checks ∙ e)
        ∙ ap (λ x. hear k s (client_of x) (each_value k.decode x)) (sym er) ∙ ap₂ (hear k s) (sym ec) (sym em)

module _ {S : Type 0} (k : Kind S) (s : State) (m : Message S) where
  abbrev forging : Outcome Reply
  forging = hear k s (client_of m) m

  abbrev forge_checks : ℕ → List Check
  forge_checks z = (not (is_reply m), 16) ∷ (leb z (replica_of m), 17) ∷ (not (has s.fixed.faulty (replica_of m)), 18) ∷ (ltb (length s.readers) (client_of m), 9) ∷ []

  pub forge_shut : (n : ℕ) → first_refusal (closed s) ≡ Some n → forge_step k s m ≡ (Err n, s)
  unfolding forge_step
  forge_shut n e = shut_out s forging (forge_checks s.fixed.quorums.size) n e

  module _ (z : ℕ) (ez : z ≡ s.fixed.quorums.size) (p : first_refusal (closed s) ≡ None) where
    pub forge_refused : (q : ℕ) → first_refusal (forge_checks z) ≡ Some q → forge_step k s m ≡ (Err q, s)
    unfolding forge_step
    forge_refused q e = turned_away s forging (forge_checks s.fixed.quorums.size) q p (ap (λ a. first_refusal (forge_checks a)) (sym ez) ∙ e)

    pub forge_so : (c : ℕ) → first_refusal (forge_checks z) ≡ None → c ≡ client_of m → forge_step k s m ≡ hear k s c m
    unfolding forge_step
    forge_so c e ec =
        let_in s forging (forge_checks s.fixed.quorums.size) p (ap (λ a. first_refusal (forge_checks a)) (sym ez) ∙ e) ∙ ap (λ a. hear k s a m) (sym ec)
