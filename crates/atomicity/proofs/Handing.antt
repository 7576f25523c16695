-- What the claims see of a call that hands a message to a client. Assumes nothing.
use Rattle.std.proofs.Common.{◌≡◌, ℕ, cond, ◌⊎◌, Some, Ok, refl, ap, ◌∙◌, inl, inr}
use Rattle.encodings.specs.Encodings.{Bytes}
use Rattle.settings.specs.Kinds.{Kind}
use Rattle.protocol.specs.Messages.{client_of, each_value}
use Rattle.protocol.specs.declared.message.Message.{Message}
use Rattle.protocol.specs.declared.message.Message.TheVariants.{Query, Store, Value, Ack}
use Rattle.protocol.specs.declared.client.Reply.{Reply}
use Rattle.cluster.specs.State.{State}
use Rattle.cluster.specs.Steps.{no_message}
use Rattle.atomicity.specs.declared.call.Call.{Call}
use Rattle.atomicity.specs.declared.answer.Answer.TheVariants.{Replied}
use Rattle.atomicity.specs.Marks.Traffic.{Still, Sends, ToClient}
use Rattle.atomicity.specs.Summaries.{came_to, reply_mark, held, sends}
use Rattle.atomicity.proofs.Facts.{nth, nth_is}
use Rattle.atomicity.proofs.Moves.{Handed}

client_each : {A B : Type 0} (f : A → B) (m : Message A) → client_of m ≡ client_of (each_value f m)
client_each f (Query c o) = refl
client_each f (Store c o v) = refl
client_each f (Value r c o v) = refl
client_each f (Ack r c o) = refl

module _ {S : Type 0} (k : Kind S) (s s' : State) (call : Call S) (m : Message Bytes) where
  pub handed_mark : Handed k s call m → (r : Reply) → (came_to k s s' call (Ok (Replied r))).mark ≡ reply_mark (client_of m) (held k s' (client_of m)) r
  handed_mark (inl (i, e, n)) r = ap (λ z. (came_to k s s' z (Ok (Replied r))).mark) e
      ∙ ap (λ y. reply_mark (client_of y) (held k s' (client_of y)) r) (nth_is s.messages i no_message n)
  handed_mark (inr (m', e, y, g)) r = ap (λ z. (came_to k s s' z (Ok (Replied r))).mark) e
      ∙ ap (λ c. reply_mark c (held k s' c) r) (client_each k.encode m' ∙ ap client_of y)

  -- and of the messages in flight: this one is delivered, or none
  pub handed_traffic : Handed k s call m → (r : Reply)
      → ((i : ℕ) × (nth s.messages i ≡ Some m) × ((came_to k s s' call (Ok (Replied r))).traffic ≡ ToClient i (sends r)))
      ⊎ ((came_to k s s' call (Ok (Replied r))).traffic ≡ cond (sends r) Sends Still)
  handed_traffic (inl (i, e, n)) r = inl (i, n, ap (λ z. (came_to k s s' z (Ok (Replied r))).traffic) e)
  handed_traffic (inr (m', e, y, g)) r = inr (ap (λ z. (came_to k s s' z (Ok (Replied r))).traffic) e)
