-- Messages between clients and replicas. Assumes nothing.
use Rattle.std.specs.Prelude.{ℕ, Bool, true, false}
use Rattle.protocol.specs.Versions.{with_value}
use Rattle.protocol.specs.declared.message.Message.{Message}
use Rattle.protocol.specs.declared.message.Message.TheVariants.{Query, Store, Value, Ack}

-- whether it goes from a replica to a client
abbrev pub is_reply : {V : Type 0} → Message V → Bool
is_reply (Query c o) = false
is_reply (Store c o v) = false
is_reply (Value r c o v) = true
is_reply (Ack r c o) = true

-- the replica that a reply comes from; a request comes from none, and has 0
abbrev pub replica_of : {V : Type 0} → Message V → ℕ
replica_of (Query c o) = 0
replica_of (Store c o v) = 0
replica_of (Value r c o v) = r
replica_of (Ack r c o) = r

-- the client that a request comes from, or that a reply goes to
abbrev pub client_of : {V : Type 0} → Message V → ℕ
client_of (Query c o) = c
client_of (Store c o v) = c
client_of (Value r c o v) = c
client_of (Ack r c o) = c

-- the message with another value in the place of its own
abbrev pub each_value : {A B : Type 0} → (A → B) → Message A → Message B
each_value f (Query c o) = Query c o
each_value f (Store c o v) = Store c o (with_value f v)
each_value f (Value r c o v) = Value r c o (with_value f v)
each_value f (Ack r c o) = Ack r c o
