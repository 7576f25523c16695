-- A run of a cluster from its making on keeps all claims. Assumes nothing.
use Rattle.std.proofs.Common.{◌≡◌, ℕ, List, Result, subst}
use Rattle.encodings.specs.Encodings.{Bytes}
use Rattle.settings.specs.Kinds.{Kind, KindLaws}
use Rattle.quorums.specs.Systems.{Quorums, QuorumLaws}
use Rattle.signatures.specs.declared.entry.Entry.{Entry}
use Rattle.protocol.specs.declared.version.Version.{Version}
use Rattle.cluster.specs.Making.{made_state}
use Rattle.cluster.specs.State.{State}
use Rattle.cluster.specs.declared.tables.TableSizes.{TableSizes}
use Rattle.cluster.specs.declared.reader.Reader.{Reader}
use Rattle.atomicity.specs.declared.call.Call.{Call}
use Rattle.atomicity.specs.declared.answer.Answer.{Answer}
use Rattle.atomicity.specs.Simulations.{Ran, Simulated}
use Rattle.atomicity.proofs.Whole.{atomic}

pub simulated : {S : Type 0} (k : Kind S) (laws : KindLaws k) (q : Quorums) (lawful : QuorumLaws q) (book : List Entry) (free faulty s : ℕ)
    (replicas : List (Version Bytes)) (readers : List Reader) (t : TableSizes) (start : State) (calls : List (Call S)) (answers : List (Result (Answer S) ℕ)) (end : State) →
    start ≡ made_state k q book free faulty s replicas readers t → Ran k start calls answers end →
    Simulated k q faulty (made_state k q book free faulty s replicas readers t) calls answers end
simulated k laws q lawful book free faulty s replicas readers t start calls answers end e r =
    let ran : Ran k (made_state k q book free faulty s replicas readers t) calls answers end = subst (λ x. Ran k x calls answers end) e r in
    record { ran = ran; sound = atomic k laws q lawful book free faulty s replicas readers t ran.tagged }
