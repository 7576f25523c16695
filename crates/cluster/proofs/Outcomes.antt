-- What a step comes to where a check refuses, and where none does. Assumes nothing.
use Rattle.std.proofs.Common.{◌≡◌, ℕ, ◌<◌, ◌≤◌, Bool, true, false, cond, leb, ◌&&◌, ◌==◌, List, [], ◌∷◌, ◌++◌, length, take, slice_get, slice_index_or, Some, None, Ok, Err, Option, Result, sym, refl, ap, ◌∙◌, subst, ⊎_elim, arith, le-leb}
use Rattle.std.proofs.lemmas.Bool.{lt-leb}
use Rattle.std.proofs.lemmas.Option.{slice_get_within, get_or_from_slice_get, slice_get_cases}
use native.Mathlib.Bridge.{le_prop}
use Rattle.std.specs.Result.{IsErrAnd}
use Rattle.std.proofs.lemmas.List.{length-take-le}
use Rattle.std.proofs.lemmas.Result.{err_from_is_err_and}
use Rattle.encodings.specs.Encodings.{Bytes}
use Rattle.quorums.specs.Systems.{Quorums}
use Rattle.signatures.specs.declared.entry.Entry.{Entry}
use Rattle.protocol.specs.declared.version.Version.{Version}
use Rattle.protocol.specs.declared.message.Message.{Message}
use Rattle.protocol.specs.declared.client.Client.{Client}
use Rattle.cluster.specs.Refusals.{Check, first_refusal, number, numbered}
use Rattle.cluster.specs.State.{State, Fixed, fixed_part}
use Rattle.cluster.specs.Steps.{Outcome, unless, closed}
use Rattle.cluster.specs.declared.cluster.Cluster.{Cluster}
use Rattle.cluster.specs.declared.front_list.FrontList.{FrontList}
use Rattle.cluster.specs.declared.refusal.Refusal.{Refusal}
use Rattle.cluster.specs.declared.tables.TableSizes.{TableSizes}
use Rattle.cluster.specs.declared.reader.Reader.{Reader}
use Rattle.cluster.specs.declared.journal.Line.{Line}

-- the first of two lists of checks decides where it refuses
pub first_before : (xs ys : List Check) (n : ℕ) → first_refusal xs ≡ Some n → first_refusal (xs ++ ys) ≡ Some n
first_before [] ys n e = let z : ◌≡◌ {A = ℕ} 0 1 = cc in absurd (omega arith)
first_before ((true, m) ∷ xs) ys n e = e
first_before ((false, m) ∷ xs) ys n e = first_before xs ys n e

pub first_after : (xs ys : List Check) → first_refusal xs ≡ None → first_refusal (xs ++ ys) ≡ first_refusal ys
first_after [] ys e = refl
first_after ((true, m) ∷ xs) ys e = let z : ◌≡◌ {A = ℕ} 0 1 = cc in absurd (omega arith)
first_after ((false, m) ∷ xs) ys e = first_after xs ys e

-- the first check of a list, where the others give o
pub refuses : (b : Bool) (n : ℕ) (o : Option ℕ) → b ≡ true → cond b (Some n) o ≡ Some n
refuses b n o e = ap (λ x. cond x (Some n) o) e

pub lets_pass : (b : Bool) (n : ℕ) (o : Option ℕ) → b ≡ false → cond b (Some n) o ≡ o
lets_pass b n o e = ap (λ x. cond x (Some n) o) e

module _ {A : Type 0} (s : State) (o : Outcome A) where
  -- one check, or several, of which one refuses or none does
  pub refused : (cs : List Check) (n : ℕ) → first_refusal cs ≡ Some n → unless (first_refusal cs) s o ≡ (Err n, s)
  unfolding unless
  refused cs n e = ap (λ q. unless q s o) e

  pub accepted : (cs : List Check) → first_refusal cs ≡ None → unless (first_refusal cs) s o ≡ o
  unfolding unless
  accepted cs e = ap (λ q. unless q s o) e

  module _ (cs : List Check) where
    -- every call is refused
    pub shut_out : (n : ℕ) → first_refusal (closed s) ≡ Some n → unless (first_refusal (closed s ++ cs)) s o ≡ (Err n, s)
    shut_out n e = refused (closed s ++ cs) n (first_before (closed s) cs n e)

    -- this call is refused
    pub turned_away : (n : ℕ) → first_refusal (closed s) ≡ None → first_refusal cs ≡ Some n → unless (first_refusal (closed s ++ cs)) s o ≡ (Err n, s)
    turned_away n p e = refused (closed s ++ cs) n (first_after (closed s) cs p ∙ e)

    -- nothing refuses the call
    pub let_in : first_refusal (closed s) ≡ None → first_refusal cs ≡ None → unless (first_refusal (closed s ++ cs)) s o ≡ o
    let_in p e = accepted (closed s ++ cs) (first_after (closed s) cs p ∙ e)

-- the refusal of a test, which the call passes on
pub passed_on : {A : Type 0} {o : Outcome A} {s : State} (r : Result A Refusal) (e : Refusal) → IsErrAnd r (λ y. y ≡ e) → o ≡ (Err (number e), s) → o ≡ (numbered r, s)
passed_on {s = s} r e h q = let p = err_from_is_err_and r h in q ∙ ap (λ x. (x, s)) (sym (ap numbered p.1 ∙ ap (λ y. Err (number y)) p.2))

-- the same, where it is known which refusal that is
pub passed_on_as : {A : Type 0} {o : Outcome A} {s : State} (r : Result A Refusal) (e f : Refusal) → IsErrAnd r (λ y. y ≡ e) → e ≡ f → o ≡ (Err (number f), s) → o ≡ (numbered r, s)
passed_on_as {s = s} r e f h k q = passed_on r e h (q ∙ ap (λ y. (Err (number y), s)) (sym k))

-- an outcome whose parts are known one by one
pub outcome : {A : Type 0} {a a' : A} {F F' : Fixed} {b b' : List Entry} {f f' : ℕ} {w w' : Client} {rs rs' : List (Version Bytes)} {ds ds' : List Reader}
    {ms ms' : List (Message Bytes)} {ls ls' : List Line} →
    a ≡ a' → F ≡ F' → b ≡ b' → f ≡ f' → w ≡ w' → rs ≡ rs' → ds ≡ ds' → ms ≡ ms' → ls ≡ ls' →
    ◌≡◌ {A = Outcome A}
    (Ok a, record { fixed = F; book = b; free = f; writer = w; replicas = rs; readers = ds; messages = ms; lines = ls })
    (Ok a', record { fixed = F'; book = b'; free = f'; writer = w'; replicas = rs'; readers = ds'; messages = ms'; lines = ls' })
outcome ea eF eb ef ew er ed em el = λ i. (
  Ok (ea i),
  record {
    fixed = eF i;
    book = eb i;
    free = ef i;
    writer = ew i;
    replicas = er i;
    readers = ed i;
    messages = em i;
    lines = el i;
  },
)

-- a cluster whose scheme is as it was is the same cluster
pub with_signatures : {S P K : Type 0} (c : Cluster S P K) (k : K) (few : c.reader_places ≤ 8) → k ≡ c.signatures →
    ◌≡◌ {A = Cluster S P K}
    (record {
      system = c.system;
      signatures = k;
      faulty = c.faulty;
      shut = c.shut;
      writer = c.writer;
      reader_places = c.reader_places;
      messages = c.messages;
      lines = c.lines;
      setting = c.setting;
      readers_few = few;
    })
    c
with_signatures c k few e = λ i. record {
  system = c.system;
  signatures = e i;
  faulty = c.faulty;
  shut = c.shut;
  writer = c.writer;
  reader_places = c.reader_places;
  messages = c.messages;
  lines = c.lines;
  setting = c.setting;
  readers_few = le_prop few c.readers_few i;
}

-- a cluster and tables that keep what no call changes
pub fixed_stays : {S P K : Type 0} (quorums : P → Quorums) (c : Cluster S P K) (t : TableSizes) {n d m l mp lp : ℕ} →
    n ≡ t.replicas → d ≡ t.readers → m ≡ t.messages → l ≡ t.lines → mp ≡ c.messages.places → lp ≡ c.lines.places →
    fixed_part quorums c t ≡ record {
      quorums = quorums c.system;
      faulty = c.faulty.members;
      shut = c.shut;
      sized = (n == (quorums c.system).size) && (d == c.reader_places && (m == mp && l == lp));
      message_places = mp;
      line_places = lp;
    }
fixed_stays quorums c t en ed em el emp elp = λ i. record {
  quorums = quorums c.system;
  faulty = c.faulty.members;
  shut = c.shut;
  sized = (sym en i == (quorums c.system).size) && (sym ed i == c.reader_places && (sym em i == sym emp i && sym el i == sym elp i));
  message_places = sym emp i;
  line_places = sym elp i;
}

-- how many rows a list at the front of its table has
pub listed : {X : Type 0} (l : FrontList) (rows : List X) → length rows ≡ l.places → length (take l.used rows) ≡ l.used
listed l rows e = length-take-le l.used rows (omega (arith, l.fits, e))

-- a row of the list, and none past its end
pub row_is : {X : Type 0} (xs : List X) (n i : ℕ) (x d : X) → length xs ≡ n → Some x ≡ slice_get xs i → (leb n i ≡ false) × (x ≡ slice_index_or xs i d)
row_is xs n i x d e h = (lt-leb n i (subst (λ m. i < m) e (slice_get_within xs i x (sym h))), sym (get_or_from_slice_get xs i x d (sym h)))

pub no_row : {X : Type 0} (xs : List X) (n i : ℕ) → length xs ≡ n → None ≡ slice_get xs i → leb n i ≡ true
no_row xs n i e h = le-leb n i (subst (λ m. m ≤ i) e (⊎_elim (λ w. let z : ◌≡◌ {A = ℕ} 0 1 = cc in absurd (omega arith)) (λ w. w.0) (slice_get_cases xs i).1))
