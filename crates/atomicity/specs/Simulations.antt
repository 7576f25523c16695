-- What running a list of calls promises. Assumes nothing.
use Rattle.std.specs.Prelude.{◌≡◌, ℕ, ◌^◌, ◌<◌, List, [], ◌∷◌, map, Result}
use Rattle.std.specs.List.{AllByRecursion}
use Rattle.settings.specs.Kinds.{Kind}
use Rattle.quorums.specs.Systems.{Quorums}
use Rattle.cluster.specs.State.{State}
use Rattle.atomicity.specs.declared.call.Call.{Call}
use Rattle.atomicity.specs.declared.answer.Answer.{Answer}
use Rattle.atomicity.specs.Runs.{step, trace}
use Rattle.atomicity.specs.Summaries.{summary}
use Rattle.atomicity.specs.Claims.{Sound}

module _ {S : Type 0} (k : Kind S) where
  -- a call leads from the state s to the state t with this answer; the scheme chose some tag of 32 bits if it signed
  pub record Steps (s : State) (c : Call S) (a : Result (Answer S) ℕ) (t : State) : Type 0 where
    pub tag : ℕ
    pub narrow : tag < 2 ^ 32
    pub goes : step k s c tag ≡ (a, t)

  -- the state after a list of calls from the state s on, each call with its tag
  abbrev pub final : State → List (Call S × ℕ) → State
  final s [] = s
  final s (c ∷ cs) = final (step k s c.0 c.1).1 cs

  -- the calls, each with a tag of 32 bits, lead from the state s to the state t with these answers
  pub record Ran (s : State) (calls : List (Call S)) (answers : List (Result (Answer S) ℕ)) (t : State) : Type 0 where
    pub tagged : List (Call S × ℕ)
    pub called : map (λ c. c.0) tagged ≡ calls
    pub narrow : AllByRecursion (λ c. c.1 < 2 ^ 32) tagged
    pub answered : map (λ e. e.answer) (trace k s tagged) ≡ answers
    pub ended : final s tagged ≡ t

  -- the same, and that very run is linearizable, makes progress, and hands out what its reads gave
  pub record Simulated (q : Quorums) (faulty : ℕ) (s : State) (calls : List (Call S)) (answers : List (Result (Answer S) ℕ)) (t : State) : Type 0 where
    pub ran : Ran s calls answers t
    pub sound : Sound k.initial q.size faulty (map (summary k) (trace k s ran.tagged))
