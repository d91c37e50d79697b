-- What it is that a call keeps a promise, and that a promise determines the outcome.
use Rattle.std.specs.Prelude.{◌≡◌}
use seplogic.Ra.Ura.{Ura}
use base.Logic.{emp}
use prog.Model.{Model}
use prog.Wired.{Code, Wired}
use mir.Syntax.{Callee}
use types.Logic.{Logic}
use contract.Monad.{fact}
use contract.Running.{Running}
use contract.Lifetimes.{Lfts}
use denote.Triple.Entry.{Args, Res}
use denote.Triple.Clauses.{Ended, AtExit, closing}
use denote.Triple.Spec.{Meets}

-- a call: its code with the code of all that it calls, and the name by which it is called
pub record Call : Type 0 where
  pub code : Code
  pub name : Callee

module _ (T : Ended) where
  -- a claim about all that a contract can speak of: the arguments, the result, and the parameters at exit
  abbrev pub Claim : Type 1
  Claim = (κs : Lfts T.signature.lifetimes) → Args T.signature κs → Res T.signature κs → AtExit T κs → Type 0

  -- wherever its code is in place, the call is proved to meet the contract that asks nothing of the caller and ensures the claim
  abbrev pub Keeps : Call → Claim → Type 2
  Keeps call claim =
      (M : Type 1) (𝓤 : Ura M) (𝓛 : Logic 𝓤) (𝓜 : Model 𝓤 𝓛.H) (𝓡 : Running 𝓤 𝓛.H 𝓜)
      → Wired 𝓡.env call.code
      → Meets 𝓛 T.signature (𝓡.run (𝓡.env call.name))
      (closing 𝓛 T (λ κs a. record { ghost = Unit {0}; requires = λ g. emp 𝓤; ensures = λ g r x. fact 𝓤 (claim κs a r x) }))

  -- what is seen of an outcome: the reply and each byte of lent storage afterwards
  abbrev pub Seen : Type 0 → Type 0
  Seen O = (κs : Lfts T.signature.lifetimes) → Res T.signature κs → AtExit T κs → O

  -- what a definition gives for the arguments
  abbrev pub Given : Type 0 → Type 0
  Given O = (κs : Lfts T.signature.lifetimes) → Args T.signature κs → O

  -- "any two outcomes the promise admits are proved equal"
  abbrev pub Once : {O : Type 0} → Claim → Seen O → Type 0
  Once claim seen =
      (κs : Lfts T.signature.lifetimes) (a : Args T.signature κs) (r r' : Res T.signature κs) (x x' : AtExit T κs)
      → claim κs a r x → claim κs a r' x' → seen κs r x ≡ seen κs r' x'

-- "Every public call has a promise that determines the reply and each byte of lent storage afterwards, for all inputs, refused ones too"
pub record Promises (T : Ended) (call : Call) {O : Type 0} (claim : Claim T) (seen : Seen T O) : Type 2 where
  pub keeps : Keeps T call claim
  pub once : Once T claim seen

-- where the claim is an equation: what is seen is what a definition gives
abbrev pub Equals : (T : Ended) → Call → {O : Type 0} → Seen T O → Given T O → Type 2
Equals T call seen given = Promises T call (λ κs a r x. seen κs r x ≡ given κs a) seen
