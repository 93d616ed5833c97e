-- The steps that seeds are made of. Assumes nothing.
use Rattle.std.specs.Prelude.{◌≡◌, ℕ, ◌+◌, Bool, cond, Ok, Err, Option, nat_lt}
use Rattle.std.specs.Option.{unwrap_or, ok_or}
use Rattle.layout.specs.Rules.{Parts}
use Rattle.sheet.specs.declared.token.Token.{Token}
use Rattle.sheet.specs.Tokens.{token}
use Rattle.sheet.specs.Trees.{if_there}
use Rattle.token_de.specs.declared.fault.Wanted.{Wanted}
use Rattle.token_de.specs.declared.fault.Fault.TheVariants.{Wrong, Ended, Data}
use Rattle.token_de.specs.declared.fault.DataFault.TheVariants.{Custom}
use Rattle.token_de.specs.Meaning.{Answer, Meaning, Grammar}

abbrev pub ◌then◌ : {X Y : Type 0} → Answer X → (X → Answer Y) → Answer Y
Ok x then f = f x
Err e then f = Err e

infixr 20 ◌then◌
-- the next token of a run; `wanted` says what was to stand there
abbrev pub next : Wanted → Parts → ℕ → ℕ → Option ℕ → Answer Token
next wanted h p e last = cond (nat_lt p e) (ok_or (if_there h p (token h p)) (Ended wanted (unwrap_or last 0))) (Err (Ended wanted (unwrap_or last 0)))

-- one tree, of whose token at p `f` makes the value
abbrev pub tree : {V : Type 0} → Wanted → (Parts → ℕ → Token → Answer V) → Meaning V
tree wanted f h p e last = next wanted h p e last then (λ t. f h p t then (λ v. Ok (record { count = 1; value = v })))

-- one token, of which `f` makes the value if it fits; else it is a wrong one
abbrev pub single : {V : Type 0} → Wanted → (Parts → Token → Option V) → Meaning V
single wanted f = tree wanted (λ h p t. ok_or (f h t) (Wrong wanted p))

-- one token whose value also passes a test; a value that does not is a customer's data fault of this detail
abbrev pub tested : {V : Type 0} → Wanted → (Parts → Token → Option V) → (V → Bool) → ℕ → Meaning V
tested wanted f test detail =
    tree wanted (λ h p t. ok_or (f h t) (Wrong wanted p) then (λ v. cond (test v) (Ok v) (Err (Data (Custom detail) 0))))

-- words of one tree, of which W says which it is
abbrev pub One : {V : Type 0} → (Parts → ℕ → V → Type 0) → Grammar V
One W h p q v = (q ≡ p + 1) × W h p v
