-- Numerals, alone or behind a `-`. Assumes nothing.
use Rattle.std.specs.Prelude.{◌≡◌, ℕ, ◌+◌, Bool, true, false, cond, ◌⊎◌, None, Ok, Option, ◌==◌, nat_lt}
use Rattle.std.specs.Option.{ok_or, option_and_then}
use Rattle.layout.specs.Rules.{Parts}
use Rattle.sheet.specs.declared.token.Token.{Token}
use Rattle.sheet.specs.declared.token.Token.TheVariants as tokens
use Rattle.sheet.specs.Tokens.{token}
use Rattle.sheet.specs.Trees.{if_there}
use Rattle.token_de.specs.declared.seed.Taken.{Taken}
use Rattle.token_de.specs.declared.fault.Wanted.{Wanted}
use Rattle.token_de.specs.declared.fault.Fault.TheVariants.{Wrong}
use Rattle.token_de.specs.Meaning.{Answer, Meaning, Grammar}
use Rattle.token_de.specs.Steps.{◌then◌, next}

abbrev pub minus : Token
minus = tokens.Punct (record { code = 45 })

abbrev pub is_minus : Token → Bool
is_minus (tokens.Punct p) = p.code == 45
is_minus _ = false

-- the numeral at p, behind a `-`, of a run that ends at e
abbrev pub behind : {V : Type 0} → (Bool → Token → Option V) → Parts → ℕ → ℕ → Option V
behind worth h p e = cond (nat_lt p e) (option_and_then (worth true) (if_there h p (token h p))) None

-- the token at p: a numeral, or a `-` before one
abbrev pub from_token : {V : Type 0} → Wanted → (Bool → Token → Option V) → Parts → ℕ → ℕ → Token → Answer (Taken V)
from_token wanted worth h p e t = cond (is_minus t)
    (ok_or (behind worth h (p + 1) e) (Wrong wanted p) then (λ v. Ok (record { count = 2; value = v })))
    (ok_or (worth false t) (Wrong wanted p) then (λ v. Ok (record { count = 1; value = v })))

abbrev pub number_read : {V : Type 0} → Wanted → (Bool → Token → Option V) → Meaning V
number_read wanted worth h p e last = next wanted h p e last then from_token wanted worth h p e

-- a numeral, or a `-` and a numeral, of which N says what it is worth
abbrev pub NumberWord : {V : Type 0} → (Bool → Token → V → Type 0) → Grammar V
NumberWord N h p q v = ((q ≡ p + 1) × N false (token h p) v) ⊎ ((q ≡ p + 2) × (token h p ≡ minus) × N true (token h (p + 1)) v)
