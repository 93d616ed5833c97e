-- What a read of a list body or a member body answers, over any reads of its words. Assumes nothing.
use Rattle.std.specs.Prelude.{ℕ, zero, suc, ◌+◌, ◌-◌, cond, Some, None, Ok, Option, nat_lt}
use Rattle.layout.specs.Rules.{Parts}
use Rattle.token_de.specs.declared.seed.Taken.{Taken}
use Rattle.token_de.specs.Meaning.{Answer}
use Rattle.token_de.specs.Steps.{◌then◌}
pub use Rattle.token_de.specs.Separators.{is, after, equals, PastComma, NoComma, PastEquals, NotEquals}

-- what a read answers on a run of one sheet, after the last token passed
abbrev pub Reads : Type 0 → Type 0
Reads V = ℕ → ℕ → Option ℕ → Answer (Taken V)

-- the last token passed at p, in a body that begins at first
abbrev pub passed : ℕ → ℕ → Option ℕ
passed first p = cond (nat_lt first p) (Some (p - 1)) None

-- how many words the rest of a list body has, beside the n before p; in k turns, which k ≥ e - p are enough
abbrev pub items : {V : Type 0} → Parts → Reads V → ℕ → ℕ → ℕ → ℕ → ℕ → Answer ℕ
items h m zero first p e n = Ok n
items h m (suc k) first p e n = cond (nat_lt p e) (m p e (passed first p) then (λ t. after h (p + t.count) e then (λ q. items h m k first q e (n + 1)))) (Ok n)

-- a list body from first up to e
abbrev pub body : {V : Type 0} → Parts → Reads V → ℕ → ℕ → Answer ℕ
body h m first e = items h m (e - first) first first e 0

-- an entry: a key, the `=`, a value
abbrev pub entry : {K V : Type 0} → Parts → Reads K → Reads V → Reads (K × V)
entry h k v p e last = k p e last then (λ t. equals h p (p + t.count) e then (λ q. v (q + 1) e (Some q) then (λ u. Ok (record { count = t.count + 1 + u.count; value = (t.value, u.value) }))))
