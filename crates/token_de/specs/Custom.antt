-- The words of a customer's seed. Assumes nothing.
use Rattle.std.specs.Prelude.{◌≡◌, ◌-◌, ◌<◌, None, Ok}
use Rattle.sheet.specs.Spots.{Run}
use Rattle.token_de.specs.Meaning.{Meaning, Grammar}

-- a run that is taken to its last tree
abbrev pub Whole : {V : Type 0} → Meaning V → Grammar V
Whole m h p q v = (p < q) × ∥ Run h p q ∥₁ × (m h p q None ≡ Ok (record { count = q - p; value = v }))
