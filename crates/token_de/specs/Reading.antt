-- What a read on a cursor says, in the words of the grammar. Assumes nothing.
use Rattle.std.specs.Prelude.{◌≡◌, ℕ, ◌≤◌, Err}
use Rattle.layout.specs.Rules.{Parts}
use Rattle.sheet.specs.declared.spot.Spot.{Spot}
use Rattle.sheet.specs.Spots.{rest, past}
use Rattle.token_de.specs.declared.fault.Fault.{Fault}
use Rattle.token_de.specs.Meaning.{Meaning, Grammar}

-- a word that the run from p up to e begins with: where it ends, its value, and its reading
abbrev pub Begins : {V : Type 0} → Grammar V → Parts → ℕ → ℕ → Type 0
Begins {V} w h p e = (q : ℕ) × (q ≤ e) × (v : V) × w h p q v

-- accepted: the rest of the run begins with a word of this value, the cursor stands after it, and the rest begins with
-- no other word and with no other reading of it
pub record Accepted {V : Type 0} (w : Grammar V) (h : Parts) (before after : Spot) (v : V) : Type 0 where
  pub end : ℕ
  pub inside : end ≤ (rest h before).to
  pub word : w h (rest h before).from end v
  pub only : (x : Begins w h (rest h before).from (rest h before).to) → x ≡ (end, inside, v, word)
  pub passes : after ≡ past before end

-- refused: the rest begins with no word, the fault is that of the seed's meaning, and the cursor stays
pub record Refused {V : Type 0} (m : Meaning V) (w : Grammar V) (h : Parts) (before after : Spot) (f : Fault) : Type 0 where
  pub none : Begins w h (rest h before).from (rest h before).to → ⊥
  pub fault : m h (rest h before).from (rest h before).to (rest h before).last ≡ Err f
  pub stays : after ≡ before
