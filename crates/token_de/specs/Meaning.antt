-- What a seed means, and what its words are. Assumes nothing.
use Rattle.std.specs.Prelude.{◌≡◌, ℕ, ◌+◌, ◌-◌, ◌<◌, ◌≤◌, length, Ok, Err, Option, Result}
use Rattle.layout.specs.Rules.{Parts, limits, Kept}
use Rattle.sheet.specs.declared.input.Input.{Input}
use Rattle.sheet.specs.Sheets.{held}
use Rattle.sheet.specs.Spots.{Run, Passed}
use Rattle.token_de.specs.declared.seed.Taken.{Taken}
use Rattle.token_de.specs.declared.fault.Fault.{Fault}
use Rattle.token_de.specs.Faults.{at, Ranged}

abbrev pub Answer : Type 0 → Type 0
Answer X = Result X Fault

-- what a seed answers on the run of a sheet from p up to e, after the last token passed: the trees that it takes and
-- their value, or its fault
abbrev pub Meaning : Type 0 → Type 0
Meaning V = Parts → ℕ → ℕ → Option ℕ → Answer (Taken V)

-- what it answers on an input
abbrev pub on : {V : Type 0} → Meaning V → Input → Answer (Taken V)
on m x = m (held x.sheet) x.rest.from x.rest.to x.rest.last

-- a refusal names a record of the sheet, and a customer's data fault has a detail from 100 to 255
pub record Proper (h : Parts) (f : Fault) : Type 0 where
  pub inside : at f < length h.records
  pub ranged : Ranged f

-- what each seed shows of its meaning
pub record Lawful {V : Type 0} (m : Meaning V) : Type 0 where
  -- it takes at least one tree, and none past the run's end
  pub within : (h : Parts) (p e : ℕ) (last : Option ℕ) (t : Taken V) → Kept limits h → Run h p e → m h p e last ≡ Ok t → (0 < t.count) × (p + t.count ≤ e)
  -- and the same from every run of the sheet that begins with the trees that it took, whatever was passed before
  pub stable : (h : Parts) (p e f : ℕ) (last before : Option ℕ) (t : Taken V) → Kept limits h → Run h p e → Run h p f → p + t.count ≤ f → m h p e last ≡ Ok t → m h p f before ≡ Ok t
  -- its refusals are proper
  pub refuses : (h : Parts) (p e : ℕ) (last : Option ℕ) (f : Fault) → Kept limits h → Run h p e → Passed h last → m h p e last ≡ Err f → Proper h f

-- `w h p q v` is a reading of the records from p up to q as a word with the value v
abbrev pub Grammar : Type 0 → Type 1
Grammar V = Parts → ℕ → ℕ → V → Type 0

-- a grammar is that of a meaning
pub record Exact {V : Type 0} (m : Meaning V) (w : Grammar V) : Type 0 where
  -- a word has a token
  pub some : (h : Parts) (p q : ℕ) (v : V) → w h p q v → p < q
  -- what is taken is a word, with that value
  pub sound : (h : Parts) (p e : ℕ) (last : Option ℕ) (t : Taken V) → Kept limits h → Run h p e → m h p e last ≡ Ok t → w h p (p + t.count) t.value
  -- where a run begins with a word, that word is taken, with its value
  pub complete : (h : Parts) (p q e : ℕ) (last : Option ℕ) (v : V) → Kept limits h → Run h p e → q ≤ e → w h p q v → m h p e last ≡ Ok (record { count = q - p; value = v })
  -- no word has two readings
  pub one : (h : Parts) (p q : ℕ) (v : V) → Kept limits h → (x y : w h p q v) → x ≡ y
