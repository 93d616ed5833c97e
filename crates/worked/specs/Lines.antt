-- Worked lines: what is read of small sheets. Assumes nothing.
use Rattle.std.specs.Prelude.{◌≡◌, ℕ, List, [], ◌∷◌, length, pos, negsuc, None, Ok, Err}
use Rattle.layout.specs.declared.record.Record.{Record}
use Rattle.layout.specs.Rules.{Parts}
use Rattle.token_de.specs.declared.fault.Fault.TheVariants.{Wrong}
use Rattle.token_de.specs.declared.fault.Wanted.TheVariants as wanted
use Rattle.token_de.specs.declared.seed.Taken.{Taken}
use Rattle.token_de.specs.Meaning.{Answer, Meaning}
use Rattle.scalar.specs.declared.signed.Signed.{Signed}
use Rattle.scalar.specs.declared.unsigned.Unsigned.{Unsigned}
use Rattle.scalar.specs.Signeds.{signed_read}
use Rattle.scalar.specs.Unsigneds.{unsigned_read}

-- RECORDS
abbrev pub punct : ℕ → Record
punct c = record { kind = 1; sub = c; mark = 0; a = 0; b = 0; place = 0; value = 0; bits = 0 }

abbrev pub integer : ℕ → Record
integer v = record { kind = 2; sub = 5; mark = 0; a = 0; b = 0; place = 0; value = v; bits = 0 }

abbrev pub brace : ℕ → ℕ → Record
brace first count = record { kind = 3; sub = 1; mark = 0; a = first; b = count; place = 0; value = 0; bits = 0 }

-- the sheet whose record 0 has this body, without names and strings
abbrev pub sheet : List Record → Parts
sheet rs = record { records = brace 1 (length rs) ∷ rs; names = []; strings = [] }

-- what a seed reads of the n records of that body
abbrev pub read : {V : Type 0} → Meaning V → List Record → ℕ → Answer (Taken V)
read m rs end = m (sheet rs) 1 end None

-- THE SEEDS
abbrev pub i64 : Signed
i64 = record { low = negsuc 9223372036854775807; high = pos 9223372036854775807 }

abbrev pub u64 : Unsigned
u64 = record { low = 0; high = 18446744073709551615 }

pub record WorkedLines : Type 0 where
  -- signed: - 9223372036854775808 is taken
  pub lowest : read (signed_read i64) (punct 45 ∷ integer 9223372036854775808 ∷ []) 3 ≡ Ok (record { count = 2; value = negsuc 9223372036854775807 })
  -- signed: 9223372036854775808 alone is a wrong token
  pub too_high : read (signed_read i64) (integer 9223372036854775808 ∷ []) 2 ≡ Err (Wrong wanted.Signed 1)
  -- unsigned: - 0 is wrong at the `-`
  pub minus_zero : read (unsigned_read u64) (punct 45 ∷ integer 0 ∷ []) 3 ≡ Err (Wrong wanted.Unsigned 1)
