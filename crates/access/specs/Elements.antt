-- The elements of a list body, read one by one. Assumes nothing.
use Rattle.std.specs.Prelude.{ℕ, cond, Some, None, Ok, Err, Option, Result, ◌==◌}
use Rattle.layout.specs.Rules.{Parts}
use Rattle.sheet.specs.declared.spot.Spot.{Spot}
use Rattle.sheet.specs.Spots.{rest, past}
use Rattle.token_de.specs.declared.fault.Fault.{Fault}
use Rattle.token_de.specs.Meaning.{Answer, Meaning}
use Rattle.access.specs.declared.seq_access.Elements.{Elements}
use Rattle.access.specs.Plain.{element_taken, ended}

-- a call's answer, and where the list stands after it
pub record Read (V : Type 0) : Type 0 where
  pub said : Answer V
  pub at : Spot

-- AN ELEMENT READ: none if nothing is left, else an element, and then the end or one comma
abbrev pub element_step : {V : Type 0} → Spot → Answer (V × ℕ) → Read (Option V)
element_step s (Ok r) = record { said = Ok (Some r.0); at = past s r.1 }
element_step s (Err f) = record { said = Err f; at = s }

abbrev pub element_read : {V : Type 0} → Parts → Meaning V → Spot → Read (Option V)
element_read h m s = let r = rest h s in cond (r.from == r.to) (record { said = Ok None; at = s }) (element_step s (element_taken h r.from r.to (m h r.from r.to r.last)))

-- the end: accepted if nothing is left
abbrev pub elements_ended : Parts → Spot → Read (Unit {0})
elements_ended h s = record { said = ended h s; at = s }

-- the code's answers; a refusal shows the state that it hands back
abbrev pub element_shown : {V : Type 0} → Result (Option V × Elements) (Elements × Fault) → Read (Option V)
element_shown (Ok r) = record { said = Ok r.0; at = r.1.at }
element_shown (Err r) = record { said = Err r.1; at = r.0.at }

abbrev pub ended_shown : Spot → Result (Unit {0}) (Elements × Fault) → Read (Unit {0})
ended_shown s (Ok u) = record { said = Ok tt; at = s }
ended_shown s (Err r) = record { said = Err r.1; at = r.0.at }
