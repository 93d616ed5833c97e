-- The member list as a plain list: its turn, the last token passed and the rest of its run, and what each call does to it.
-- Assumes nothing.
use Rattle.std.specs.Prelude.{ℕ, ◌+◌, Bool, false, cond, ◌&&◌, length, Some, None, Ok, Err, Option, Result, ◌==◌, nat_lt}
use Rattle.layout.specs.Rules.{Parts}
use Rattle.sheet.specs.declared.spot.Spot.{Spot}
use Rattle.sheet.specs.declared.spot.Rest.{Rest}
use Rattle.sheet.specs.declared.token.Punct.{Punct}
use Rattle.sheet.specs.declared.token.Token.{Token}
use Rattle.sheet.specs.declared.token.Token.TheVariants as tokens
use Rattle.sheet.specs.Tokens.{token}
use Rattle.sheet.specs.Spots.{rest, past}
use Rattle.token_de.specs.declared.seed.Taken.{Taken}
use Rattle.token_de.specs.declared.fault.Fault.{Fault}
use Rattle.token_de.specs.declared.fault.Fault.TheVariants.{Wrong, Ended, Empty, NoEquals, NoSeparator, Leftover, Unreadable, Data}
use Rattle.token_de.specs.declared.fault.DataFault.{DataFault}
use Rattle.token_de.specs.Meaning.{Answer, Meaning}
use Rattle.access.specs.declared.map_access.KeyTurn.{KeyTurn}
use Rattle.access.specs.declared.map_access.ValueTurn.{ValueTurn}
use Rattle.access.specs.declared.map_access.NextKey.{NextKey}
use Rattle.access.specs.declared.map_access.NextKey.TheVariants as next

abbrev pub equals_mark : Punct
equals_mark = record { code = 61 }

abbrev pub comma : Punct
comma = record { code = 44 }

abbrev pub is_mark : Punct → Token → Bool
is_mark c (tokens.Punct d) = d.code == c.code
is_mark c (tokens.Ident p) = false
is_mark c (tokens.String p) = false
is_mark c (tokens.Literal l) = false
is_mark c (tokens.Group g) = false

-- the punct c stands at q, before the end e
abbrev pub marked : Parts → Punct → ℕ → ℕ → Bool
marked h c q e = nat_lt q e && (nat_lt q (length h.records) && is_mark c (token h q))

-- the turn of a list
pub data Turn : Type 0 where
  key : Turn
  value : Turn
  over : Turn

-- a call's answer, and the list after it
pub record Step (V : Type 0) : Type 0 where
  pub said : Answer V
  pub turn : Turn
  pub at : Spot

abbrev pub step : {V : Type 0} → Answer V → Turn → Spot → Step V
step a t s = record { said = a; turn = t; at = s }

-- the seed's trees and the `=` after them: the value, and the place behind the `=`; 13 names the token found, else the key's first
abbrev pub key_taken : {V : Type 0} → Parts → ℕ → ℕ → Answer (Taken V) → Answer (V × ℕ)
key_taken h p e (Ok t) = cond (marked h equals_mark (p + t.count) e)
    (Ok (t.value, p + t.count + 1))
    (Err (NoEquals (cond (nat_lt (p + t.count) e) (p + t.count) p)))
key_taken h p e (Err f) = Err f

-- the seed's trees, and then the end or one comma: the value, and the place behind
abbrev pub element_taken : {V : Type 0} → Parts → ℕ → ℕ → Answer (Taken V) → Answer (V × ℕ)
element_taken h p e (Ok t) = cond (p + t.count == e)
    (Ok (t.value, p + t.count))
    (cond (marked h comma (p + t.count) e)
    (Ok (t.value, p + t.count + 1))
    (Err (NoSeparator (p + t.count))))
element_taken h p e (Err f) = Err f

-- the end: nothing is left
abbrev pub left_over : Rest → Answer (Unit {0})
left_over r = cond (nat_lt r.from r.to) (Err (Leftover r.from)) (Ok tt)

abbrev pub ended : Parts → Spot → Answer (Unit {0})
ended h s = left_over (rest h s)

-- A KEY READ: none if nothing is left, else a key and its `=`
abbrev pub key_step : {V : Type 0} → Spot → Answer (V × ℕ) → Step (Option V)
key_step s (Ok r) = step (Ok (Some r.0)) value (past s r.1)
key_step s (Err f) = step (Err f) key s

abbrev pub key_read : {V : Type 0} → Parts → Meaning V → Spot → Step (Option V)
key_read h m s = let r = rest h s in cond (r.from == r.to) (step (Ok None) key s) (key_step s (key_taken h r.from r.to (m h r.from r.to r.last)))

-- a data fault at record 0 is named by the first token of the value, if there is one
abbrev pub name_data : ℕ → ℕ → DataFault → ℕ → Fault
name_data p e d i = cond (i == 0 && nat_lt p e) (Data d p) (Data d i)

abbrev pub named : ℕ → ℕ → Fault → Fault
named p e (Data d i) = name_data p e d i
named p e (Wrong w i) = Wrong w i
named p e (Ended w i) = Ended w i
named p e (Empty i) = Empty i
named p e (NoEquals i) = NoEquals i
named p e (NoSeparator i) = NoSeparator i
named p e (Leftover i) = Leftover i
named p e (Unreadable i) = Unreadable i

-- A VALUE READ: a value, and then the end or one comma
abbrev pub value_step : {V : Type 0} → ℕ → ℕ → Spot → Answer (V × ℕ) → Step V
value_step p e s (Ok r) = step (Ok r.0) key (past s r.1)
value_step p e s (Err f) = step (Err (named p e f)) value s

abbrev pub value_read : {V : Type 0} → Parts → Meaning V → Spot → Step V
value_read h m s = let r = rest h s in value_step r.from r.to s (element_taken h r.from r.to (m h r.from r.to r.last))

-- A FINISH: accepted if nothing is left
abbrev pub finish_step : Spot → Answer (Unit {0}) → Step (Unit {0})
finish_step s (Ok u) = step (Ok tt) over s
finish_step s (Err f) = step (Err f) key s

abbrev pub finished : Parts → Spot → Step (Unit {0})
finished h s = finish_step s (ended h s)

-- the code's answers as those of the plain list; a refusal shows the turn that it hands back
abbrev pub key_shown : {V : Type 0} → Result (NextKey V) (KeyTurn × Fault) → Step (Option V)
key_shown (Ok (next.None t)) = step (Ok None) key t.at
key_shown (Ok (next.Key v t)) = step (Ok (Some v)) value t.at
key_shown (Err r) = step (Err r.1) key r.0.at

abbrev pub value_shown : {V : Type 0} → Result (V × KeyTurn) (ValueTurn × Fault) → Step V
value_shown (Ok r) = step (Ok r.0) key r.1.at
value_shown (Err r) = step (Err r.1) value r.0.at

abbrev pub finish_shown : Spot → Result (Unit {0}) (KeyTurn × Fault) → Step (Unit {0})
finish_shown s (Ok u) = step (Ok tt) over s
finish_shown s (Err r) = step (Err r.1) key r.0.at
