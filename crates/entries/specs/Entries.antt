-- A caller that reads entries of a name and a text. Assumes nothing.
use Rattle.std.specs.Prelude.{Bool, true, false, ◌+◌, length, Some, None, Ok, Err, Option}
use Rattle.layout.specs.Rules.{Parts}
use Rattle.sheet.specs.declared.spot.Body.{Body}
use Rattle.sheet.specs.Spots.{at_body}
use Rattle.scalar.specs.declared.text.Identifier.{Identifier}
use Rattle.scalar.specs.declared.text.Str.{Str}
use Rattle.scalar.specs.declared.text.TextPart.{TextPart}
use Rattle.scalar.specs.Texts.{identifier_read, string_read}
use Rattle.access.specs.declared.drive.KeyMove.{KeyMove}
use Rattle.access.specs.declared.drive.KeyMove.TheVariants as at_key
use Rattle.token_de.specs.Meaning.{Answer}
use Rattle.access.specs.Plain.{Turn, key, value, over}
use Rattle.access.specs.Talks.{Model, talk}
use Rattle.entries.specs.declared.entries.Entries.{Entries}
use Rattle.entries.specs.declared.entries.Entries.TheVariants.{Reading, Ended, Stopped}

abbrev pub asks : Entries → KeyMove Identifier
asks Reading = at_key.Read (record {})
asks Ended = at_key.Finish
asks Stopped = at_key.Stop

abbrev pub reads : Entries → Option Str
reads Reading = Some (record {})
reads Ended = None
reads Stopped = None

abbrev pub told_key : Entries → Answer (Option TextPart) → Entries
told_key c (Ok None) = Ended
told_key c (Ok (Some v)) = Reading
told_key c (Err f) = Stopped

abbrev pub told_value : Entries → Answer TextPart → Entries
told_value c (Ok v) = Reading
told_value c (Err f) = Stopped

abbrev pub told_finish : Entries → Answer (Unit {0}) → Entries
told_finish c a = Stopped

abbrev pub caller : Model Entries Identifier Str TextPart TextPart
caller = record { asks = asks; reads = reads; told_key = told_key; told_value = told_value; told_finish = told_finish }

abbrev pub is_over : Turn → Bool
is_over key = false
is_over value = false
is_over over = true

-- the calls end with an accepted finish
abbrev pub read_whole : Parts → Body → Bool
read_whole h body = is_over (talk caller (λ _. identifier_read) (λ _. string_read) h (length h.records + 2) Reading (record { turn = key; at = at_body body })).list.turn
