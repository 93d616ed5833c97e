-- What a cursor shows and where it stands after a call. Assumes nothing.
use Rattle.std.specs.Prelude.{ℕ, ◌+◌, cond, is_ok, Ok, Err, Option, Result, nat_lt}
use Rattle.std.specs.Option.{option_map, unwrap_or, ok_or}
use Rattle.layout.specs.Rules.{Parts}
use Rattle.sheet.specs.declared.tree.Tree.{Tree}
use Rattle.sheet.specs.declared.spot.Spot.{Spot}
use Rattle.sheet.specs.declared.text.Text.{Text}
use Rattle.token_de.specs.declared.fault.Fault.{Fault}
use Rattle.token_de.specs.declared.fault.Fault.TheVariants.{Wrong, Ended}
use Rattle.token_de.specs.declared.fault.Wanted.TheVariants as wanted
use Rattle.sheet.specs.Tokens.{token}
use Rattle.sheet.specs.Spots.{rest, past}
use Rattle.sheet.specs.Trees.{Seen, seen, Worded, worded, text_of}
use Rattle.sheet.specs.Inputs.{next_tree}

-- PEEK: the next tree with its record, if the run has a rest
unfoldable pub peeked : Parts → Spot → Option (ℕ × Seen)
peeked h s = let r = rest h s in option_map (λ t. (r.from, t)) (next_tree h r)

abbrev pub peek_shown : Option (ℕ × Tree) → Option (ℕ × Seen)
peek_shown r = option_map (λ x. (x.0, seen x.1)) r

-- NEXT: past one tree, if there is one
unfoldable pub passed_one : Parts → Spot → Spot
passed_one h s = let r = rest h s in cond (nat_lt r.from r.to) (past s (r.from + 1)) s

-- TEXT: that of an identifier or a string literal
abbrev pub text_shown : Result Text Fault → Result Worded Fault
text_shown (Ok t) = Ok (worded t)
text_shown (Err f) = Err f

-- where no token is left, the last one passed is named, else record 0
unfoldable pub text_read : Parts → Spot → Result Worded Fault
text_read h s = let r = rest h s in cond (nat_lt r.from r.to) (ok_or (text_of h (token h r.from)) (Wrong wanted.String r.from)) (Err (Ended wanted.String (unwrap_or r.last 0)))

-- an accepted read passes its tree, a refused one nothing
unfoldable pub text_after : Parts → Spot → Spot
text_after h s = cond (is_ok (text_read h s)) (passed_one h s) s
