-- A tree with its parts. Assumes nothing.
use Rattle.std.specs.Prelude.{ℕ, cond, List, length, Some, None, Option, nat_lt}
use Rattle.std.specs.Option.{option_map}
use Rattle.layout.specs.Rules.{Parts}
use Rattle.layout.specs.declared.kind.Delimiter.{Delimiter}
use Rattle.sheet.specs.declared.token.Punct.{Punct}
use Rattle.sheet.specs.declared.token.Literal.{Literal}
use Rattle.sheet.specs.declared.token.Token.{Token}
use Rattle.sheet.specs.declared.token.Token.TheVariants as tokens
use Rattle.sheet.specs.declared.text.Pool.{Pool}
use Rattle.sheet.specs.declared.text.Pool.TheVariants.{Names, Strings}
use Rattle.sheet.specs.declared.text.Text.{Text}
use Rattle.sheet.specs.declared.tree.Tree.{Tree}
use Rattle.sheet.specs.declared.tree.Tree.TheVariants as trees
use Rattle.sheet.specs.declared.spot.Body.{Body}
use Rattle.sheet.specs.Tokens.{bytes_of}
use Rattle.sheet.specs.Spots.{body_of}

-- what a tree shows: a name's or a string's bytes, a punct, another literal, or a group's body
pub data Seen : Type 0 where
  ident : List ℕ → Seen
  string : List ℕ → Seen
  punct : Punct → Seen
  literal : Literal → Seen
  group : Delimiter → Body → Seen

abbrev pub seen : Tree → Seen
seen (trees.Ident x) = ident x.now
seen (trees.String x) = string x.now
seen (trees.Punct p) = punct p
seen (trees.Literal l) = literal l
seen (trees.Group d b) = group d b

-- the tree of record i, which means the token t
abbrev pub tree_of : Parts → ℕ → Token → Seen
tree_of h i (tokens.Ident p) = ident (bytes_of h.names p)
tree_of h i (tokens.String p) = string (bytes_of h.strings p)
tree_of h i (tokens.Punct p) = punct p
tree_of h i (tokens.Literal l) = literal l
tree_of h i (tokens.Group g) = group g.delimiter (body_of i g)

-- something of record i, if there is such a record
abbrev pub if_there : {A : Type 0} → Parts → ℕ → A → Option A
if_there h i x = cond (nat_lt i (length h.records)) (Some x) None

abbrev pub shown : Option Tree → Option Seen
shown r = option_map seen r

abbrev pub pool_of : Parts → Pool → List ℕ
pool_of h Names = h.names
pool_of h Strings = h.strings

-- A TEXT: a part of the names for an identifier, or of the strings for a string literal
pub record Worded : Type 0 where
  pub pool : Pool
  pub start : ℕ
  pub bytes : List ℕ

abbrev pub worded : Text → Worded
worded t = record { pool = t.pool; start = t.start; bytes = t.bytes.now }

abbrev pub text_shown : Option Text → Option Worded
text_shown r = option_map worded r

-- the text of a token, if it has one
abbrev pub text_of : Parts → Token → Option Worded
text_of h (tokens.Ident p) = Some (record { pool = Names; start = p.start; bytes = bytes_of h.names p })
text_of h (tokens.String p) = Some (record { pool = Strings; start = p.start; bytes = bytes_of h.strings p })
text_of h (tokens.Punct p) = None
text_of h (tokens.Literal l) = None
text_of h (tokens.Group g) = None
