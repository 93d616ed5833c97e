-- What is left to read of a run. Assumes nothing.
use Rattle.std.specs.Prelude.{ℕ, ◌+◌, ◌-◌, min, cond, Some, None, Option, nat_lt}
use Rattle.layout.specs.Rules.{Parts}
use Rattle.sheet.specs.declared.spot.Rest.{Rest}
use Rattle.sheet.specs.declared.token.Token.{Token}
use Rattle.sheet.specs.Tokens.{token}
use Rattle.sheet.specs.Trees.{Seen, tree_of}

-- the next record, unless nothing is left
abbrev pub first : Rest → Option ℕ
first r = cond (nat_lt r.from r.to) (Some r.from) None

-- the next token and the next tree, unless nothing is left
abbrev pub next_token : Parts → Rest → Option Token
next_token h r = cond (nat_lt r.from r.to) (Some (token h r.from)) None

abbrev pub next_tree : Parts → Rest → Option Seen
next_tree h r = cond (nat_lt r.from r.to) (Some (tree_of h r.from (token h r.from))) None

-- how many of n trees a rest has
abbrev pub at_most : Rest → ℕ → ℕ
at_most r n = min n (r.to - r.from)

-- behind n trees of a rest, or behind all where it has fewer; the last of them is then the last token passed
abbrev pub behind : Rest → ℕ → Rest
behind r n = record { from = r.from + at_most r n; to = r.to; last = cond (nat_lt 0 (at_most r n)) (Some (r.from + at_most r n - 1)) r.last }

-- the first n trees of a rest, or all where it has fewer
abbrev pub front : Rest → ℕ → Rest
front r n = record { from = r.from; to = r.from + at_most r n; last = r.last }
