-- The number that stands for each kind of record, each literal and each delimiter. Assumes nothing.
use Rattle.std.specs.Prelude.{◌≡◌, ℕ, ◌<◌, Result, MatchResult}
use Rattle.layout.specs.declared.kind.Kind.{Kind}
use Rattle.layout.specs.declared.kind.Kind.TheVariants.{Ident, Punct, Literal, Group}
use Rattle.layout.specs.declared.kind.LiteralKind.{LiteralKind}
use Rattle.layout.specs.declared.kind.LiteralKind.TheVariants.{String, ByteString, CString, Byte, Char, Integer, Float, Other}
use Rattle.layout.specs.declared.kind.Delimiter.{Delimiter}
use Rattle.layout.specs.declared.kind.Delimiter.TheVariants.{Parenthesis, Brace, Bracket, Invisible}
use Rattle.layout.specs.declared.kind.UnknownNumber.{UnknownNumber}

-- a record's kind
abbrev pub kind_number : Kind → ℕ
kind_number Ident = 0
kind_number Punct = 1
kind_number Literal = 2
kind_number Group = 3

-- the sub of a literal
abbrev pub literal_number : LiteralKind → ℕ
literal_number String = 0
literal_number ByteString = 1
literal_number CString = 2
literal_number Byte = 3
literal_number Char = 4
literal_number Integer = 5
literal_number Float = 6
literal_number Other = 7

-- the sub of a group
abbrev pub delimiter_number : Delimiter → ℕ
delimiter_number Parenthesis = 0
delimiter_number Brace = 1
delimiter_number Bracket = 2
delimiter_number Invisible = 3

-- what a number stands for, or that it stands for nothing
abbrev pub KindOf : ℕ → Result Kind UnknownNumber → Type 0
KindOf n r = MatchResult r (λ k. kind_number k ≡ n) (λ e. (e.0 ≡ n) × (3 < n))

abbrev pub LiteralKindOf : ℕ → Result LiteralKind UnknownNumber → Type 0
LiteralKindOf n r = MatchResult r (λ k. literal_number k ≡ n) (λ e. (e.0 ≡ n) × (7 < n))

abbrev pub DelimiterOf : ℕ → Result Delimiter UnknownNumber → Type 0
DelimiterOf n r = MatchResult r (λ d. delimiter_number d ≡ n) (λ e. (e.0 ≡ n) × (3 < n))
