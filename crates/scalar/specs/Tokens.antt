-- Words that name the token at one place. Assumes nothing.
use Rattle.std.specs.Prelude.{◌≡◌, ℕ, Some, Option}
use Rattle.std.proofs.Common.{sym, ap, ◌∙◌}
use Rattle.sheet.specs.declared.token.Literal.TheVariants as literals
use Rattle.sheet.specs.declared.token.Token.{Token}
use Rattle.sheet.specs.declared.token.Token.TheVariants as tokens
use Rattle.token_de.proofs.Trees.{token_set, joined}
use Rattle.scalar.specs.Floats.{bits_of}
use Rattle.scalar.specs.Integers.{magnitude_of, integer}

-- what makes up a token is fixed by the token
pub token_one : {A : Type 0} (C : A → Token) → ((x y : A) → C x ≡ C y → x ≡ y) → (P : A → Type 0) → ((x : A) → IsProp (P x)) → (t : Token) → IsProp ((a : A) × (t ≡ C a) × P a)
token_one C same P one t x y =
    let e = same x.0 y.0 (sym x.1 ∙ y.1) in
    λ n. (e n, joined (λ n. t ≡ C (e n)) (token_set _ _) x.1 y.1 n, joined (λ n. P (e n)) (one _) x.2 y.2 n)

-- a token with a magnitude is an integer literal
pub integer_of : (t : Token) (m : ℕ) → magnitude_of t ≡ Some m → (bits : ℕ) × (t ≡ integer m bits)
integer_of (tokens.Literal (literals.Integer i)) m is = (i.bits, ap (λ (o : Option ℕ). tokens.Literal (literals.Integer (record { magnitude = o; bits = i.bits }))) is)
integer_of _ m is = absurd (cc)

-- an integer literal fixes its magnitude and its bits
pub integer_same : (x y : ℕ × ℕ) → integer x.0 x.1 ≡ integer y.0 y.1 → x ≡ y
integer_same x y e =
    let magnitudes : Some x.0 ≡ Some y.0 = ap magnitude_of e in
    let bits : Some x.1 ≡ Some y.1 = ap bits_of e in
    let first : x.0 ≡ y.0 = cc in
    let second : x.1 ≡ y.1 = cc in
    λ n. (first n, second n)

pub integer_bits : (m x y : ℕ) → integer m x ≡ integer m y → x ≡ y
integer_bits m x y e = ap (λ (n : ℕ × ℕ). n.1) (integer_same (m, x) (m, y) e)
