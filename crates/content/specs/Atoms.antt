-- Words of one token, and of a `-` and a number: they are what is read, each with one reading. Assumes nothing.
use Rattle.std.specs.Prelude.{◌≡◌, ℕ, ◌^◌, ◌≤◌, Bool, pos, neg_ℤ, Some, None, Ok, Option, nat_le, refl}
use Rattle.std.proofs.Common.{sym, ap, ◌∙◌, arith}
use mathlib.Core.List.{is_set}
use mathlib.Core.HLevel.{Π_prop, is_prop→PathP}
use base.Stored.{Coded-set}
use Rattle.std.proofs.Math.Bridge.{le_prop}
use Rattle.std.proofs.Math.Nat.{ℕ_set}
use Rattle.std.proofs.lemmas.Bool.{leb-true, le-leb, cond_both}
use Rattle.layout.specs.Rules.{Parts}
use Rattle.sheet.specs.contracts.token.Integer as integer_type
use Rattle.sheet.specs.declared.token.Integer.{Integer}
use Rattle.sheet.specs.declared.token.Part.{Part}
use Rattle.sheet.specs.declared.token.Literal.{Literal}
use Rattle.sheet.specs.declared.token.Literal.TheVariants as literals
use Rattle.sheet.specs.declared.token.Token.{Token}
use Rattle.sheet.specs.declared.token.Token.TheVariants as tokens
use Rattle.sheet.specs.Tokens.{bytes_of}
use Rattle.token_de.specs.Steps.{◌then◌}
use Rattle.scalar.specs.Bools.{truth as spelled, spelling}
use Rattle.scalar.specs.Spellings.{spells, spelt}
use Rattle.content.specs.contracts.datum.Datum as datum_type
use Rattle.content.specs.declared.datum.Datum.{Datum}
use Rattle.content.specs.declared.datum.Datum.TheVariants as datum
use Rattle.content.specs.Bodies.{Reads}
use Rattle.content.specs.Contents.{taken, named, integer_value, literal_value, negated_integer, negated, from_token}
use Rattle.content.specs.Trees.{Plain, Negated, truth, name, string, char, integer, float, negative_integer, negative_float}
use Rattle.content.specs.Steps.{Oks}

pub datum_set : IsSet Datum
datum_set = Coded-set (datum_type.the_row).coded

integer_set : IsSet Integer
integer_set = Coded-set (integer_type.the_row).coded

with_magnitude : Option ℕ → Integer
with_magnitude o = record { magnitude = o; bits = 0 }

magnitude_set : IsSet (Option ℕ)
unfolding with_magnitude
magnitude_set a b p q = ap (ap (λ (i : Integer). i.magnitude)) (integer_set (with_magnitude a) (with_magnitude b) (ap with_magnitude p) (ap with_magnitude q))

no_proof : IsProp ⊥
no_proof x = absurd x

module _ (h : Parts) where
  named_sound : (k : Part) (o : Option Bool) → spelled (bytes_of h.names k) ≡ o → Plain h (named o k) (tokens.Ident k)
  named_sound k (Some b) is = truth b (spells (bytes_of h.names k) b is) refl
  named_sound k None is = name (λ (b : Bool) (same : bytes_of h.names k ≡ spelling b). let e : spelled (bytes_of h.names k) ≡ Some b = ap spelled same ∙ spelt b in let z : ◌≡◌ {A = ℕ} 0 1 = cc in omega arith) refl

  pub name_sound : (k : Part) → Plain h (named (spelled (bytes_of h.names k)) k) (tokens.Ident k)
  name_sound k = named_sound k (spelled (bytes_of h.names k)) refl

  integer_sound : (i : Integer) (p : ℕ) (o : Option ℕ) → i.magnitude ≡ o → Oks (λ v. Plain h v (tokens.Literal (literals.Integer i))) (integer_value o p)
  integer_sound i p (Some n) is = integer n is refl
  integer_sound i p None is = tt

  pub literal_sound : (l : Literal) (p : ℕ) → Oks (λ v. Plain h v (tokens.Literal l)) (literal_value l p)
  literal_sound (literals.Char c) p = char refl
  literal_sound (literals.Integer i) p = integer_sound i p i.magnitude refl
  literal_sound (literals.Float b) p = float refl
  literal_sound literals.ByteString p = tt
  literal_sound literals.CString p = tt
  literal_sound literals.Byte p = tt
  literal_sound literals.Other p = tt

  pub plain_complete : (m : Reads Datum) (p e : ℕ) (v : Datum) (t : Token) → Plain h v t → from_token h m p e t ≡ taken 1 v
  plain_complete m p e v t (truth {k} b same is_v) = ap (λ (o : Option Bool). taken 1 (named o k)) (ap spelled same ∙ spelt b) ∙ ap (λ (x : Datum). taken 1 x) (sym is_v)
  plain_complete m p e v t (name {k} other is_v) = go (spelled (bytes_of h.names k)) refl
    where
      go : (o : Option Bool) → spelled (bytes_of h.names k) ≡ o → taken 1 (named o k) ≡ taken 1 v
      go (Some b) is = absurd (other b (spells (bytes_of h.names k) b is))
      go None is = ap (λ (x : Datum). taken 1 x) (sym is_v)
  plain_complete m p e v t (string is_v) = ap (λ (x : Datum). taken 1 x) (sym is_v)
  plain_complete m p e v t (char is_v) = ap (λ (x : Datum). taken 1 x) (sym is_v)
  plain_complete m p e v t (integer n is is_v) = ap (λ (o : Option ℕ). integer_value o p then (λ x. taken 1 x)) is ∙ ap (λ (x : Datum). taken 1 x) (sym is_v)
  plain_complete m p e v t (float is_v) = ap (λ (x : Datum). taken 1 x) (sym is_v)

  pub plain_one : (v : Datum) (t : Token) → IsProp (Plain h v t)
  plain_one v t (truth {k} b same is_v) (truth b' same' is_v') =
      let bb : b ≡ b' = cc in
      λ i. truth (bb i) (is_prop→PathP (λ i. bytes_of h.names k ≡ spelling (bb i)) (λ i. is_set ℕ_set _ _) same same' i) (is_prop→PathP (λ i. v ≡ datum.Bool (bb i)) (λ i. datum_set _ _) is_v is_v' i)
  plain_one v t (truth b same is_v) (name other is_v') = absurd (other b same)
  plain_one v t (name other is_v) (truth b same is_v') = absurd (other b same)
  plain_one v t (name other is_v) (name other' is_v') = λ i. name (Π_prop (λ _. Π_prop (λ _. no_proof)) other other' i) (datum_set _ _ is_v is_v' i)
  plain_one v t (string a) (string b) = λ i. string (datum_set _ _ a b i)
  plain_one v t (char a) (char b) = λ i. char (datum_set _ _ a b i)
  plain_one v t (integer {i = k} n is a) (integer n' is' a') =
      let nn : n ≡ n' = cc in
      λ i. integer (nn i) (is_prop→PathP (λ i. k.magnitude ≡ Some (nn i)) (λ i. magnitude_set _ _) is is' i) (is_prop→PathP (λ i. v ≡ datum.Unsigned (nn i)) (λ i. datum_set _ _) a a' i)
  plain_one v t (float a) (float b) = λ i. float (datum_set _ _ a b i)

negated_integer_sound : (i : Integer) (p : ℕ) (o : Option ℕ) → i.magnitude ≡ o → Oks (λ v. Negated v (tokens.Literal (literals.Integer i))) (negated_integer o p)
negated_integer_sound i p (Some n) is = cond_both (nat_le n (2 ^ 63)) _ _ (Oks (λ v. Negated v (tokens.Literal (literals.Integer i)))) (λ le. negative_integer n is (leb-true n (2 ^ 63) le) refl) (λ _. tt)
negated_integer_sound i p None is = tt

pub negated_sound : (t : Token) (p : ℕ) → Oks (λ v. Negated v t) (negated t p)
negated_sound (tokens.Literal (literals.Integer i)) p = negated_integer_sound i p i.magnitude refl
negated_sound (tokens.Literal (literals.Float b)) p = negative_float refl
negated_sound (tokens.Literal (literals.Char c)) p = tt
negated_sound (tokens.Literal literals.ByteString) p = tt
negated_sound (tokens.Literal literals.CString) p = tt
negated_sound (tokens.Literal literals.Byte) p = tt
negated_sound (tokens.Literal literals.Other) p = tt
negated_sound (tokens.Ident k) p = tt
negated_sound (tokens.String k) p = tt
negated_sound (tokens.Punct k) p = tt
negated_sound (tokens.Group g) p = tt

pub negated_complete : (p : ℕ) (v : Datum) (t : Token) → Negated v t → negated t p ≡ Ok v
negated_complete p v t (negative_integer n is small is_v) = ap (λ (o : Option ℕ). negated_integer o p) is ∙ rw (le-leb n (2 ^ 63) small) (ap (λ (x : Datum). Ok x) (sym is_v))
negated_complete p v t (negative_float is_v) = ap (λ (x : Datum). Ok x) (sym is_v)

pub negated_one : (v : Datum) (t : Token) → IsProp (Negated v t)
negated_one v t (negative_integer {i = k} n is small a) (negative_integer n' is' small' a') =
    let mm : Some n ≡ Some n' = sym is ∙ is' in
    let nn : n ≡ n' = cc in
    λ i. negative_integer (nn i) (is_prop→PathP (λ i. k.magnitude ≡ Some (nn i)) (λ i. magnitude_set _ _) is is' i)
    (is_prop→PathP (λ i. nn i ≤ 2 ^ 63) (λ i. le_prop) small small' i)
    (is_prop→PathP (λ i. v ≡ datum.Signed (neg_ℤ (pos (nn i)))) (λ i. datum_set _ _) a a' i)
negated_one v t (negative_float a) (negative_float b) = λ i. negative_float (datum_set _ _ a b i)
