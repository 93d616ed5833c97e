-- How much a read of content takes, and which records its refusals name. Assumes nothing.
use Rattle.std.specs.Prelude.{◌≡◌, ℕ, zero, suc, ◌+◌, ◌-◌, ◌^◌, ◌<◌, ◌≤◌, Bool, true, false, cond, ◌&&◌, length, Some, None, Ok, Err, Option, ◌==◌, nat_le, nat_lt}
use Rattle.std.proofs.Math.Path.{refl}
use Rattle.std.proofs.Common.{sym, ap, subst, ◌∙◌, arith}
use Rattle.std.proofs.lemmas.Bool.{and_parts, lt-ltb, le-ltb, ltb-true, eqb-false, cond_both}
use Rattle.layout.specs.Rules.{Parts, limits, Kept}
use Rattle.layout.specs.declared.kind.Delimiter.{Delimiter}
use Rattle.layout.specs.declared.kind.Delimiter.TheVariants.{Parenthesis, Brace, Bracket, Invisible}
use Rattle.sheet.specs.declared.token.Literal.{Literal}
use Rattle.sheet.specs.declared.token.Literal.TheVariants as literals
use Rattle.sheet.specs.declared.token.Token.{Token}
use Rattle.sheet.specs.declared.token.Token.TheVariants as tokens
use Rattle.sheet.specs.declared.token.Part.{Part}
use Rattle.sheet.specs.Tokens.{token, bytes_of}
use Rattle.sheet.specs.Spots.{Passed}
use Rattle.token_de.specs.declared.seed.Taken.{Taken}
use Rattle.token_de.specs.declared.fault.Fault.{Fault}
use Rattle.token_de.specs.declared.fault.Fault.TheVariants.{Wrong}
use Rattle.token_de.specs.declared.fault.Wanted.TheVariants as wanted
use Rattle.token_de.specs.Meaning.{Answer, Proper, Lawful}
use Rattle.token_de.specs.Steps.{◌then◌}
use Rattle.token_de.proofs.Trees.{run_inside, passed_inside}
use Rattle.scalar.specs.Bools.{truth, bool_of}
use Rattle.content.specs.declared.datum.Datum.{Datum}
use Rattle.content.specs.Levels.{Levels}
use Rattle.content.specs.Bodies.{Reads, is, passed, after, equals, items, body, entry}
use Rattle.content.specs.Contents.{content, from_token, from_group, negated, negated_integer, literal_value, integer_value, alone, named, taken, none_left}
use Rattle.content.specs.Turns.{equals_at}
use Rattle.content.specs.Depths.{body_inside}

-- P of what an answer is, and Q of its fault
abbrev pub Oks : {X : Type 0} → (X → Type 0) → Answer X → Type 0
Oks P (Ok x) = P x
Oks P (Err f) = Unit {0}

abbrev pub Errs : {X : Type 0} → (Fault → Type 0) → Answer X → Type 0
Errs Q (Ok x) = Unit {0}
Errs Q (Err f) = Q f

pub oks_map : {X : Type 0} (P Q : X → Type 0) → ((x : X) → P x → Q x) → (r : Answer X) → Oks P r → Oks Q r
oks_map P Q f (Ok x) o = f x o
oks_map P Q f (Err e) o = tt

pub then_oks : {X Y : Type 0} (P : Y → Type 0) (r : Answer X) (f : X → Answer Y) → ((x : X) → r ≡ Ok x → Oks P (f x)) → Oks P (r then f)
then_oks P (Ok x) f each = each x refl
then_oks P (Err e) f each = tt

then_errs : {X Y : Type 0} (Q : Fault → Type 0) (r : Answer X) (f : X → Answer Y) → Errs Q r → ((x : X) → r ≡ Ok x → Errs Q (f x)) → Errs Q (r then f)
then_errs Q (Ok x) f here each = each x refl
then_errs Q (Err e) f here each = here

-- what is taken lies in the run
abbrev pub In : {V : Type 0} → ℕ → ℕ → Taken V → Type 0
In p e t = (0 < t.count) × (p + t.count ≤ e)

pub content_end : (n : ℕ) (h : Parts) (p e : ℕ) (last : Option ℕ) → e ≤ p → content n h p e last ≡ none_left last
unfolding content
content_end zero h p e last le = refl
content_end (suc n) h p e last le = rw (le-ltb p e le)

pub content_at : (n : ℕ) (h : Parts) (p e : ℕ) (last : Option ℕ) → Levels n h p e → p < e → (t : Token) → t ≡ token h p → content n h p e last ≡ from_token h (content (n - 1) h) p e t
unfolding content Levels
content_at zero h p e last l lt t is = absurd (omega arith)
content_at (suc n) h p e last l lt t is = let z : suc n - 1 ≡ n = omega arith in rw (lt-ltb p e lt, z, is)

-- one token's value, as the code makes it
pub one_is : (t : Taken Datum) (v : Datum) → t ≡ record { count = 1; value = v } → Ok t ≡ taken 1 v
one_is t v is = ap (λ (x : Taken Datum). Ok x) is

pub name_is : (h : Parts) (p : ℕ) (k : Part) (o : Option Bool) (v : Datum) (t : Taken Datum) → t ≡ record { count = 1; value = v } → v ≡ named o k → o ≡ bool_of h (token h p) → tokens.Ident k ≡ token h p →
    Ok t ≡ taken 1 (named (truth (bytes_of h.names k)) k)
name_is h p k o v t is_t is_v is_o is = one_is t v is_t ∙ ap (λ (x : Datum). taken 1 x) (is_v ∙ ap (λ (x : Option Bool). named x k) (is_o ∙ ap (bool_of h) (sym is)))

abbrev pub literal_then : Answer Datum → Answer (Taken Datum)
literal_then r = r then (λ v. taken 1 v)

-- where a token is left, it does not matter what was passed before
pub content_any : (n : ℕ) (h : Parts) (p e : ℕ) → Levels n h p e → p < e → (last before : Option ℕ) → content n h p e last ≡ content n h p e before
content_any n h p e l lt last before = content_at n h p e last l lt (token h p) refl ∙ sym (content_at n h p e before l lt (token h p) refl)

-- HOW MUCH IS TAKEN
counts : {X V : Type 0} (p e n : ℕ) (f : X → V) → 0 < n → p + n ≤ e → (r : Answer X) → Oks {X = Taken V} (In p e) (r then (λ x. taken n (f x)))
counts p e n f some le r = then_oks (In p e) r (λ x. taken n (f x)) (λ x _. (some, le))

alone_within : (p e first count : ℕ) → p < e → (t : Taken Datum) → Oks (In p e) (alone first count t)
alone_within p e first count lt t = cond_both (t.count == count) _ _ (Oks (In p e)) (λ _. (omega arith, omega arith)) (λ _. tt)

group_within : (h : Parts) (m : Reads Datum) (p e first count : ℕ) (d : Delimiter) → p < e → Oks (In p e) (from_group h m p first count d)
group_within h m p e first count Parenthesis lt = cond_both (count == 0) _ _ (Oks (In p e)) (λ _. (omega arith, omega arith)) (λ _. then_oks (In p e) (body h m first (first + count)) _ (λ _ _. (omega arith, omega arith)))
group_within h m p e first count Bracket lt = then_oks (In p e) (body h m first (first + count)) _ (λ _ _. (omega arith, omega arith))
group_within h m p e first count Brace lt = then_oks (In p e) (body h (entry h m m) first (first + count)) _ (λ _ _. (omega arith, omega arith))
group_within h m p e first count Invisible lt = cond_both (count == 0) _ _ (Oks (In p e)) (λ _. tt) (λ _. then_oks (In p e) (m first (first + count) None) _ (λ t _. alone_within p e first count lt t))

token_within : (h : Parts) (m : Reads Datum) (p e : ℕ) (t : Token) → p < e → Oks (In p e) (from_token h m p e t)
token_within h m p e (tokens.Ident k) lt = (omega arith, omega arith)
token_within h m p e (tokens.String k) lt = (omega arith, omega arith)
token_within h m p e (tokens.Punct k) lt =
    cond_both (k.code == 45 && nat_lt (p + 1) e) _ _ (Oks (In p e))
    (λ both. counts p e 2 (λ v. v) (omega arith) (omega (arith, ltb-true (p + 1) e (and_parts (k.code == 45) (nat_lt (p + 1) e) both).1)) (negated (token h (p + 1)) p))
    (λ _. tt)
token_within h m p e (tokens.Literal l) lt = counts p e 1 (λ v. v) (omega arith) (omega arith) (literal_value l p)
token_within h m p e (tokens.Group g) lt = group_within h m p e g.first g.count g.delimiter lt

pub content_within : (n : ℕ) (h : Parts) (p e : ℕ) (last : Option ℕ) → Oks (In p e) (content n h p e last)
unfolding content
content_within zero h p e last = tt
content_within (suc n) h p e last = cond_both (nat_lt p e) _ _ (Oks (In p e)) (λ lt. token_within h (content n h) p e (token h p) (ltb-true p e lt)) (λ _. tt)

pub content_in : (n : ℕ) (h : Parts) (p e : ℕ) (last : Option ℕ) (t : Taken Datum) → content n h p e last ≡ Ok t → (0 < t.count) × (p + t.count ≤ e)
content_in n h p e last t is = subst (Oks (In p e)) is (content_within n h p e last)

-- THE SAME FROM EVERY RUN THAT BEGINS WITH WHAT IS TAKEN
two : (r : Answer Datum) (u : Taken Datum) → r then (λ v. taken 2 v) ≡ Ok u → u.count ≡ 2
two (Ok v) u is = let same : ◌≡◌ {A = Taken Datum} (record { count = 2; value = v }) u = cc in sym (ap (λ (t : Taken Datum). t.count) same)
two (Err x) u is = absurd (let z : ◌≡◌ {A = ℕ} 0 1 = cc in omega arith)

token_stable : (h : Parts) (m : Reads Datum) (p e f : ℕ) (t : Token) (u : Taken Datum) → p + u.count ≤ f → from_token h m p e t ≡ Ok u → from_token h m p f t ≡ Ok u
token_stable h m p e f (tokens.Ident k) u within is = is
token_stable h m p e f (tokens.String k) u within is = is
token_stable h m p e f (tokens.Literal l) u within is = is
token_stable h m p e f (tokens.Group g) u within is = is
token_stable h m p e f (tokens.Punct k) u within is = go (k.code == 45) (nat_lt (p + 1) e) is
  where
    go : (a b : Bool) → cond (a && b) (negated (token h (p + 1)) p then (λ v. taken 2 v)) (Err (Wrong wanted.Content p)) ≡ Ok u → cond (a && nat_lt (p + 1) f) (negated (token h (p + 1)) p then (λ v. taken 2 v)) (Err (Wrong wanted.Content p)) ≡ Ok u
    go true true is = let n = two (negated (token h (p + 1)) p) u is in rw (lt-ltb (p + 1) f (omega arith)) is
    go true false is = absurd (let z : ◌≡◌ {A = ℕ} 0 1 = cc in omega arith)
    go false b is = absurd (let z : ◌≡◌ {A = ℕ} 0 1 = cc in omega arith)

-- where something is taken there is a token
pub content_first : (n : ℕ) (h : Parts) (p e : ℕ) (last : Option ℕ) (u : Taken Datum) → content (suc n) h p e last ≡ Ok u → (p < e) × (from_token h (content n h) p e (token h p) ≡ Ok u)
unfolding content
content_first n h p e last u is = go (nat_lt p e) refl is
  where
    go : (b : Bool) → nat_lt p e ≡ b → cond b (from_token h (content n h) p e (token h p)) (none_left last) ≡ Ok u → (p < e) × (from_token h (content n h) p e (token h p) ≡ Ok u)
    go true lt is = (ltb-true p e lt, is)
    go false lt is = absurd (let z : ◌≡◌ {A = ℕ} 0 1 = cc in omega arith)

content_stable : (n : ℕ) (h : Parts) (p e f : ℕ) (last before : Option ℕ) (u : Taken Datum) → p + u.count ≤ f → content n h p e last ≡ Ok u → content n h p f before ≡ Ok u
unfolding content
content_stable zero h p e f last before u within is = absurd (let z : ◌≡◌ {A = ℕ} 0 1 = cc in omega arith)
content_stable (suc n) h p e f last before u within is =
    let first = content_first n h p e last u is in
    let some = content_in (suc n) h p e last u is in
    let lt : p < f = omega (arith, some) in
    rw (lt-ltb p f lt) (token_stable h (content n h) p e f (token h p) u within first.1)

-- WHICH RECORDS REFUSALS NAME
module _ (h : Parts) (k : Kept limits h) where
  integer_proper : (o : Option ℕ) (p : ℕ) → p < length h.records → Errs (Proper h) (integer_value o p)
  integer_proper (Some n) p lt = tt
  integer_proper None p lt = record { inside = lt; ranged = tt }

  literal_proper : (l : Literal) (p : ℕ) → p < length h.records → Errs (Proper h) (literal_value l p)
  literal_proper (literals.Char c) p lt = tt
  literal_proper (literals.Integer i) p lt = integer_proper i.magnitude p lt
  literal_proper (literals.Float b) p lt = tt
  literal_proper literals.ByteString p lt = record { inside = lt; ranged = tt }
  literal_proper literals.CString p lt = record { inside = lt; ranged = tt }
  literal_proper literals.Byte p lt = record { inside = lt; ranged = tt }
  literal_proper literals.Other p lt = record { inside = lt; ranged = tt }

  minus_proper : (o : Option ℕ) (p : ℕ) → p < length h.records → Errs (Proper h) (negated_integer o p)
  minus_proper (Some n) p lt = cond_both (nat_le n (2 ^ 63)) _ _ (Errs (Proper h)) (λ _. tt) (λ _. record { inside = lt; ranged = tt })
  minus_proper None p lt = record { inside = lt; ranged = tt }

  negated_proper : (t : Token) (p : ℕ) → p < length h.records → Errs (Proper h) (negated t p)
  negated_proper (tokens.Literal (literals.Integer i)) p lt = minus_proper i.magnitude p lt
  negated_proper (tokens.Literal (literals.Float b)) p lt = tt
  negated_proper (tokens.Literal (literals.Char c)) p lt = record { inside = lt; ranged = tt }
  negated_proper (tokens.Literal literals.ByteString) p lt = record { inside = lt; ranged = tt }
  negated_proper (tokens.Literal literals.CString) p lt = record { inside = lt; ranged = tt }
  negated_proper (tokens.Literal literals.Byte) p lt = record { inside = lt; ranged = tt }
  negated_proper (tokens.Literal literals.Other) p lt = record { inside = lt; ranged = tt }
  negated_proper (tokens.Ident i) p lt = record { inside = lt; ranged = tt }
  negated_proper (tokens.String i) p lt = record { inside = lt; ranged = tt }
  negated_proper (tokens.Punct i) p lt = record { inside = lt; ranged = tt }
  negated_proper (tokens.Group g) p lt = record { inside = lt; ranged = tt }

  passed_fits : (first p : ℕ) → p < length h.records → Passed h (passed first p)
  passed_fits first p lt = cond_both (nat_lt first p) _ _ (Passed h) (λ l. omega (arith, ltb-true first p l)) (λ _. tt)

  after_proper : (q e : ℕ) → e ≤ length h.records → Errs (Proper h) (after h q e)
  after_proper q e le = cond_both (nat_lt q e) _ _ (Errs (Proper h))
      (λ lt. cond_both (is 44 (token h q)) _ _ (Errs (Proper h)) (λ _. tt) (λ _. record { inside = omega (arith, ltb-true q e lt); ranged = tt }))
      (λ _. tt)

  equals_proper : (p q e : ℕ) → p < length h.records → e ≤ length h.records → Errs (Proper h) (equals h p q e)
  equals_proper p q e in_range le = cond_both (nat_lt q e) _ _ (Errs (Proper h))
      (λ lt. cond_both (is 61 (token h q)) _ _ (Errs (Proper h)) (λ _. tt) (λ _. record { inside = omega (arith, ltb-true q e lt); ranged = tt }))
      (λ _. record { inside = in_range; ranged = tt })

  module _ {V : Type 0} (m : Reads V) (first e : ℕ) (le : e ≤ length h.records)
      (m_in : (p : ℕ) (last : Option ℕ) (t : Taken V) → m p e last ≡ Ok t → (0 < t.count) × (p + t.count ≤ e))
      (m_proper : (p : ℕ) (last : Option ℕ) → p < e → Passed h last → Errs (Proper h) (m p e last)) where
    items_proper : (j p n : ℕ) → Errs (Proper h) (items h m j first p e n)
    items_proper zero p n = tt
    items_proper (suc j) p n = go (λ q. items_proper j q (n + 1))
      where
        go : ((q : ℕ) → Errs (Proper h) (items h m j first q e (n + 1))) → Errs (Proper h) (items h m (suc j) first p e n)
        go rest = cond_both (nat_lt p e) _ _ (Errs (Proper h))
            (λ lt. then_errs (Proper h) (m p e (passed first p)) _ (m_proper p (passed first p) (ltb-true p e lt) (passed_fits first p (omega (arith, ltb-true p e lt))))
            (λ t _. then_errs (Proper h) (after h (p + t.count) e) _ (after_proper (p + t.count) e le) (λ q _. rest q)))
            (λ _. tt)

    body_proper : Errs (Proper h) (body h m first e)
    body_proper = items_proper (e - first) first 0

  -- m are the reads of content one level down
  module _ (m : Reads Datum)
      (m_in : (p e : ℕ) (last : Option ℕ) (t : Taken Datum) → m p e last ≡ Ok t → (0 < t.count) × (p + t.count ≤ e))
      (m_proper : (p e : ℕ) (last : Option ℕ) → e ≤ length h.records → Passed h last → Errs (Proper h) (m p e last)) where
    entry_proper : (p e : ℕ) (last : Option ℕ) → e ≤ length h.records → p < e → Passed h last → Errs (Proper h) (entry h m m p e last)
    entry_proper p e last le lt ok = then_errs (Proper h) (m p e last) _ (m_proper p e last le ok)
        (λ t _. then_errs (Proper h) (equals h p (p + t.count) e) _ (equals_proper p (p + t.count) e (omega arith) le)
        (λ q at. then_errs (Proper h) (m (q + 1) e (Some q)) _ (m_proper (q + 1) e (Some q) le (omega (arith, (equals_at h p (p + t.count) e q at).1))) (λ _ _. tt)))

    entry_in : (p e : ℕ) (last : Option ℕ) (t : Taken (Datum × Datum)) → entry h m m p e last ≡ Ok t → (0 < t.count) × (p + t.count ≤ e)
    entry_in p e last t is = subst (Oks (In p e)) is
        (then_oks (In p e) (m p e last) _ (λ a _. then_oks (In p e) (equals h p (p + a.count) e) _
        (λ q at. then_oks (In p e) (m (q + 1) e (Some q)) _ (λ u word. let s = equals_at h p (p + a.count) e q at in let w = m_in (q + 1) e (Some q) u word in (omega arith, omega (arith, s.0, w.1))))))

    alone_proper : (first count : ℕ) → first + count ≤ length h.records → (t : Taken Datum) → m first (first + count) None ≡ Ok t → Errs (Proper h) (alone first count t)
    alone_proper first count le t is = go (t.count == count) refl
      where
        go : (b : Bool) → (t.count == count) ≡ b → Errs (Proper h) (alone first count t)
        go true e = rw e tt
        go false e = let ne = eqb-false t.count count e in rw e (record { inside = omega (arith, (m_in first (first + count) None t is).1, ne); ranged = tt })

    list_proper : (first e : ℕ) → e ≤ length h.records → Errs (Proper h) (body h m first e)
    list_proper first e le = body_proper m first e le (λ p. m_in p e) (λ p last _. m_proper p e last le)

    group_proper : (p first count : ℕ) (d : Delimiter) → p < length h.records → first + count ≤ length h.records → Errs (Proper h) (from_group h m p first count d)
    group_proper p first count Parenthesis lt le = cond_both (count == 0) _ _ (Errs (Proper h)) (λ _. tt) (λ _. then_errs (Proper h) (body h m first (first + count)) _ (list_proper first (first + count) le) (λ _ _. tt))
    group_proper p first count Bracket lt le = then_errs (Proper h) (body h m first (first + count)) _ (list_proper first (first + count) le) (λ _ _. tt)
    group_proper p first count Brace lt le = then_errs (Proper h) (body h (entry h m m) first (first + count)) _ (body_proper (entry h m m) first (first + count) le (λ p. entry_in p (first + count)) (λ p last. entry_proper p (first + count) last le)) (λ _ _. tt)
    group_proper p first count Invisible lt le = cond_both (count == 0) _ _ (Errs (Proper h)) (λ _. record { inside = lt; ranged = tt }) (λ _. then_errs (Proper h) (m first (first + count) None) _ (m_proper first (first + count) None le tt) (alone_proper first count le))

    token_proper : (p e : ℕ) (t : Token) → t ≡ token h p → p < length h.records → Errs (Proper h) (from_token h m p e t)
    token_proper p e (tokens.Ident i) is lt = tt
    token_proper p e (tokens.String i) is lt = tt
    token_proper p e (tokens.Punct i) is lt = cond_both (i.code == 45 && nat_lt (p + 1) e) _ _ (Errs (Proper h)) (λ _. then_errs (Proper h) (negated (token h (p + 1)) p) _ (negated_proper (token h (p + 1)) p lt) (λ _ _. tt)) (λ _. record { inside = lt; ranged = tt })
    token_proper p e (tokens.Literal l) is lt = then_errs (Proper h) (literal_value l p) _ (literal_proper l p lt) (λ _ _. tt)
    token_proper p e (tokens.Group g) is lt = group_proper p g.first g.count g.delimiter lt (body_inside h k p g lt is).1

  content_proper : (n p e : ℕ) (last : Option ℕ) → e ≤ length h.records → Passed h last → Errs (Proper h) (content n h p e last)
  unfolding content
  content_proper zero p e last le ok = record { inside = passed_inside h last k ok; ranged = tt }
  content_proper (suc n) p e last le ok = go (content_proper n)
    where
      go : ((p e : ℕ) (last : Option ℕ) → e ≤ length h.records → Passed h last → Errs (Proper h) (content n h p e last)) → Errs (Proper h) (content (suc n) h p e last)
      go below = cond_both (nat_lt p e) _ _ (Errs (Proper h))
          (λ lt. token_proper (content n h) (content_in n h) below p e (token h p) refl (omega (arith, ltb-true p e lt)))
          (λ _. record { inside = passed_inside h last k ok; ranged = tt })

pub content_lawful : (n : ℕ) → Lawful (content n)
content_lawful n = record {
  within = λ h p e last t k run is. content_in n h p e last t is;
  stable = λ h p e f last before t k run other within is. content_stable n h p e f last before t within is;
  refuses = λ h p e last f k run ok is. subst (Errs (Proper h)) is (content_proper h k n p e last (run_inside h p e k run) ok);
}
