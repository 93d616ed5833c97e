-- Numerals, alone or behind a `-`. Assumes nothing.
use Rattle.std.specs.Prelude.{◌≡◌, ℕ, ◌+◌, ◌-◌, ◌<◌, ◌≤◌, Bool, true, false, cond, ◌⊎◌, length, Some, None, Ok, Err, Option}
use Rattle.std.proofs.Common.{sym, subst, ◌∙◌, inl, inr, ⊎_elim, arith}
use Rattle.std.proofs.Math.Path.{ap}
use Rattle.std.proofs.Math.Nat.{ℕ_set}
use Rattle.std.proofs.lemmas.Bool.{cases_lt, cases_Bool, eqb-true}
use Rattle.std.proofs.lemmas.Bool.Decides.{nat_tests}
use Rattle.std.specs.Option.{unwrap_or, ok_or}
use Rattle.layout.specs.Rules.{Parts}
use Rattle.sheet.specs.declared.token.Token.{Token}
use Rattle.sheet.specs.declared.token.Token.TheVariants as tokens
use Rattle.sheet.specs.Tokens.{token}
use Rattle.token_de.specs.declared.seed.Taken.{Taken}
use Rattle.token_de.specs.declared.fault.Fault.{Fault}
use Rattle.token_de.specs.declared.fault.Fault.TheVariants.{Wrong, Ended}
use Rattle.token_de.specs.declared.fault.Wanted.{Wanted}
use Rattle.token_de.specs.Meaning.{Answer, Proper, Lawful, Exact}
use Rattle.token_de.specs.Steps.{◌then◌}
use Rattle.token_de.proofs.Trees.{token_set, run_inside, passed_inside}
use Rattle.scalar.specs.Numbers.{minus, is_minus, behind, number_read, NumberWord}

either_prop : {A B : Type 0} → IsProp A → IsProp B → (A → B → ⊥) → IsProp (A ⊎ B)
either_prop a b apart (inl x) (inl y) = ap inl (a x y)
either_prop a b apart (inr x) (inr y) = ap inr (b x y)
either_prop a b apart (inl x) (inr y) = absurd (apart x y)
either_prop a b apart (inr x) (inl y) = absurd (apart y x)

minus_is : (t : Token) → is_minus t ≡ true → t ≡ minus
minus_is (tokens.Punct p) is = ap (λ (c : ℕ). tokens.Punct (record { code = c })) (eqb-true p.code 45 is)
minus_is _ is = absurd (cc)

module _ {V : Type 0} (wanted : Wanted) where
  -- an option's value as what was taken, or a wrong token
  abbrev or_wrong : Option V → ℕ → ℕ → Answer (Taken V)
  or_wrong o p n = ok_or o (Wrong wanted p) then (λ v. Ok (record { count = n; value = v }))

  or_ok : (o : Option V) (p n : ℕ) (t : Taken V) → or_wrong o p n ≡ Ok t → (t.count ≡ n) × (o ≡ Some t.value)
  or_ok (Some v) p n t is = (cc, cc)
  or_ok None p n t is = absurd (cc)

  or_err : (o : Option V) (p n : ℕ) (x : Fault) → or_wrong o p n ≡ Err x → Wrong wanted p ≡ x
  or_err (Some v) p n x is = absurd (cc)
  or_err None p n x is = cc

module _ {V : Type 0} (wanted : Wanted) (worth : Bool → Token → Option V) (h : Parts) (p e : ℕ) where
  -- a numeral behind a `-`
  behind_left : p < e → e ≤ length h.records → behind worth h p e ≡ worth true (token h p)
  behind_left lt inside = grind (arith, nat_tests)

  behind_some : (v : V) → e ≤ length h.records → behind worth h p e ≡ Some v → (p < e) × (worth true (token h p) ≡ Some v)
  behind_some v inside is = (grind (arith, nat_tests), grind (arith, nat_tests))

module _ {V : Type 0} (wanted : Wanted) (worth : Bool → Token → Option V) where
  -- a numeral alone, or a `-` and a numeral
  abbrev Alone : Parts → ℕ → Taken V → Type 0
  Alone h p t = (t.count ≡ 1) × (is_minus (token h p) ≡ false) × (worth false (token h p) ≡ Some t.value)

  abbrev Negated : Parts → ℕ → ℕ → Taken V → Type 0
  Negated h p e t = (t.count ≡ 2) × (is_minus (token h p) ≡ true) × (p + 1 < e) × (worth true (token h (p + 1)) ≡ Some t.value)

  read_left : (h : Parts) (p e : ℕ) (last : Option ℕ) (b : Bool) → p < e → p < length h.records → is_minus (token h p) ≡ b →
      number_read wanted worth h p e last ≡ cond b (or_wrong wanted (behind worth h (p + 1) e) p 2) (or_wrong wanted (worth false (token h p)) p 1)
  read_left h p e last b lt in_range is = grind (arith, nat_tests)

  read_none : (h : Parts) (p e : ℕ) (last : Option ℕ) → e ≤ p → number_read wanted worth h p e last ≡ Err (Ended wanted (unwrap_or last 0))
  read_none h p e last le = grind (arith, nat_tests)

  alone_is : (h : Parts) (p e : ℕ) (last : Option ℕ) (t : Taken V) → p < e → p < length h.records → Alone h p t → number_read wanted worth h p e last ≡ Ok t
  alone_is h p e last t lt in_range a = grind (arith, nat_tests)

  negated_is : (h : Parts) (p e : ℕ) (last : Option ℕ) (t : Taken V) → e ≤ length h.records → Negated h p e t → number_read wanted worth h p e last ≡ Ok t
  negated_is h p e last t inside a = grind (arith, nat_tests)

  number_ok : (h : Parts) (p e : ℕ) (last : Option ℕ) (t : Taken V) → e ≤ length h.records → number_read wanted worth h p e last ≡ Ok t → (p < e) × (Alone h p t ⊎ Negated h p e t)
  number_ok h p e last t inside is = ⊎_elim
      (λ (lt : p < e). (
        lt,
        ⊎_elim
            (λ m. let o = or_ok wanted (behind worth h (p + 1) e) p 2 t (sym (read_left h p e last true lt (omega arith) m) ∙ is) in let b = behind_some wanted worth h (p + 1) e t.value inside o.1 in inr (o.0, m, b.0, b.1))
            (λ m. let o = or_ok wanted (worth false (token h p)) p 1 t (sym (read_left h p e last false lt (omega arith) m) ∙ is) in inl (o.0, m, o.1))
            (cases_Bool (is_minus (token h p))),
      ))
      (λ (le : e ≤ p). absurd (let n = read_none h p e last le in cc))
      (cases_lt p e)

  number_err : (h : Parts) (p e : ℕ) (last : Option ℕ) (x : Fault) → e ≤ length h.records → number_read wanted worth h p e last ≡ Err x → (Ended wanted (unwrap_or last 0) ≡ x) ⊎ ((p < length h.records) × (Wrong wanted p ≡ x))
  number_err h p e last x inside is = ⊎_elim
      (λ (lt : p < e). inr (
        omega arith,
        ⊎_elim
            (λ m. or_err wanted (behind worth h (p + 1) e) p 2 x (sym (read_left h p e last true lt (omega arith) m) ∙ is))
            (λ m. or_err wanted (worth false (token h p)) p 1 x (sym (read_left h p e last false lt (omega arith) m) ∙ is))
            (cases_Bool (is_minus (token h p))),
      ))
      (λ (le : e ≤ p). inl (let n = read_none h p e last le in cc))
      (cases_lt p e)

  pub number_lawful : Lawful (number_read wanted worth)
  number_lawful = record {
    within = λ h p e last t k run is. let o = number_ok h p e last t (run_inside h p e k run) is in ⊎_elim (λ a. omega (arith, o.0, a.0)) (λ a. omega (arith, a.0, a.2)) o.1;
    stable = λ h p e g last before t k run other le is.
        let o = number_ok h p e last t (run_inside h p e k run) is in
        ⊎_elim
        (λ a. alone_is h p g before t (omega (arith, a.0)) (omega (arith, o.0, run_inside h p e k run)) a)
        (λ a. negated_is h p g before t (run_inside h p g k other) (a.0, a.1, omega (arith, a.0), a.3))
        o.1;
    refuses = λ h p e last x k run passed is.
        ⊎_elim
        (λ none. subst (Proper h) none (record { inside = passed_inside h last k passed; ranged = tt }))
        (λ here. subst (Proper h) here.1 (record { inside = here.0; ranged = tt }))
        (number_err h p e last x (run_inside h p e k run) is);
  }

  module _ (N : Bool → Token → V → Type 0)
      (n_sound : (b : Bool) (t : Token) (v : V) → worth b t ≡ Some v → N b t v)
      (n_complete : (b : Bool) (t : Token) (v : V) → N b t v → worth b t ≡ Some v)
      (n_one : (b : Bool) (t : Token) (v : V) → IsProp (N b t v))
      (n_no_minus : (v : V) → N false minus v → ⊥) where
    no_minus : (t : Token) (v : V) → N false t v → is_minus t ≡ false
    no_minus t v n = ⊎_elim (λ m. absurd (n_no_minus v (subst (λ (x : Token). N false x v) (minus_is t m) n))) (λ m. m) (cases_Bool (is_minus t))

    pub number_exact : Exact (number_read wanted worth) (NumberWord N)
    number_exact = record {
      some = λ h p q v w. ⊎_elim (λ a. omega (arith, a.0)) (λ a. omega (arith, a.0)) w;
      sound = λ h p e last t k run is.
          let o = number_ok h p e last t (run_inside h p e k run) is in
          ⊎_elim
          (λ a. inl (ap (λ n. p + n) a.0, n_sound false (token h p) t.value a.2))
          (λ a. inr (ap (λ n. p + n) a.0, minus_is (token h p) a.1, n_sound true (token h (p + 1)) t.value a.3))
          o.1;
      complete = λ h p q e last v k run le w.
          let inside = run_inside h p e k run in
          ⊎_elim
          (λ a. alone_is h p e last (record { count = q - p; value = v }) (omega (arith, a.0)) (omega (arith, a.0)) (omega (arith, a.0), no_minus (token h p) v a.1, n_complete false (token h p) v a.1))
          (λ a. negated_is h p e last (record { count = q - p; value = v }) inside (omega (arith, a.0), ap is_minus a.1, omega (arith, a.0), n_complete true (token h (p + 1)) v a.2))
          w;
      one = λ h p q v k. either_prop (hlevel (ℕ_set, n_one)) (hlevel (ℕ_set, token_set, n_one)) (λ a b. omega (arith, a.0, b.0));
    }
