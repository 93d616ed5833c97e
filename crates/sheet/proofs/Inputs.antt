-- What is left to read of a run. Assumes nothing.
use Rattle.std.proofs.Common.{◌≡◌, ℕ, ◌+◌, ◌<◌, ◌≤◌, true, cond, ltb, length, Some, None, Option, sym, ap, ◌∙◌, ⊎_elim, arith}
use Rattle.std.proofs.lemmas.Bool.{cond-true, cond-false, lt-ltb, le-ltb, cases_lt}
use Rattle.layout.specs.Rules.{Parts, limits}
use Rattle.layout.specs.Scan.{kept}
use Rattle.sheet.specs.declared.spot.Rest.{Rest}
use Rattle.sheet.specs.declared.token.Token.{Token}
use Rattle.sheet.specs.Tokens.{token}
use Rattle.sheet.specs.Spots.{is_run}
use Rattle.sheet.specs.Trees.{if_there}
use Rattle.sheet.specs.Inputs.{at_most, first, next_token, behind, front}
use Rattle.sheet.proofs.Runs.{run_is, run_test, run_part, run_fits}

-- the next record of a rest
pub first_at : (r : Rest) (at : ℕ) → Some at ≡ first r → (at ≡ r.from) × (r.from < r.to)
first_at r at is = ⊎_elim
    (λ (lt : r.from < r.to). (some_same (is ∙ cond-true (ltb r.from r.to) (Some r.from) None (lt-ltb r.from r.to lt)), lt))
    (λ (ge : r.to ≤ r.from). absurd (let none = is ∙ cond-false (ltb r.from r.to) (Some r.from) None (le-ltb r.from r.to ge) in let z : ◌≡◌ {A = ℕ} 0 1 = cc in omega arith))
    (cases_lt r.from r.to)
  where
    some_same : {x y : ℕ} → Some x ≡ Some y → x ≡ y
    some_same e = cc

module _ (h : Parts) (r : Rest) (lawful : kept limits h ≡ true) (run : is_run h r.from r.to ≡ true) where
  -- a rest does not end before it begins
  pub rest_order : r.from ≤ r.to
  rest_order = (run_is h r.from r.to run).order

  -- and ends inside its sheet
  pub rest_fits : r.to ≤ length h.records
  rest_fits = run_fits h r.from r.to lawful (run_is h r.from r.to run)

  -- where something is left, its record is there
  pub left_is : {A : Type 0} (x : ℕ → A) (at : ℕ) → Some at ≡ first r → if_there h at (x at) ≡ cond (ltb r.from r.to) (Some (x r.from)) None
  left_is x at is =
      let f = first_at r at is in
      cond-true (ltb at (length h.records)) (Some (x at)) None (lt-ltb at (length h.records) (omega (arith, f.0, f.1, rest_fits)))
      ∙ ap (λ i. Some (x i)) f.0
      ∙ sym (cond-true (ltb r.from r.to) (Some (x r.from)) None (lt-ltb r.from r.to f.1))

  -- behind some of its trees there is again a rest
  pub behind_run : (n : ℕ) → is_run h (behind r n).from (behind r n).to ≡ true
  behind_run n =
      let is = run_is h r.from r.to run in
      run_test h (r.from + at_most r n) r.to (run_part h r.from r.to (r.from + at_most r n) r.to is (omega arith) (omega (arith, is.order)) (omega arith))

  -- and so are its first trees
  pub front_run : (n : ℕ) → is_run h (front r n).from (front r n).to ≡ true
  front_run n =
      let is = run_is h r.from r.to run in
      run_test h r.from (r.from + at_most r n) (run_part h r.from r.to r.from (r.from + at_most r n) is (omega arith) (omega arith) (omega (arith, is.order)))

  -- the token behind the next one
  pub second_token : next_token h (behind r 1) ≡ cond (ltb (r.from + 1) r.to) (if_there h (r.from + 1) (token h (r.from + 1))) None
  second_token = ⊎_elim
      (λ (lt : r.from < r.to).
      let n : r.from + at_most r 1 ≡ r.from + 1 = omega arith in
      ap (λ i. cond (ltb i r.to) (Some (token h i)) None) n ∙ ⊎_elim
      (λ (more : r.from + 1 < r.to). ap (λ (x : Option Token). cond (ltb (r.from + 1) r.to) x None) (sym (cond-true (ltb (r.from + 1) (length h.records)) (Some (token h (r.from + 1))) None (lt-ltb (r.from + 1) (length h.records) (omega (arith, rest_fits))))))
      (λ (last : r.to ≤ r.from + 1). cond-false (ltb (r.from + 1) r.to) _ None (le-ltb (r.from + 1) r.to last) ∙ sym (cond-false (ltb (r.from + 1) r.to) _ None (le-ltb (r.from + 1) r.to last)))
      (cases_lt (r.from + 1) r.to))
      (λ (ge : r.to ≤ r.from).
      let n : r.from + at_most r 1 ≡ r.from = omega arith in
      ap (λ i. cond (ltb i r.to) (Some (token h i)) None) n ∙ cond-false (ltb r.from r.to) _ None (le-ltb r.from r.to ge) ∙ sym (cond-false (ltb (r.from + 1) r.to) _ None (le-ltb (r.from + 1) r.to (omega arith))))
      (cases_lt r.from r.to)
