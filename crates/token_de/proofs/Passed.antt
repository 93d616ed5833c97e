-- Past a comma and past an `=`. Assumes nothing.
use Rattle.std.proofs.Common.{◌≡◌, ℕ, ◌+◌, ◌-◌, ◌<◌, ◌≤◌, Bool, true, false, cond, Some, Ok, Err, refl, ap, ◌∙◌, ltb, arith}
use Rattle.std.proofs.lemmas.Bool.{ltb-true}
use Rattle.layout.specs.Rules.{Parts}
use Rattle.sheet.specs.declared.spot.Rest.{Rest}
use Rattle.sheet.specs.declared.input.Input.{Input}
use Rattle.sheet.specs.Tokens.{token}
use Rattle.sheet.specs.Sheets.{held}
use Rattle.sheet.specs.Inputs.{at_most, behind}
use Rattle.token_de.specs.declared.fault.Fault.TheVariants.{NoEquals, NoSeparator}
use Rattle.token_de.specs.Separators.{is, after, equals, Comma, PastComma, Equals, PastEquals}

-- what stands behind a word is left of it
comma_there : (h : Parts) (q e n : ℕ) → after h q e ≡ Ok (q + n) → n ≤ e - q
comma_there h q e n found = go (ltb q e) (is 44 (token h q)) refl found
  where
    go : (b c : Bool) → ltb q e ≡ b → cond b (cond c (Ok (q + 1)) (Err (NoSeparator q))) (Ok q) ≡ Ok (q + n) → n ≤ e - q
    go true true lt f = let same : q + 1 ≡ q + n = cc in let low = ltb-true q e lt in omega arith
    go true false lt f = let z : ◌≡◌ {A = ℕ} 0 1 = cc in absurd (omega arith)
    go false c lt f = let same : q ≡ q + n = cc in omega arith

pub comma_passed : (x y : Input) (n : ℕ) → Comma x n → y.sheet ≡ x.sheet → y.rest ≡ behind x.rest n → PastComma x y
comma_passed x y n is sheet rest =
    let fits = comma_there (held x.sheet) x.rest.from x.rest.to n is in
    let from : x.rest.from + n ≡ y.rest.from = let f = ap (λ (r : Rest). r.from) rest in omega arith in
    let trees : n ≡ y.rest.from - x.rest.from = omega (arith, from) in
    record { sheet = sheet; place = is ∙ ap Ok from; to = ap (λ (r : Rest). r.to) rest; rest = rest ∙ ap (behind x.rest) trees }

-- an `=` that was found is left of its key
equals_there : (h : Parts) (p q e : ℕ) → equals h p q e ≡ Ok q → q < e
equals_there h p q e found = go (ltb q e) (is 61 (token h q)) refl found
  where
    go : (b c : Bool) → ltb q e ≡ b → cond b (cond c (Ok q) (Err (NoEquals q))) (Err (NoEquals p)) ≡ Ok q → q < e
    go true c lt f = ltb-true q e lt
    go false c lt f = let z : ◌≡◌ {A = ℕ} 0 1 = cc in absurd (omega arith)

pub equals_passed : (x y z : Input) (n : ℕ) → Equals x n → z.sheet ≡ x.sheet → z.rest ≡ behind x.rest n → y.sheet ≡ z.sheet → y.rest ≡ behind z.rest 1 → PastEquals x n y
equals_passed x y z n is sheet rest next past =
    let low = equals_there (held x.sheet) x.rest.from (behind x.rest n).from x.rest.to is in
    record {
      sheet = next ∙ sheet;
      equals_at = (behind x.rest n).from;
      place = is;
      rest = past ∙ rw (rest) (one_past (behind x.rest n) low);
    }
  where
    one_past : (r : Rest) → r.from < r.to → behind r 1 ≡ record { from = r.from + 1; to = r.to; last = Some r.from }
    one_past r lt =
        let one : at_most r 1 ≡ 1 = omega arith in
        let back : r.from + 1 - 1 ≡ r.from = omega arith in
        ap (λ (k : ℕ). let x : Rest = record { from = r.from + k; to = r.to; last = cond (ltb 0 k) (Some (r.from + k - 1)) r.last } in x) one
        ∙ ap (λ (k : ℕ). let x : Rest = record { from = r.from + 1; to = r.to; last = Some k } in x) back
