-- Where a cursor stands. Assumes nothing.
use Rattle.std.proofs.Common.{◌≡◌, true, ℕ, ◌<◌, ◌≤◌, ltb, Some, None, ◌∙◌, ap, ⊎_elim, arith}
use Rattle.std.specs.Option.{option_map}
use Rattle.std.proofs.lemmas.Bool.{cond-true, cond-false, lt-ltb, le-ltb, cases_lt}
use Rattle.layout.specs.Rules.{Parts, limits}
use Rattle.layout.specs.Scan.{kept}
use Rattle.sheet.specs.declared.spot.Spot.{Spot}
use Rattle.sheet.specs.Tokens.{token}
use Rattle.sheet.specs.Spots.{rest}
use Rattle.sheet.specs.Trees.{Seen, tree_of}
use Rattle.sheet.proofs.Runs.{few_records, rest_inside}
use Rattle.token_de.specs.Cursors.{peeked}

-- what is peeked at is left, and the first
peeked_left : (h : Parts) (s : Spot) (i : ℕ) (t : Seen) → Some (i, t) ≡ peeked h s → (i ≡ (rest h s).from) × (i < (rest h s).to)
unfolding peeked
peeked_left h s i t is = ⊎_elim
    (λ (lt : (rest h s).from < (rest h s).to).
    let o = ap (option_map (λ (t : Seen). ((rest h s).from, t))) (cond-true (ltb (rest h s).from (rest h s).to) (Some (tree_of h (rest h s).from (token h (rest h s).from))) None (lt-ltb (rest h s).from (rest h s).to lt)) in
    let e : i ≡ (rest h s).from = ap (λ (p : ℕ × Seen). p.0) (some_same (is ∙ o)) in (e, omega (arith, e, lt)))
    (λ (ge : (rest h s).to ≤ (rest h s).from).
    absurd (let o = is ∙ ap (option_map (λ (t : Seen). ((rest h s).from, t))) (cond-false (ltb (rest h s).from (rest h s).to) (Some (tree_of h (rest h s).from (token h (rest h s).from))) None (le-ltb (rest h s).from (rest h s).to ge)) in let z : ◌≡◌ {A = ℕ} 0 1 = cc in omega arith))
    (cases_lt (rest h s).from (rest h s).to)
  where
    some_same : {x y : ℕ × Seen} → Some x ≡ Some y → x ≡ y
    some_same e = cc

-- so one more is still a place
pub peeked_few : (h : Parts) (s : Spot) (i : ℕ) (t : Seen) → kept limits h ≡ true → Some (i, t) ≡ peeked h s → i < 1024
peeked_few h s i t lawful is = omega (arith, (peeked_left h s i t is).1, rest_inside h s lawful, few_records h lawful)
