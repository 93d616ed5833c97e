-- What the rules tell of each token of a sheet. Assumes nothing.
use Rattle.std.proofs.Common.{◌≡◌, ℕ, ◌+◌, ◌<◌, ◌≤◌, true, ltb, length, Some, None, sym, ap, inr, ◌∙◌, ⊎_elim, arith}
use Rattle.std.proofs.lemmas.Bool.{cond-true, cond-false, lt-ltb, le-ltb, le-leb, and_from, cases_lt}
use Rattle.std.proofs.lemmas.Bool.Decides.{nat_tests}
use Rattle.layout.specs.declared.record.Record.{Record}
use Rattle.layout.specs.Rules.{Parts, limits, entry, group, lined}
use Rattle.layout.specs.Scan.{kept}
use Rattle.layout.proofs.Scans.{kept_rules}
use Rattle.sheet.specs.declared.token.Group.{Group}
use Rattle.sheet.specs.declared.token.Token.{Token}
use Rattle.sheet.specs.declared.token.Token.TheVariants as tokens
use Rattle.sheet.specs.Tokens.{scalar_char, token_of, token}
use Rattle.sheet.specs.Trees.{if_there}
use Rattle.sheet.specs.Spots.{Run, body_of, at_body, rest}
use Rattle.sheet.proofs.Runs.{run_test, rest_full}

module _ (l m : ℕ) (r : Record) (line : lined l m r ≡ true) where
  pub scalar_line : r.kind ≡ 2 → scalar_char r
  scalar_line k s = grind (arith, nat_tests)

  pub group_line : (g : Group) → tokens.Group g ≡ token_of r → (group r ≡ true) × (g.first ≡ r.a) × (g.count ≡ r.b)
  group_line g e = (grind (arith, nat_tests), grind (arith, nat_tests), grind (arith, nat_tests))

module _ (h : Parts) (i : ℕ) (lawful : kept limits h ≡ true) (in_range : i < length h.records) where
  pub line : lined (length h.names) (length h.strings) (entry h.records i) ≡ true
  line = ((kept_rules limits h lawful).each i in_range).line

  pub char_fits : (entry h.records i).kind ≡ 2 → scalar_char (entry h.records i)
  char_fits = scalar_line (length h.names) (length h.strings) (entry h.records i) line

  pub body_fits : (g : Group) → tokens.Group g ≡ token h i → g.first + g.count ≤ length h.records
  unfolding token
  body_fits g e =
      let is = group_line (length h.names) (length h.strings) (entry h.records i) line g e in
      omega (arith, is.1, is.2, (((kept_rules limits h lawful).each i in_range).placed.body is.0).1)

  -- its body is a run
  pub body_run : (g : Group) → tokens.Group g ≡ token h i → Run h g.first (g.first + g.count)
  unfolding token
  body_run g e =
      let is = group_line (length h.names) (length h.strings) (entry h.records i) line g e in
      record {
        order = omega arith;
        within = inr (i, in_range, and_from _ _ is.0 (and_from _ _ (le-leb (entry h.records i).a g.first (omega (arith, is.1))) (le-leb (g.first + g.count) ((entry h.records i).a + (entry h.records i).b) (omega (arith, is.1, is.2)))));
      }

  -- and the sheet has all of it where a cursor begins it
  pub body_rest : (g : Group) → tokens.Group g ≡ token h i → rest h (at_body (body_of i g)) ≡ record { from = g.first; to = g.first + g.count; last = None }
  body_rest g e =
      let run = run_test h g.first (g.first + g.count) (body_run g e) in
      let low = le-leb g.first g.first (omega arith) in
      let high = le-leb g.first (g.first + g.count) (omega arith) in
      sym (rest_full h (at_body (body_of i g)) lawful (and_from _ _ run (and_from _ _ low high))).is
      ∙ ap (λ b. record { from = g.first; to = g.first + g.count; last = b }) (cond-false (ltb g.first g.first) _ None (le-ltb g.first g.first (omega arith)))

-- the body of a group that a sheet answers ends inside the sheet
pub body_there : (h : Parts) (i : ℕ) → kept limits h ≡ true → (g : Group) → Some (tokens.Group g) ≡ if_there h i (token h i) → g.first + g.count ≤ length h.records
body_there h i lawful g e = ⊎_elim
    (λ (lt : i < length h.records). body_fits h i lawful lt g (some_same (e ∙ cond-true (ltb i (length h.records)) _ None (lt-ltb i (length h.records) lt))))
    (λ (ge : length h.records ≤ i). absurd (let none = e ∙ cond-false (ltb i (length h.records)) _ None (le-ltb i (length h.records) ge) in let z : ◌≡◌ {A = ℕ} 0 1 = cc in omega arith))
    (cases_lt i (length h.records))
  where
    some_same : {x y : Token} → Some x ≡ Some y → x ≡ y
    some_same e = cc
