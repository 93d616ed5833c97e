-- Bodies lie in order: they do not overlap, and each record before their end is in one. Assumes nothing.
use Rattle.std.proofs.Common.{◌≡◌, ℕ, zero, suc, ◌+◌, ◌<◌, ◌≤◌, true, List, sym, subst, ⊎_elim, arith}
use Rattle.std.proofs.lemmas.Bool.{cases_lt}
use Rattle.std.proofs.lemmas.Bool.Decides.{nat_tests}
use Rattle.layout.specs.declared.record.Record.{Record}
use Rattle.layout.specs.Rules.{entry, group, bodies_end, InBody, Placed}

module _ (rs : List Record) where
  -- the records before i are placed by rule
  abbrev pub Before : ℕ → Type 0
  Before i = (j : ℕ) → j < i → Placed rs j

  pub end_of : (g : ℕ) → group (entry rs g) ≡ true → bodies_end rs (suc g) ≡ (entry rs g).a + (entry rs g).b
  end_of g is = grind (arith, nat_tests)

  next_end : (i : ℕ) → Placed rs i → bodies_end rs i ≤ bodies_end rs (suc i)
  next_end i p = let body = p.body in grind (arith, nat_tests)

  -- the ends do not fall
  pub ends_rise : (i j : ℕ) → i ≤ j → Before j → bodies_end rs i ≤ bodies_end rs j
  ends_rise i zero le ok = let z : i ≡ 0 = omega arith in subst (λ x. bodies_end rs x ≤ 1) (sym z) (omega arith)
  ends_rise i (suc j) le ok = ⊎_elim
      (λ (l : i < suc j). let ih = ends_rise i j (omega arith) (λ x h. ok x (omega arith)) in omega (arith, ih, next_end j (ok j (omega arith))))
      (λ (u : suc j ≤ i). let e : i ≡ suc j = omega arith in subst (λ x. bodies_end rs x ≤ bodies_end rs (suc j)) (sym e) (omega arith))
      (cases_lt i (suc j))

  -- a record before the end of the bodies is in one of them
  pub body_found : (i m : ℕ) → 0 < i → m ≤ i → Before m → i < bodies_end rs m → (g : ℕ) × InBody rs g i
  body_found i zero pos le ok lt = absurd (omega arith)
  body_found i (suc m) pos le ok lt = ⊎_elim
      (λ (l : i < bodies_end rs m). body_found i m pos (omega arith) (λ x h. ok x (omega arith)) l)
      (λ (u : bodies_end rs m ≤ i).
      let body = (ok m (omega arith)).body in
      (m, record { earlier = omega arith; is_group = grind (arith, nat_tests); from = grind (arith, nat_tests); upto = grind (arith, nat_tests) }))
      (cases_lt i (bodies_end rs m))

  -- and a record in a body is before their end
  pub inside_end : (i g : ℕ) → InBody rs g i → Before i → i < bodies_end rs i
  inside_end i g b ok = let r = ends_rise (suc g) i (omega (arith, b.earlier)) ok in omega (arith, r, end_of g b.is_group, b.upto)
