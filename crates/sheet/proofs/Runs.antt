-- The runs of a sheet, and what it has of a spot. Assumes nothing.
use Rattle.std.proofs.Common.{◌≡◌, refl, subst, Bool, ℕ, zero, suc, ◌+◌, ◌<◌, ◌≤◌, true, false, ltb, leb, List, [], ◌∷◌, length, None, sym, inl, inr, ⊎_elim, arith}
use Rattle.std.proofs.lemmas.Bool.{leb-true, le-leb, ltb-true, and_parts, and_from, or_cases, or_left, or_right, cond-true, cond-false, cond_both}
use Rattle.std.proofs.lemmas.Bool.Decides.{nat_tests}
use Rattle.layout.specs.declared.record.Record.{Record}
use Rattle.layout.specs.Rules.{Parts, limits, entry, group}
use Rattle.layout.specs.Scan.{kept}
use Rattle.layout.proofs.Scans.{kept_rules}
use Rattle.sheet.specs.declared.spot.Spot.{Spot}
use Rattle.sheet.specs.declared.spot.Rest.{Rest}
use Rattle.sheet.specs.Spots.{holds, some_holds, Run, is_run, stands, last_passed, rest, Passed, Rested}

-- one of the records holds them, if record g does
pub one_holds : (rs : List Record) (g p e : ℕ) → g < length rs → holds (entry rs g) p e ≡ true → some_holds rs p e ≡ true
one_holds [] g p e lt ok = absurd (omega arith)
one_holds (r ∷ rs) zero p e lt ok = or_left _ _ ok
one_holds (r ∷ rs) (suc g) p e lt ok = or_right (holds r p e) _ (one_holds rs g p e (omega arith) ok)

-- and which one does
pub which_holds : (rs : List Record) (p e : ℕ) → some_holds rs p e ≡ true → (g : ℕ) × (g < length rs) × (holds (entry rs g) p e ≡ true)
which_holds [] p e ok = absurd (let z : ◌≡◌ {A = ℕ} 0 1 = cc in omega arith)
which_holds (r ∷ rs) p e ok = ⊎_elim
    (λ here. (0, omega arith, here))
    (λ later. let w = which_holds rs p e later in (suc w.0, omega (arith, w.1), w.2))
    (or_cases (holds r p e) (some_holds rs p e) ok)

-- the test of a run
pub run_is : (h : Parts) (p e : ℕ) → is_run h p e ≡ true → Run h p e
unfolding is_run
run_is h p e ok =
    let two = and_parts (leb p e) _ ok in
    record {
      order = leb-true p e two.0;
      within = ⊎_elim (λ low. inl (leb-true e 1 low)) (λ some. inr (which_holds h.records p e some)) (or_cases (leb e 1) _ two.1);
    }

pub run_test : (h : Parts) (p e : ℕ) → Run h p e → is_run h p e ≡ true
unfolding is_run
run_test h p e r = and_from _ _ (le-leb p e r.order) (⊎_elim
    (λ (low : e ≤ 1). or_left (leb e 1) _ (le-leb e 1 low))
    (λ b. or_right (leb e 1) _ (one_holds h.records b.0 p e b.1 b.2))
    r.within)

-- a part of a run is a run
pub run_part : (h : Parts) (p e q f : ℕ) → Run h p e → p ≤ q → q ≤ f → f ≤ e → Run h q f
run_part h p e q f r low mid high = record {
  order = mid;
  within = ⊎_elim (λ (l : e ≤ 1). inl (omega arith)) (λ b. inr (b.0, b.1, part (entry h.records b.0) b.2)) r.within;
}
  where
    part : (x : Record) → holds x p e ≡ true → holds x q f ≡ true
    part x ok = grind (arith, nat_tests)

-- a sheet has a record 0
pub has_root : (h : Parts) → kept limits h ≡ true → 0 < length h.records
has_root h lawful = let sizes = (kept_rules limits h lawful).sizes in grind (arith, nat_tests)

-- and at most 1024 of them
pub few_records : (h : Parts) → kept limits h ≡ true → length h.records ≤ 1024
few_records h lawful = let sizes = (kept_rules limits h lawful).sizes in grind (arith, nat_tests)

-- a run ends inside its sheet
pub run_fits : (h : Parts) (p e : ℕ) → kept limits h ≡ true → Run h p e → e ≤ length h.records
run_fits h p e lawful r = ⊎_elim
    (λ (low : e ≤ 1). omega (arith, has_root h lawful))
    (λ b.
    let a = and_parts (group (entry h.records b.0)) _ b.2 in
    omega (arith, leb-true e ((entry h.records b.0).a + (entry h.records b.0).b) (and_parts (leb (entry h.records b.0).a p) _ a.1).1, (((kept_rules limits h lawful).each b.0 b.1).placed.body a.0).1))
    r.within

abbrev pub full : Spot → Rest
full s = record { from = s.place; to = s.end; last = last_passed s }

abbrev pub nothing : Rest
nothing = record { from = 0; to = 0; last = None }

module _ (h : Parts) (s : Spot) (lawful : kept limits h ≡ true) where
  pub rest_full : stands h s ≡ true → Rested h s (full s)
  unfolding rest
  rest_full on =
      let a = and_parts (is_run h s.first s.end) _ on in
      let b = and_parts (leb s.first s.place) _ a.1 in
      let run = run_is h s.first s.end a.0 in
      let fits = run_fits h s.first s.end lawful run in
      let low : s.place ≤ s.end = leb-true s.place s.end b.1 in
      record {
        is = sym (cond-true (stands h s) _ _ on);
        run = run_part h s.first s.end s.place s.end run (leb-true s.first s.place b.0) low (omega arith);
        within = fits;
        passed = cond_both (ltb s.first s.place) _ _ (Passed h) (λ l. omega (arith, fits, low, ltb-true s.first s.place l)) (λ _. tt);
      }

  pub rest_nothing : stands h s ≡ false → Rested h s nothing
  unfolding rest
  rest_nothing off = record {
    is = sym (cond-false (stands h s) _ _ off);
    run = record { order = omega arith; within = inl (omega arith) };
    within = omega arith;
    passed = tt;
  }

-- a rest ends inside its sheet
pub rest_inside : (h : Parts) (s : Spot) → kept limits h ≡ true → (rest h s).to ≤ length h.records
rest_inside h s lawful = go (stands h s) refl
  where
    go : (b : Bool) → stands h s ≡ b → (rest h s).to ≤ length h.records
    go true on = let r = rest_full h s lawful on in subst (λ (x : Rest). x.to ≤ length h.records) r.is r.within
    go false off = let r = rest_nothing h s lawful off in subst (λ (x : Rest). x.to ≤ length h.records) r.is r.within
