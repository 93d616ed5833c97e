-- Which parts make a sheet. Assumes nothing.
use Rattle.std.proofs.Common.{◌≡◌, ℕ, ◌≤◌, Bool, true, false, cond, ◌&&◌, leb, List, length, is_ok, Ok, Err, Result, sym, refl, ap, ◌∙◌, subst}
use Rattle.std.proofs.lemmas.Bool.{and_parts, and_from, cond-true, leb-true, le-leb}
use Rattle.layout.specs.declared.record.Record.{Record}
use Rattle.layout.specs.declared.fault.LoadFault.{LoadFault}
use Rattle.layout.specs.Rules.{Parts, limits, sized, Kept}
use Rattle.layout.specs.Scan.{first_fault, faultless, refusal, kept}
use Rattle.layout.proofs.Scans.{kept_rules, rules_kept}
use Rattle.sheet.specs.Sheets.{parts_of, empty_sheet, sheetable, sheet_of, Made}

module _ (p : Parts) where
  sizes : Bool
  sizes = sized limits (length p.records) (length p.names) (length p.strings)

  ok_faultless : (r : Result (Unit {0}) LoadFault) → is_ok r ≡ faultless (refusal r)
  ok_faultless (Ok u) = refl
  ok_faultless (Err f) = refl

  -- the test of the sizes, and then the check of the records
  pub kept_checked : (r : Result (Unit {0}) LoadFault) → sized limits (length p.records) (length p.names) (length p.strings) ≡ true →
      refusal r ≡ first_fault (length p.names) (length p.strings) 32 p.records → is_ok r ≡ kept limits p
  unfolding kept
  kept_checked r yes_sized e = ok_faultless r ∙ ap faultless e
      ∙ ap (λ b. b && faultless (first_fault (length p.names) (length p.strings) 32 p.records)) (sym yes_sized)

module _ (n : ℕ) (table : List Record) (ns ss : List ℕ) where
  pub made : Made n table ns ss (sheet_of n table ns ss)
  made = record {
    lawful = λ le k. cond-true (sheetable n table ns ss) _ _ (and_from _ _ (le-leb n (length table) le) (rules_kept limits (parts_of n table ns ss) k));
    unlawful = λ breaks. go (sheetable n table ns ss) refl breaks;
  }
    where
      go : (b : Bool) → sheetable n table ns ss ≡ b → (n ≤ length table → Kept limits (parts_of n table ns ss) → ⊥) → cond b (parts_of n table ns ss) empty_sheet ≡ empty_sheet
      go true e breaks = let two = and_parts (leb n (length table)) _ e in absurd (breaks (leb-true n (length table) two.0) (kept_rules limits (parts_of n table ns ss) two.1))
      go false e breaks = refl

  pub made_at : (h : Parts) → h ≡ sheet_of n table ns ss → Made n table ns ss h
  made_at h e = subst (Made n table ns ss) (sym e) made
