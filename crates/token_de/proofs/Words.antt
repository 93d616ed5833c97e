-- Words that begin a run. Assumes nothing.
use Rattle.std.proofs.Common.{◌≡◌, ℕ, ◌+◌, ◌-◌, ◌≤◌, length, None, Ok, Err, sym, ap, ◌∙◌, subst, arith}
use native.Mathlib.Bridge.{le_prop}
use Rattle.layout.specs.Rules.{Parts, limits, Kept}
use Rattle.sheet.specs.declared.spot.Spot.{Spot}
use Rattle.layout.proofs.Scans.{kept_rules}
use Rattle.sheet.specs.declared.spot.Rest.{Rest}
use Rattle.sheet.specs.declared.sheet.Sheet.{Sheet}
use Rattle.sheet.specs.declared.input.Input.{Input}
use Rattle.sheet.specs.Sheets.{held}
use Rattle.sheet.specs.Spots.{Run, is_run, rest, past}
use Rattle.sheet.proofs.Runs.{run_is, run_fits}
use Rattle.token_de.specs.declared.seed.Taken.{Taken}
use Rattle.token_de.specs.declared.fault.Fault.{Fault}
use Rattle.token_de.specs.Meaning.{Meaning, on, Lawful, Grammar, Exact}
use Rattle.token_de.specs.Reading.{Begins, Accepted, Refused}
use Rattle.token_de.proofs.Trees.{joined}

module _ {V : Type 0} {m : Meaning V} {w : Grammar V} (exact : Exact m w) where
  -- two words that begin one run end together, with one value
  pub same_word : (h : Parts) (p e i j : ℕ) (u v : V) → Kept limits h → Run h p e → i ≤ e → j ≤ e → w h p i u → w h p j v → (i ≡ j) × (u ≡ v)
  same_word h p e i j u v k run low high x y =
      let a = exact.complete h p i e None u k run low x in
      let b = exact.complete h p j e None v k run high y in
      let t : ◌≡◌ {A = Taken V} (record { count = i - p; value = u }) (record { count = j - p; value = v }) = cc in
      (omega (arith, ap (λ z. z.count) t, exact.some h p i u x, exact.some h p j v y), ap (λ z. z.value) t)

  -- and they are one word with one reading
  pub one_way : (h : Parts) (p e : ℕ) → Kept limits h → Run h p e → (x y : Begins w h p e) → x ≡ y
  one_way h p e k run x y =
      let same = same_word h p e x.0 y.0 x.2 y.2 k run x.1 y.1 x.3 y.3 in
      λ n. (
        same.0 n,
        joined (λ n. same.0 n ≤ e) le_prop x.1 y.1 n,
        same.1 n,
        joined (λ n. w h p (same.0 n) (same.1 n)) (exact.one h p _ _ k) x.3 y.3 n,
      )

  -- a read on a cursor: accepted
  pub accepts : (h : Parts) (s : Spot) (r : Rest) (t : Taken V) → Lawful m → Kept limits h → r ≡ rest h s → Run h r.from r.to → Ok t ≡ m h r.from r.to r.last →
      Accepted w h s (past s (r.from + t.count)) t.value
  accepts h s r t law k is run ok = at_rest (rest h s) (subst (λ (x : Rest). Run h x.from x.to) is run) (ok ∙ ap (λ (x : Rest). m h x.from x.to x.last) is) (ap (λ (x : Rest). x.from) is)
    where
      at_rest : (x : Rest) → Run h (rest h s).from (rest h s).to → Ok t ≡ m h (rest h s).from (rest h s).to (rest h s).last → r.from ≡ (rest h s).from → Accepted w h s (past s (r.from + t.count)) t.value
      at_rest x there answer from =
          let inside = (law.within h (rest h s).from (rest h s).to (rest h s).last t k there (sym answer)).1 in
          let word = exact.sound h (rest h s).from (rest h s).to (rest h s).last t k there (sym answer) in
          record {
            end = (rest h s).from + t.count;
            inside = inside;
            word = word;
            only = λ y. one_way h (rest h s).from (rest h s).to k there y ((rest h s).from + t.count, inside, t.value, word);
            passes = ap (λ n. past s (n + t.count)) from;
          }

  -- and refused
  pub refuses : (h : Parts) (s : Spot) (r : Rest) (f : Fault) → Kept limits h → r ≡ rest h s → Run h r.from r.to → Err f ≡ m h r.from r.to r.last → Refused m w h s s f
  refuses h s r f k is run no_word =
      let there = subst (λ (x : Rest). Run h x.from x.to) is run in
      let fault = no_word ∙ ap (λ (x : Rest). m h x.from x.to x.last) is in
      record {
        none = λ x. let c = exact.complete h (rest h s).from x.0 (rest h s).to (rest h s).last x.2 k there x.1 x.3 in let z : ◌≡◌ {A = ℕ} 0 1 = cc in omega arith;
        fault = sym fault;
        stays = λ _. s;
      }

  -- the same of an input, what a sheet has of a spot
  module _ (x : Input) (sheet : Sheet) (s : Spot) (same : x.sheet ≡ sheet) (is : x.rest ≡ rest (held sheet) s) where
    keeps : Kept limits (held sheet)
    keeps = kept_rules limits (held sheet) sheet.lawful

    there : Run (held sheet) x.rest.from x.rest.to
    there = run_is (held sheet) _ _ (ap (λ (y : Sheet). is_run (held y) x.rest.from x.rest.to) (sym same) ∙ x.run)

    meant : on m x ≡ m (held sheet) x.rest.from x.rest.to x.rest.last
    meant = ap (λ (y : Sheet). m (held y) x.rest.from x.rest.to x.rest.last) same

    -- what a seed takes ends inside the sheet
    pub taken_inside : (t : Taken V) → Lawful m → Ok t ≡ on m x → x.rest.from + t.count ≤ length (held sheet).records
    taken_inside t law ok = omega (arith, law.within (held sheet) _ _ _ t keeps there (sym (ok ∙ meant)), run_fits (held sheet) _ _ sheet.lawful there)

    pub read_accepts : (t : Taken V) → Lawful m → Ok t ≡ on m x → Accepted w (held sheet) s (past s (x.rest.from + t.count)) t.value
    read_accepts t law ok = accepts (held sheet) s x.rest t law keeps is there (ok ∙ meant)

    pub read_refuses : (f : Fault) → Err f ≡ on m x → Refused m w (held sheet) s s f
    read_refuses f no_word = refuses (held sheet) s x.rest f keeps is there (no_word ∙ meant)
