-- Seeds that take one tree. Assumes nothing.
use Rattle.std.proofs.Common.{◌≡◌, ℕ, ◌+◌, ◌-◌, ◌<◌, ◌≤◌, Bool, true, false, cond, ◌⊎◌, length, Some, None, Ok, Err, Option, unwrap_or, sym, refl, ap, ◌∙◌, subst, inl, inr, ⊎_elim, arith}
use mathlib.Core.Path.{PathP, to_path_p}
use mathlib.Core.HLevel.{×_prop}
use native.Mathlib.Nat.{ℕ_set}
use base.Stored.{Coded-set}
use Rattle.std.proofs.lemmas.Bool.{cases_lt}
use Rattle.std.proofs.lemmas.Bool.Decides.{nat_tests}
use Rattle.std.specs.Option.{ok_or}
use Rattle.layout.specs.Rules.{Parts, limits, Kept}
use Rattle.layout.proofs.Scans.{rules_kept}
use Rattle.sheet.specs.contracts.token.Token.{the_row}
use Rattle.sheet.specs.declared.token.Token.{Token}
use Rattle.sheet.specs.Tokens.{token}
use Rattle.sheet.specs.Spots.{Run, Passed}
use Rattle.sheet.proofs.Runs.{run_fits, has_root}
use Rattle.token_de.specs.declared.seed.Taken.{Taken}
use Rattle.token_de.specs.declared.fault.Fault.{Fault}
use Rattle.token_de.specs.declared.fault.Fault.TheVariants.{Wrong, Ended, Data}
use Rattle.token_de.specs.declared.fault.DataFault.TheVariants.{Custom}
use Rattle.token_de.specs.declared.fault.Wanted.{Wanted}
use Rattle.token_de.specs.Meaning.{Answer, Proper, Lawful, Exact}
use Rattle.token_de.specs.Steps.{◌then◌, next, tree, single, tested, One}

pub token_set : IsSet Token
token_set = Coded-set the_row.coded

-- readings at the two ends of a path are joined over it
pub joined : (A : 𝕀 → Type 0) → IsProp (A 1) → (a : A 0) (b : A 1) → PathP A a b
joined A one a b = to_path_p A (one _ b)

pub then_ok : {X Y : Type 0} (r : Answer X) (f : X → Answer Y) (y : Y) → r then f ≡ Ok y → (x : X) × (r ≡ Ok x) × (f x ≡ Ok y)
then_ok (Ok x) f y e = (x, refl, e)
then_ok (Err x) f y e = let z : ◌≡◌ {A = ℕ} 0 1 = cc in absurd (omega arith)

pub then_err : {X Y : Type 0} (r : Answer X) (f : X → Answer Y) (e : Fault) → r then f ≡ Err e → (r ≡ Err e) ⊎ ((x : X) × (r ≡ Ok x) × (f x ≡ Err e))
then_err (Ok x) f y e = inr (x, refl, e)
then_err (Err x) f y e = inl (cc)

-- a run ends inside its sheet
pub run_inside : (h : Parts) (p e : ℕ) → Kept limits h → Run h p e → e ≤ length h.records
run_inside h p e k run = run_fits h p e (rules_kept limits h k) run

-- what is named where no token is left is a record of the sheet
pub passed_inside : (h : Parts) (last : Option ℕ) → Kept limits h → Passed h last → unwrap_or last 0 < length h.records
passed_inside h None k ok = has_root h (rules_kept limits h k)
passed_inside h (Some i) k ok = ok

module _ (wanted : Wanted) (h : Parts) (p e : ℕ) (last : Option ℕ) where
  pub next_is : p < e → p < length h.records → next wanted h p e last ≡ Ok (token h p)
  next_is lt in_range = grind (arith, nat_tests)

  pub next_none : e ≤ p → next wanted h p e last ≡ Err (Ended wanted (unwrap_or last 0))
  next_none le = grind (arith, nat_tests)

module _ {V : Type 0} (wanted : Wanted) (f : Parts → ℕ → Token → Answer V) where
  counted : V → Answer (Taken V)
  counted v = Ok (record { count = 1; value = v })

  -- a tree where a token is left, and where none is
  pub tree_left : (h : Parts) (p e : ℕ) (last : Option ℕ) → p < e → p < length h.records → tree wanted f h p e last ≡ f h p (token h p) then (λ v. Ok (record { count = 1; value = v }))
  tree_left h p e last lt in_range = ap (λ (r : Answer Token). r then (λ t. f h p t then (λ v. Ok (record { count = 1; value = v })))) (next_is wanted h p e last lt in_range)

  pub tree_none : (h : Parts) (p e : ℕ) (last : Option ℕ) → e ≤ p → tree wanted f h p e last ≡ Err (Ended wanted (unwrap_or last 0))
  tree_none h p e last le = ap (λ (r : Answer Token). r then (λ t. f h p t then (λ v. Ok (record { count = 1; value = v })))) (next_none wanted h p e last le)

  -- what a tree's reading says
  pub tree_ok : (h : Parts) (p e : ℕ) (last : Option ℕ) (t : Taken V) → e ≤ length h.records → tree wanted f h p e last ≡ Ok t → (p < e) × (t.count ≡ 1) × (f h p (token h p) ≡ Ok t.value)
  tree_ok h p e last t inside is = ⊎_elim
      (λ (lt : p < e).
      let k = then_ok (f h p (token h p)) (λ v. Ok (record { count = 1; value = v })) t (sym (tree_left h p e last lt (omega arith)) ∙ is) in
      let same : ◌≡◌ {A = Taken V} (record { count = 1; value = k.0 }) t = cc k.2 in
      (lt, sym (ap (λ (x : Taken V). x.count) same), k.1 ∙ ap (λ (x : Taken V). Ok x.value) same))
      (λ (le : e ≤ p). absurd (let n = tree_none h p e last le in let z : ◌≡◌ {A = ℕ} 0 1 = cc in omega arith))
      (cases_lt p e)

  pub tree_is : (h : Parts) (p e : ℕ) (last : Option ℕ) (v : V) → p < e → p < length h.records → f h p (token h p) ≡ Ok v → tree wanted f h p e last ≡ Ok (record { count = 1; value = v })
  tree_is h p e last v lt in_range is = tree_left h p e last lt in_range ∙ ap (λ (r : Answer V). r then (λ v. Ok (record { count = 1; value = v }))) is

  tree_err : (h : Parts) (p e : ℕ) (last : Option ℕ) (x : Fault) → e ≤ length h.records → tree wanted f h p e last ≡ Err x → (Ended wanted (unwrap_or last 0) ≡ x) ⊎ ((p < length h.records) × (f h p (token h p) ≡ Err x))
  tree_err h p e last x inside is = ⊎_elim
      (λ (lt : p < e). ⊎_elim
      (λ none. inr (omega arith, none))
      (λ some. absurd (let z : ◌≡◌ {A = ℕ} 0 1 = cc some.2 in omega arith))
      (then_err (f h p (token h p)) (λ v. Ok (record { count = 1; value = v })) x (sym (tree_left h p e last lt (omega arith)) ∙ is)))
      (λ (le : e ≤ p). inl (let n = tree_none h p e last le in cc))
      (cases_lt p e)

  -- such a seed is lawful if the faults of its token are proper
  pub tree_lawful : ((h : Parts) (p : ℕ) (x : Fault) → Kept limits h → p < length h.records → f h p (token h p) ≡ Err x → Proper h x) → Lawful (tree wanted f)
  tree_lawful proper = record {
    within = λ h p e last t k run is. let o = tree_ok h p e last t (run_inside h p e k run) is in omega (arith, o.0, o.1);
    stable = λ h p e g last before t k run other le is.
        let o = tree_ok h p e last t (run_inside h p e k run) is in
        tree_is h p g before t.value (omega (arith, o.1)) (omega (arith, o.0, run_inside h p e k run)) o.2 ∙ ap (λ n. Ok (record { count = n; value = t.value })) (sym o.1);
    refuses = λ h p e last x k run passed is.
        ⊎_elim
        (λ none. subst (Proper h) none (record { inside = passed_inside h last k passed; ranged = tt }))
        (λ here. proper h p x k here.0 here.1)
        (tree_err h p e last x (run_inside h p e k run) is);
  }

  module _ (W : Parts → ℕ → V → Type 0)
      (f_sound : (h : Parts) (p : ℕ) (v : V) → f h p (token h p) ≡ Ok v → W h p v)
      (f_complete : (h : Parts) (p : ℕ) (v : V) → W h p v → f h p (token h p) ≡ Ok v)
      (f_one : (h : Parts) (p : ℕ) (v : V) → (x y : W h p v) → x ≡ y) where
    pub tree_exact : Exact (tree wanted f) (One W)
    tree_exact = record {
      some = λ h p q v w. omega (arith, w.0);
      sound = λ h p e last t k run is.
          let o = tree_ok h p e last t (run_inside h p e k run) is in
          (ap (λ n. p + n) o.1, f_sound h p t.value o.2);
      complete = λ h p q e last v k run le w.
          let one : 1 ≡ q - p = omega (arith, w.0) in
          tree_is h p e last v (omega (arith, w.0)) (omega (arith, w.0, run_inside h p e k run)) (f_complete h p v w.1) ∙ ap (λ n. Ok (record { count = n; value = v })) one;
      one = λ h p q v k. ×_prop (ℕ_set q (p + 1)) (f_one h p v);
    }

-- a single token whose value is an option: its one refusal names it
module _ {V : Type 0} (wanted : Wanted) (f : Parts → Token → Option V) where
  pub or_wrong : {A : Type 0} (o : Option A) (p : ℕ) (x : Fault) → ok_or o (Wrong wanted p) ≡ Err x → Wrong wanted p ≡ x
  or_wrong (Some a) p x is = absurd (let z : ◌≡◌ {A = ℕ} 0 1 = cc in omega arith)
  or_wrong None p x is = cc

  or_some : (o : Option V) (p : ℕ) (v : V) → ok_or o (Wrong wanted p) ≡ Ok v → o ≡ Some v
  or_some (Some a) p v is = cc
  or_some None p v is = absurd (let z : ◌≡◌ {A = ℕ} 0 1 = cc in omega arith)

  pub single_lawful : Lawful (single wanted f)
  single_lawful = tree_lawful wanted (λ h p t. ok_or (f h t) (Wrong wanted p))
      (λ h p x k in_range is. subst (Proper h) (or_wrong (f h (token h p)) p x is) (record { inside = in_range; ranged = tt }))

  module _ (W : Parts → ℕ → V → Type 0)
      (f_sound : (h : Parts) (p : ℕ) (v : V) → f h (token h p) ≡ Some v → W h p v)
      (f_complete : (h : Parts) (p : ℕ) (v : V) → W h p v → f h (token h p) ≡ Some v)
      (f_one : (h : Parts) (p : ℕ) (v : V) → (x y : W h p v) → x ≡ y) where
    pub single_exact : Exact (single wanted f) (One W)
    single_exact = tree_exact wanted (λ h p t. ok_or (f h t) (Wrong wanted p)) W
        (λ h p v is. f_sound h p v (or_some (f h (token h p)) p v is))
        (λ h p v w. ap (λ (o : Option V). ok_or o (Wrong wanted p)) (f_complete h p v w))
        f_one

-- a single token whose value passes a test: it is a wrong token, or a data fault at record 0
module _ {V : Type 0} (wanted : Wanted) (f : Parts → Token → Option V) (test : V → Bool) (detail : ℕ) (low : 100 ≤ detail) (high : detail ≤ 255) where
  pub tested_lawful : Lawful (tested wanted f test detail)
  tested_lawful = tree_lawful wanted (λ h p t. ok_or (f h t) (Wrong wanted p) then (λ v. cond (test v) (Ok v) (Err (Data (Custom detail) 0))))
      (λ h p x k in_range is. ⊎_elim
      (λ none. subst (Proper h) (or_wrong wanted f (f h (token h p)) p x none) (record { inside = in_range; ranged = tt }))
      (λ some. subst (Proper h) (failed some.0 (test some.0) x some.2) (record { inside = has_root h (rules_kept limits h k); ranged = (low, high) }))
      (then_err (ok_or (f h (token h p)) (Wrong wanted p)) (λ v. cond (test v) (Ok v) (Err (Data (Custom detail) 0))) x is))
    where
      failed : (v : V) (b : Bool) (x : Fault) → cond b (Ok v) (Err (Data (Custom detail) 0)) ≡ Err x → Data (Custom detail) 0 ≡ x
      failed v true x is = absurd (let z : ◌≡◌ {A = ℕ} 0 1 = cc in omega arith)
      failed v false x is = cc
