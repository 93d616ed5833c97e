-- The turns of a read of a list body, and of an entry. Assumes nothing.
use Rattle.std.specs.Prelude.{◌≡◌, ℕ, zero, suc, ◌+◌, ◌-◌, ◌<◌, ◌≤◌, Bool, true, false, cond, Some, Ok, Err, Option, nat_lt, refl}
use Rattle.std.proofs.Common.{sym, subst, ◌∙◌, arith}
use Rattle.std.proofs.lemmas.Bool.{lt-ltb, le-ltb, ltb-true}
use Rattle.std.proofs.lemmas.Bool.Decides.{nat_tests}
use Rattle.layout.specs.Rules.{Parts}
use Rattle.sheet.specs.Tokens.{token}
use Rattle.token_de.specs.declared.seed.Taken.{Taken}
use Rattle.token_de.specs.declared.fault.Fault.{Fault}
use Rattle.token_de.specs.declared.fault.Fault.TheVariants.{NoEquals}
use Rattle.token_de.specs.Steps.{◌then◌}
use Rattle.content.specs.Bodies.{Reads, is, passed, after, equals, items, body, entry}

-- what a comma or the end moves the place to
pub after_within : (h : Parts) (q e r : ℕ) → q ≤ e → after h q e ≡ Ok r → (q ≤ r) × (r ≤ e)
after_within h q e r le found = grind (arith, nat_tests)

-- a read of a list body, at p after n words
pub record Turn {V : Type 0} (h : Parts) (m : Reads V) (first p e n : ℕ) : Type 0 where
  pub left : ℕ
  pub enough : e - p ≤ left
  pub counted : first + n ≤ p
  pub within : p ≤ e
  pub same : items h m left first p e n ≡ body h m first e

module _ {V : Type 0} (h : Parts) (m : Reads V) (first : ℕ) where
  -- one turn of `items`
  pub turn : (k p e n : ℕ) → p < e → e - p ≤ k → items h m k first p e n ≡ m p e (passed first p) then (λ t. after h (p + t.count) e then (λ q. items h m (k - 1) first q e (n + 1)))
  turn zero p e n lt enough = absurd (omega arith)
  turn (suc k) p e n lt enough = rw (lt-ltb p e lt) (let z : suc k - 1 ≡ k = omega arith in rw z)

  pub end : (k p e n : ℕ) → e ≤ p → items h m k first p e n ≡ Ok n
  end zero p e n le = refl
  end (suc k) p e n le = rw (le-ltb p e le)

  pub start : (e : ℕ) → first ≤ e → Turn h m first first e 0
  start e le = record { left = e - first; enough = omega arith; counted = omega arith; within = le; same = refl }

  pub finish : (p e n : ℕ) → Turn h m first p e n → e ≤ p → Ok n ≡ body h m first e
  finish p e n t le = sym (end t.left p e n le) ∙ t.same

  -- a read at p, after the last token passed there
  module _ (p e n : ℕ) (t : Turn h m first p e n) (lt : p < e) (last : Option ℕ) (is_last : last ≡ passed first p) where
    here : items h m t.left first p e n ≡ m p e last then (λ u. after h (p + u.count) e then (λ q. items h m (t.left - 1) first q e (n + 1)))
    here = rw is_last (turn t.left p e n lt t.enough)

    pub refused : (f : Fault) → m p e last ≡ Err f → Err f ≡ body h m first e
    refused f no_word = (rw no_word at (sym here)) ∙ t.same

    module _ (u : Taken V) (word : m p e last ≡ Ok u) where
      then_after : after h (p + u.count) e then (λ q. items h m (t.left - 1) first q e (n + 1)) ≡ body h m first e
      then_after = (rw word at (sym here)) ∙ t.same

      pub stopped : (f : Fault) → after h (p + u.count) e ≡ Err f → Err f ≡ body h m first e
      stopped f no_comma = rw no_comma at then_after

      pub next : 0 < u.count → p + u.count ≤ e → (q : ℕ) → after h (p + u.count) e ≡ Ok q → Turn h m first q e (n + 1)
      next some within q comma =
          let a = after_within h (p + u.count) e q within comma in
          record {
            left = t.left - 1;
            enough = omega (arith, t.enough);
            counted = omega (arith, t.counted);
            within = a.1;
            same = rw comma at then_after;
          }

-- the `=` behind a key
pub equals_at : (h : Parts) (p q e r : ℕ) → equals h p q e ≡ Ok r → (r ≡ q) × (r < e) × (is 61 (token h r) ≡ true)
equals_at h p q e r found = go (nat_lt q e) (is 61 (token h q)) refl refl found
  where
    go : (b c : Bool) → nat_lt q e ≡ b → is 61 (token h q) ≡ c → cond b (cond c (Ok q) (Err (NoEquals q))) (Err (NoEquals p)) ≡ Ok r → (r ≡ q) × (r < e) × (is 61 (token h r) ≡ true)
    go true true lt it f = let same : q ≡ r = cc in (sym same, subst (λ x. x < e) same (ltb-true q e lt), subst (λ x. is 61 (token h x) ≡ true) same it)
    go true false lt it f = let z : ◌≡◌ {A = ℕ} 0 1 = cc in absurd (omega arith)
    go false c lt it f = let z : ◌≡◌ {A = ℕ} 0 1 = cc in absurd (omega arith)

-- an entry, from the reads of its key, its `=` and its value
module _ {K V : Type 0} (h : Parts) (k : Reads K) (v : Reads V) (p e : ℕ) (last : Option ℕ) where
  pub no_key : (f : Fault) → k p e last ≡ Err f → entry h k v p e last ≡ Err f
  no_key f none = rw none

  module _ (t : Taken K) (key : k p e last ≡ Ok t) where
    pub no_equals : (f : Fault) → equals h p (p + t.count) e ≡ Err f → entry h k v p e last ≡ Err f
    no_equals f none = rw (key, none)

    module _ (q : ℕ) (at : equals h p (p + t.count) e ≡ Ok q) where
      pub no_value : (f : Fault) → v (q + 1) e (Some q) ≡ Err f → entry h k v p e last ≡ Err f
      no_value f none = rw (key, at, none)

      pub has_entry : (u : Taken V) → v (q + 1) e (Some q) ≡ Ok u → entry h k v p e last ≡ Ok (record { count = t.count + 1 + u.count; value = (t.value, u.value) })
      has_entry u val = rw (key, at, val)
