-- Readings of list bodies and entries, over any words. Assumes nothing.
use Rattle.std.specs.Prelude.{◌≡◌, ℕ, zero, suc, ◌+◌, ◌-◌, ◌<◌, ◌≤◌, Bool, true, false, cond, ◌⊎◌, Some, None, Ok, Err, Option, nat_lt, refl}
use Rattle.std.proofs.Common.{ap, subst, ◌∙◌, inl, inr, arith}
use Rattle.std.proofs.Math.Bool.{Bool-set}
use mathlib.Core.HLevel.{is_prop→PathP}
use Rattle.std.proofs.Math.Bridge.{le_prop}
use Rattle.std.proofs.Math.Nat.{ℕ_set}
use Rattle.std.proofs.lemmas.Bool.{cases_lt, lt-ltb, le-ltb, ltb-true, ltb-false}
use Rattle.layout.specs.Rules.{Parts}
use Rattle.sheet.specs.Tokens.{token}
use Rattle.token_de.specs.declared.seed.Taken.{Taken}
use Rattle.token_de.specs.declared.fault.Fault.TheVariants.{NoSeparator}
use Rattle.token_de.specs.Steps.{◌then◌}
use Rattle.token_de.proofs.Trees.{then_ok}
use Rattle.content.specs.Bodies.{Reads, is, passed, after, equals, items, body, entry}
use Rattle.content.specs.Levelled.{Items, none, final, more, Entry}
use Rattle.content.specs.Turns.{end, equals_at}

-- what is taken in a run from first on up to e are its words, each with one reading
pub record Fits {V : Type 0} (m : Reads V) (W : ℕ → ℕ → V → Type 0) (first e : ℕ) : Type 0 where
  pub within : (p : ℕ) (last : Option ℕ) (t : Taken V) → first ≤ p → p ≤ e → m p e last ≡ Ok t → (0 < t.count) × (p + t.count ≤ e)
  pub sound : (p : ℕ) (last : Option ℕ) (t : Taken V) → first ≤ p → p ≤ e → m p e last ≡ Ok t → W p (p + t.count) t.value
  pub complete : (p q : ℕ) (last : Option ℕ) (v : V) → first ≤ p → p < q → q ≤ e → W p q v → m p e last ≡ Ok (record { count = q - p; value = v })
  pub one : (p q : ℕ) (v : V) → first ≤ p → p < q → q ≤ e → IsProp (W p q v)

-- a comma behind q, or the end there
after_cases : (h : Parts) (q e r : ℕ) → q ≤ e → after h q e ≡ Ok r → ((q ≡ e) × (r ≡ e)) ⊎ ((q < e) × (is 44 (token h q) ≡ true) × (r ≡ q + 1))
after_cases h q e r le found = go (nat_lt q e) (is 44 (token h q)) refl refl found
  where
    go : (b c : Bool) → nat_lt q e ≡ b → is 44 (token h q) ≡ c → cond b (cond c (Ok (q + 1)) (Err (NoSeparator q))) (Ok q) ≡ Ok r → ((q ≡ e) × (r ≡ e)) ⊎ ((q < e) × (is 44 (token h q) ≡ true) × (r ≡ q + 1))
    go true true lt it f = inr (ltb-true q e lt, it, cc)
    go true false lt it f = let z : ◌≡◌ {A = ℕ} 0 1 = cc in absurd (omega arith)
    go false c lt it f = let ge : e ≤ q = ltb-false q e lt in let same : q ≡ r = cc in inl (omega arith, omega arith)

after_end : (h : Parts) (q e : ℕ) → e ≤ q → after h q e ≡ Ok q
after_end h q e le = rw (le-ltb q e le)

after_comma : (h : Parts) (q e : ℕ) → q < e → is 44 (token h q) ≡ true → after h q e ≡ Ok (q + 1)
after_comma h q e lt it = rw (lt-ltb q e lt, it)

-- the words of a list body from p on, r in all with the n before
abbrev pub Found : {V : Type 0} → Parts → (ℕ → ℕ → V → Type 0) → ℕ → ℕ → ℕ → ℕ → Type 0
Found h W e p n r = (j : ℕ) × (r ≡ n + j) × Items h W e p j

module _ {V : Type 0} (h : Parts) (m : Reads V) (W : ℕ → ℕ → V → Type 0) (first e : ℕ) (fits : Fits m W first e) where
  -- two words from one place are one
  same_word : (p q q' : ℕ) (v v' : V) → first ≤ p → p < q → q ≤ e → W p q v → p < q' → q' ≤ e → W p q' v' → (q ≡ q') × (v ≡ v')
  same_word p q q' v v' lo lt le w lt' le' w' =
      let a = fits.complete p q None v lo lt le w in
      let b = fits.complete p q' None v' lo lt' le' w' in
      let same : ◌≡◌ {A = Taken V} (record { count = q - p; value = v }) (record { count = q' - p; value = v' }) = cc in
      let counts = ap (λ t. t.count) same in
      (omega arith, ap (λ t. t.value) same)

  comma_or_end : (k p n r : ℕ) → first ≤ p → p < e → e - p ≤ suc k → ((q : ℕ) → first ≤ q → q ≤ e → e - q ≤ k → items h m k first q e (n + 1) ≡ Ok r → Found h W e q (n + 1) r) →
      (t : Taken V) (q : ℕ) → m p e (passed first p) ≡ Ok t → items h m k first q e (n + 1) ≡ Ok r → ((p + t.count ≡ e) × (q ≡ e)) ⊎ ((p + t.count < e) × (is 44 (token h (p + t.count)) ≡ true) × (q ≡ p + t.count + 1)) → Found h W e p n r
  comma_or_end k p n r lo lt enough rest t q word is_r (inl (at_end, same)) =
      let w = fits.sound p (passed first p) t lo (omega arith) word in
      let done = end h m first k q e (n + 1) (omega arith) in
      let count : n + 1 ≡ r = cc in
      (1, omega arith, final lt t.value (subst (λ x. W p x t.value) at_end w) refl)
  comma_or_end k p n r lo lt enough rest t q word is_r (inr (more_left, comma, same)) =
      let w = fits.sound p (passed first p) t lo (omega arith) word in
      let some = fits.within p (passed first p) t lo (omega arith) word in
      let (j, count, words) = rest q (omega arith) (omega arith) (omega arith) is_r in
      (j + 1, omega arith, more (p + t.count) (omega arith) more_left t.value w comma j (subst (λ x. Items h W e x j) same words) refl)

  -- one turn of a read that ends well, where the rest is a list body
  items_turn : (k p n r : ℕ) → first ≤ p → p < e → e - p ≤ suc k → ((q : ℕ) → first ≤ q → q ≤ e → e - q ≤ k → items h m k first q e (n + 1) ≡ Ok r → Found h W e q (n + 1) r) →
      m p e (passed first p) then (λ t. after h (p + t.count) e then (λ q. items h m k first q e (n + 1))) ≡ Ok r → Found h W e p n r
  items_turn k p n r lo lt enough rest is_r =
      let (t, word, then_after) = then_ok (m p e (passed first p)) (λ t. after h (p + t.count) e then (λ q. items h m k first q e (n + 1))) r is_r in
      let (q, comma, left) = then_ok (after h (p + t.count) e) (λ q. items h m k first q e (n + 1)) r then_after in
      comma_or_end k p n r lo lt enough rest t q word left (after_cases h (p + t.count) e q (fits.within p (passed first p) t lo (omega arith) word).1 comma)

  pub items_sound : (k p n r : ℕ) → first ≤ p → p ≤ e → e - p ≤ k → items h m k first p e n ≡ Ok r → Found h W e p n r
  items_sound zero p n r lo le enough is_r = let same : n ≡ r = cc in (0, omega arith, none (omega arith) refl)
  items_sound (suc k) p n r lo le enough is_r = go (λ q. items_sound k q (n + 1) r) (cases_lt p e)
    where
      go : ((q : ℕ) → first ≤ q → q ≤ e → e - q ≤ k → items h m k first q e (n + 1) ≡ Ok r → Found h W e q (n + 1) r) → (p < e) ⊎ (e ≤ p) → Found h W e p n r
      go rest (inl lt) = items_turn k p n r lo lt enough rest (rw (lt-ltb p e lt) at is_r)
      go rest (inr ge) = let done = end h m first (suc k) p e n ge in let same : n ≡ r = cc in (0, omega arith, none (omega arith) refl)

  pub items_complete : (k p n j : ℕ) → first ≤ p → e - p ≤ k → Items h W e p j → items h m k first p e n ≡ Ok (n + j)
  items_complete k p n j lo enough (none at_end no_words) = end h m first k p e n (omega arith) ∙ ap Ok (omega arith)
  items_complete zero p n j lo enough (final lt v w one_word) = absurd (omega arith)
  items_complete (suc k) p n j lo enough (final lt v w one_word) =
      let word = fits.complete p e (passed first p) v lo lt (omega arith) w in
      rw (lt-ltb p e lt, word, after_end h (p + (e - p)) e (omega arith)) (end h m first k (p + (e - p)) e (n + 1) (omega arith) ∙ ap Ok (omega arith))
  items_complete zero p n j lo enough (more q pq qe v w comma i rest count) = absurd (omega arith)
  items_complete (suc k) p n j lo enough (more q pq qe v w comma i rest count) =
      let word = fits.complete p q (passed first p) v lo pq (omega arith) w in
      let lt : p < e = omega arith in
      let here : p + (q - p) ≡ q = omega arith in
      rw (lt-ltb p e lt, word, here, after_comma h q e qe comma) (items_complete k (q + 1) (n + 1) i (omega arith) (omega arith) rest ∙ ap Ok (omega arith))

  pub items_one : (k p j : ℕ) → first ≤ p → e - p ≤ k → IsProp (Items h W e p j)
  items_one k p j lo enough (none a b) (none c d) = λ i. none (ℕ_set p e a c i) (ℕ_set j 0 b d i)
  items_one k p j lo enough (none a b) (final lt v w c) = absurd (omega arith)
  items_one k p j lo enough (none a b) (more q pq qe v w comma i rest count) = absurd (omega arith)
  items_one k p j lo enough (final lt v w c) (none a b) = absurd (omega arith)
  items_one k p j lo enough (final lt v w c) (final lt' v' w' c') =
      let same = (same_word p e e v v' lo lt (omega arith) w lt' (omega arith) w').1 in
      λ i. final (le_prop lt lt' i) (same i) (is_prop→PathP (λ i. W p e (same i)) (λ i. fits.one p e (same i) lo lt (omega arith)) w w' i) (ℕ_set j 1 c c' i)
  items_one k p j lo enough (final lt v w c) (more q pq qe v' w' comma i rest count) =
      let same = (same_word p e q v v' lo lt (omega arith) w pq (omega arith) w').0 in absurd (omega arith)
  items_one k p j lo enough (more q pq qe v w comma i rest count) (none a b) = absurd (omega arith)
  items_one k p j lo enough (more q pq qe v w comma i rest count) (final lt v' w' c) =
      let same = (same_word p e q v' v lo lt (omega arith) w' pq (omega arith) w).0 in absurd (omega arith)
  items_one zero p j lo enough (more q pq qe v w comma i rest count) (more q' pq' qe' v' w' comma' i' rest' count') = absurd (omega arith)
  items_one (suc k) p j lo enough (more q pq qe v w comma i rest count) (more q' pq' qe' v' w' comma' i' rest' count') =
      let (qq, vv) = same_word p q q' v v' lo pq (omega arith) w pq' (omega arith) w' in
      let ii : i ≡ i' = omega arith in
      let lt = is_prop→PathP (λ t. p < qq t) (λ t. le_prop) pq pq' in
      let le = is_prop→PathP (λ t. qq t < e) (λ t. le_prop) qe qe' in
      λ t. more (qq t) (lt t) (le t) (vv t)
      (is_prop→PathP (λ t. W p (qq t) (vv t)) (λ t. fits.one p (qq t) (vv t) lo (lt t) (omega (arith, le t))) w w' t)
      (is_prop→PathP (λ t. is 44 (token h (qq t)) ≡ true) (λ t. Bool-set (is 44 (token h (qq t))) true) comma comma' t)
      (ii t)
      (is_prop→PathP (λ t. Items h W e (qq t + 1) (ii t)) (λ t. items_one k (qq t + 1) (ii t) (omega (arith, lt t)) (omega (arith, lt t))) rest rest' t)
      (is_prop→PathP (λ t. j ≡ ii t + 1) (λ t. ℕ_set j (ii t + 1)) count count' t)

-- an entry that is taken, in parts
pub record Parted {K V : Type 0} (h : Parts) (k : Reads K) (v : Reads V) (p e : ℕ) (last : Option ℕ) (t : Taken (K × V)) : Type 0 where
  pub key : Taken K
  pub value : Taken V
  pub has_key : k p e last ≡ Ok key
  pub before : p + key.count < e
  pub equal_sign : is 61 (token h (p + key.count)) ≡ true
  pub has_value : v (p + key.count + 1) e (Some (p + key.count)) ≡ Ok value
  pub same : record { count = key.count + 1 + value.count; value = (key.value, value.value) } ≡ t

parted : {K V : Type 0} (h : Parts) (k : Reads K) (v : Reads V) (p e : ℕ) (last : Option ℕ) (t : Taken (K × V)) → entry h k v p e last ≡ Ok t → Parted h k v p e last t
parted {K} {V} h k v p e last t found =
    let (a, key, then_equals) = then_ok (k p e last) _ t found in
    let (q, at, then_value) = then_ok (equals h p (p + a.count) e) _ t then_equals in
    let (b, val, made) = then_ok (v (q + 1) e (Some q)) _ t then_value in
    let (here, lt, it) = equals_at h p (p + a.count) e q at in
    record {
      key = a;
      value = b;
      has_key = key;
      before = subst (λ x. x < e) here lt;
      equal_sign = subst (λ x. is 61 (token h x) ≡ true) here it;
      has_value = subst (λ x. v (x + 1) e (Some x) ≡ Ok b) here val;
      same = cc;
    }

equals_here : (h : Parts) (p q e : ℕ) → q < e → is 61 (token h q) ≡ true → equals h p q e ≡ Ok q
equals_here h p q e lt it = rw (lt-ltb q e lt, it)

module _ {K V : Type 0} (h : Parts) (k : Reads K) (v : Reads V) (WK : ℕ → ℕ → K → Type 0) (WV : ℕ → ℕ → V → Type 0) (first e : ℕ) (fk : Fits k WK first e) (fv : Fits v WV first e) where
  entry_within : (p : ℕ) (last : Option ℕ) (t : Taken (K × V)) → first ≤ p → p ≤ e → entry h k v p e last ≡ Ok t → (0 < t.count) × (p + t.count ≤ e)
  entry_within p last t lo le found =
      let c = parted h k v p e last t found in
      let before = c.before in
      let count = ap (λ t. t.count) c.same in
      let w = fv.within (p + c.key.count + 1) (Some (p + c.key.count)) c.value (omega arith) (omega arith) c.has_value in
      (omega arith, omega arith)

  entry_sound : (p : ℕ) (last : Option ℕ) (t : Taken (K × V)) → first ≤ p → p ≤ e → entry h k v p e last ≡ Ok t → Entry h WK WV p (p + t.count) t.value
  entry_sound p last t lo le found =
      let c = parted h k v p e last t found in
      let before = c.before in
      let some = fk.within p last c.key lo le c.has_key in
      let w = fv.within (p + c.key.count + 1) (Some (p + c.key.count)) c.value (omega arith) (omega arith) c.has_value in
      let end : p + c.key.count + 1 + c.value.count ≡ p + (c.key.count + 1 + c.value.count) = omega arith in
      let value = subst (λ x. WV (p + c.key.count + 1) x c.value.value) end (fv.sound (p + c.key.count + 1) (Some (p + c.key.count)) c.value (omega arith) (omega arith) c.has_value) in
      subst (λ t. Entry h WK WV p (p + t.count) t.value) c.same (p + c.key.count, omega arith, omega arith, fk.sound p last c.key lo le c.has_key, c.equal_sign, value)

  entry_complete : (p q : ℕ) (last : Option ℕ) (kv : K × V) → first ≤ p → p < q → q ≤ e → Entry h WK WV p q kv → entry h k v p e last ≡ Ok (record { count = q - p; value = kv })
  entry_complete p q last kv lo lt le (r, pr, rq, wk, it, wv) =
      let key = fk.complete p r last kv.0 lo pr (omega arith) wk in
      let val = fv.complete (r + 1) q (Some r) kv.1 (omega arith) rq le wv in
      let here : p + (r - p) ≡ r = omega arith in
      let count : r - p + 1 + (q - (r + 1)) ≡ q - p = omega arith in
      rw (key, here, equals_here h p r e (omega arith) it, val) (ap (λ c. Ok (record { count = c; value = kv })) count)

  entry_one : (p q : ℕ) (kv : K × V) → first ≤ p → p < q → q ≤ e → IsProp (Entry h WK WV p q kv)
  entry_one p q kv lo lt le (r, pr, rq, wk, it, wv) (r', pr', rq', wk', it', wv') =
      let rr = (same_word h k WK first e fk p r r' kv.0 kv.0 lo pr (omega arith) wk pr' (omega arith) wk').0 in
      let a = is_prop→PathP (λ t. p < rr t) (λ t. le_prop) pr pr' in
      let b = is_prop→PathP (λ t. rr t + 1 < q) (λ t. le_prop) rq rq' in
      λ t. (
        rr t,
        a t,
        b t,
        is_prop→PathP (λ t. WK p (rr t) kv.0) (λ t. fk.one p (rr t) kv.0 lo (a t) (omega (arith, b t))) wk wk' t,
        is_prop→PathP (λ t. is 61 (token h (rr t)) ≡ true) (λ t. Bool-set (is 61 (token h (rr t))) true) it it' t,
        is_prop→PathP (λ t. WV (rr t + 1) q kv.1) (λ t. fv.one (rr t + 1) q kv.1 (omega (arith, a t)) (b t) le) wv wv' t,
      )

  pub entry_fits : Fits (entry h k v) (Entry h WK WV) first e
  entry_fits = record { within = entry_within; sound = entry_sound; complete = entry_complete; one = entry_one }

-- list bodies, whole
module _ {V : Type 0} (h : Parts) (m : Reads V) (W : ℕ → ℕ → V → Type 0) (first e : ℕ) (le : first ≤ e) (fits : Fits m W first e) where
  pub body_sound : (r : ℕ) → body h m first e ≡ Ok r → Items h W e first r
  body_sound r is_r =
      let (j, count, words) = items_sound h m W first e fits (e - first) first 0 r (omega arith) le (omega arith) is_r in
      let same : j ≡ r = omega arith in
      subst (Items h W e first) same words

  pub body_complete : (r : ℕ) → Items h W e first r → body h m first e ≡ Ok r
  body_complete r words = items_complete h m W first e fits (e - first) first 0 r (omega arith) (omega arith) words ∙ ap Ok (omega arith)

  pub body_one : (r : ℕ) → IsProp (Items h W e first r)
  body_one r = items_one h m W first e fits (e - first) first r (omega arith) (omega arith)
