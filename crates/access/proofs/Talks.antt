-- The calls of a talk are those of the plain list. Assumes nothing.
use Rattle.std.proofs.Common.{◌≡◌, ℕ, zero, suc, ◌+◌, ◌-◌, ◌<◌, ◌≤◌, Bool, true, false, cond, eqb, ltb, List, ◌++◌, Some, None, Ok, Err, Option, sym, refl, ap, ◌∙◌, subst, arith}
use Rattle.std.specs.Option.{option_map}
use Rattle.layout.specs.Rules.{Parts}
use Rattle.sheet.specs.declared.spot.Spot.{Spot}
use Rattle.sheet.specs.Spots.{rest}
use Rattle.token_de.specs.declared.seed.Taken.{Taken}
use Rattle.token_de.specs.declared.fault.Fault.{Fault}
use Rattle.token_de.specs.declared.fault.Fault.TheVariants.{NoEquals, NoSeparator}
use Rattle.token_de.specs.Meaning.{Answer, Meaning, Lawful}
use Rattle.access.specs.declared.drive.KeyMove.{KeyMove}
use Rattle.access.specs.declared.drive.KeyMove.TheVariants as at_key
use Rattle.access.specs.Plain.{equals_mark, comma, marked, Turn, key, value, over, Step, step, key_taken, element_taken, key_step, key_read, value_step, value_read}
use Rattle.access.specs.Calls.{State, Event, lands, Calls}
use Rattle.access.specs.Talks.{answer_map, forget, erased, Model, After, Leaves, key_after, value_after, call_at, turn_after, talk, Talked}
use Rattle.access.proofs.Ledger.{list_law}

forget_ok : {V : Type 0} (r : Answer (Taken V)) (t : Taken (Unit {0})) → forget r ≡ Ok t → (u : Taken V) × (r ≡ Ok u) × (u.count ≡ t.count)
forget_ok (Ok u) t is = (u, refl, let same : ◌≡◌ {A = Taken (Unit {0})} (record { count = u.count; value = tt }) t = cc in ap (λ (x : Taken (Unit {0})). x.count) same)
forget_ok (Err f) t is = cc

forget_err : {V : Type 0} (r : Answer (Taken V)) (f : Fault) → forget r ≡ Err f → r ≡ Err f
forget_err (Ok u) f is = cc
forget_err (Err g) f is = cc

-- a seed stays lawful without its values
erased_lawful : {V : Type 0} {m : Meaning V} → Lawful m → Lawful (erased m)
erased_lawful {V} {m} law = record {
  within = λ h p e last t k run is. let u = forget_ok (m h p e last) t is in let w = law.within h p e last u.0 k run u.1 in omega (arith, w, u.2);
  stable = λ h p e f last before t k run other le is.
      let u = forget_ok (m h p e last) t is in
      ap forget (law.stable h p e f last before u.0 k run other (omega (arith, u.2)) u.1) ∙ ap (λ (n : ℕ). Ok (record { count = n; value = tt {0} })) u.2;
  refuses = λ h p e last f k run passed is. law.refuses h p e last f k run passed (forget_err (m h p e last) f is);
}

-- a step with its value changed
erase : {V W : Type 0} → (V → W) → Step V → Step W
erase g t = record { said = answer_map g t.said; turn = t.turn; at = t.at }

cond_of : {X Y : Type 0} (f : X → Y) (b : Bool) (x y : X) → cond b (f x) (f y) ≡ f (cond b x y)
cond_of f true x y = refl
cond_of f false x y = refl

module _ {V : Type 0} (h : Parts) (m : Meaning V) (s : Spot) where
  -- a value and the place behind it, without the value
  abbrev placed : V × ℕ → Unit {0} × ℕ
  placed x = (tt, x.1)

  key_taken_erased : (p e : ℕ) (r : Answer (Taken V)) → key_taken h p e (forget r) ≡ answer_map placed (key_taken h p e r)
  key_taken_erased p e (Ok t) = cond_of (answer_map placed) (marked h equals_mark (p + t.count) e) (Ok (t.value, p + t.count + 1)) (Err (NoEquals (cond (ltb (p + t.count) e) (p + t.count) p)))
  key_taken_erased p e (Err f) = refl

  abbrev no_key : Option V → Option (Unit {0})
  no_key o = option_map (λ _. tt) o

  key_step_erased : (x : Answer (V × ℕ)) → key_step s (answer_map placed x) ≡ erase no_key (key_step s x)
  unfolding erase
  key_step_erased (Ok x) = refl
  key_step_erased (Err f) = refl

  key_erased : key_read h (erased m) s ≡ erase no_key (key_read h m s)
  unfolding erase
  key_erased = let r = rest h s in
      let o = m h r.from r.to r.last in
      ap (λ (x : Answer (Unit {0} × ℕ)). cond (eqb r.from r.to) (step (Ok None) key s) (key_step s x)) (key_taken_erased r.from r.to o)
      ∙ ap (cond (eqb r.from r.to) (step (Ok None) key s)) (key_step_erased (key_taken h r.from r.to o))
      ∙ cond_of (erase no_key) (eqb r.from r.to) (step (Ok None) key s) (key_step s (key_taken h r.from r.to o))

  element_taken_erased : (p e : ℕ) (r : Answer (Taken V)) → element_taken h p e (forget r) ≡ answer_map placed (element_taken h p e r)
  element_taken_erased p e (Ok t) =
      ap (cond (eqb (p + t.count) e) (Ok (tt {0}, p + t.count)))
      (cond_of (answer_map placed) (marked h comma (p + t.count) e) (Ok (t.value, p + t.count + 1)) (Err (NoSeparator (p + t.count))))
      ∙ cond_of (answer_map placed) (eqb (p + t.count) e) (Ok (t.value, p + t.count))
      (cond (marked h comma (p + t.count) e) (Ok (t.value, p + t.count + 1)) (Err (NoSeparator (p + t.count))))
  element_taken_erased p e (Err f) = refl

  abbrev no_value : V → Unit {0}
  no_value v = tt

  value_step_erased : (p e : ℕ) (x : Answer (V × ℕ)) → value_step p e s (answer_map placed x) ≡ erase no_value (value_step p e s x)
  unfolding erase
  value_step_erased p e (Ok x) = refl
  value_step_erased p e (Err f) = refl

  value_erased : value_read h (erased m) s ≡ erase no_value (value_read h m s)
  value_erased = let r = rest h s in
      let o = m h r.from r.to r.last in
      ap (value_step r.from r.to s) (element_taken_erased r.from r.to o) ∙ value_step_erased r.from r.to (element_taken h r.from r.to o)

module _ {C K V X Y : Type 0} (d : Model C K V X Y) (keys : K → Meaning X) (values : V → Meaning Y) (h : Parts) where
  -- so many turns, and one turn
  abbrev so_many : ℕ → C → State → After C
  so_many n c s = talk d keys values h n c s

  abbrev one : C → State → After C
  one c s = turn_after d keys values h c s

  module _ (lawful_keys : (k : K) → Lawful (keys k)) (lawful_values : (v : V) → Lawful (values v)) where
    -- the calls of one turn, before those of a run from where it leaves the list
    Goes : (s : State) → After C → Type 0
    Goes s a = (es : List Event) → Calls h a.list es → Calls h s (a.made ++ es)

    key_goes : (c : C) (s : Spot) (x : KeyMove K) → Goes (record { turn = key; at = s }) (key_after d keys values h c s x)
    unfolding Goes erase
    key_goes c s (at_key.Read k) es calls =
        let e = key_erased h (keys k) s in (
          (refl, erased_lawful (lawful_keys k), sym (ap (λ (t : Step (Option (Unit {0}))). t.said) e)),
          subst (λ (t : Step (Option (Unit {0}))). Calls h (lands t) es) (sym e) calls,
        )
    key_goes c s at_key.Finish es calls = ((refl, refl), calls)
    key_goes c s at_key.Stop es calls = calls

    value_goes : (c : C) (s : Spot) (x : Option V) → Goes (record { turn = value; at = s }) (value_after d keys values h c s x)
    unfolding Goes erase
    value_goes c s (Some v) es calls =
        let e = value_erased h (values v) s in (
          (refl, erased_lawful (lawful_values v), sym (ap (λ (t : Step (Unit {0})). t.said) e)),
          subst (λ (t : Step (Unit {0})). Calls h (lands t) es) (sym e) calls,
        )
    value_goes c s None es calls = calls

    call_goes : (c : C) (u : Turn) (s : Spot) → Goes (record { turn = u; at = s }) (call_at d keys values h c u s)
    unfolding Goes
    call_goes c key s = key_goes c s (d.asks c)
    call_goes c value s = value_goes c s (d.reads c)
    call_goes c over s = λ es calls. calls

    pub talk_calls : (n : ℕ) (c : C) (s : State) → Calls h s (so_many n c s).made
    unfolding Goes talk
    talk_calls zero c s = tt
    talk_calls (suc n) c s = let a = one c s in call_goes c s.turn s.at (so_many n a.caller a.list).made (talk_calls n a.caller a.list)

    pub talked : (n : ℕ) (c : C) (s : State) (at_end : C) (list : State) → Leaves (so_many n c s) at_end list → Talked d keys values h n c s at_end list
    talked n c s at_end list left = record {
      caller = left.0;
      stands = left.1;
      calls = λ k is_key. talk_calls n c s;
      law = λ k begins. list_law.runs h s (so_many n c s).made k begins (talk_calls n c s);
    }

  -- the loop of a talk: what is left of it leaves the caller w and the list l
  abbrev pub Comes : ℕ → C → State → C → State → Type 0
  Comes n c s w l = Leaves (so_many n c s) w l

  pub comes_start : (n : ℕ) (c : C) (s : State) → Comes (n - 0) c s (so_many n c s).caller (so_many n c s).list
  comes_start n c s = let z : n ≡ n - 0 = omega arith in subst (λ (k : ℕ). Comes k c s (so_many n c s).caller (so_many n c s).list) z (refl, refl)

  pub comes_again : (n i : ℕ) (c c' w : C) (s s' l : State) → i < n → Leaves (one c s) c' s' → Comes (n - i) c s w l → Comes (n - (i + 1)) c' s' w l
  unfolding talk
  comes_again n i c c' w s s' l lt left inv =
      let z : n - i ≡ suc (n - (i + 1)) = omega arith in
      let m : Comes (suc (n - (i + 1))) c s w l = subst (λ (k : ℕ). Comes k c s w l) z inv in
      rw (left.0, left.1) m

  pub comes_end : (n i : ℕ) (c w : C) (s l : State) → n ≤ i → Comes (n - i) c s w l → (c ≡ w) × (s ≡ l)
  unfolding talk
  comes_end n i c w s l le inv =
      let z : n - i ≡ 0 = omega arith in
      let e : (w ≡ c) × (l ≡ s) = subst (λ (k : ℕ). Comes k c s w l) z inv in
      (sym e.0, sym e.1)
